-- The manual shares of a record, and why they aren't told.
use Rattle.std.proofs.Common.{◌≡◌, ◌∙◌, ℕ, Bool, true, false, cond, List, [], ◌∷◌, map, Option, Some, None, refl, sym, ap, subst}
use Rattle.std.specs.Prelude.{codes, Result, Ok, Err}
use Rattle.std.specs.Option.{option_and_then}
use Rattle.access_shares.specs.Shareable.{FindsShareable, IsShareable}
use Rattle.base_json.specs.declared.tree.Json.{Json}
use Rattle.base_value.specs.Id.{id_in}
use Rattle.base_value.specs.declared.sharing.Level.TheVariants.{Full}
use Rattle.model.specs.Cases.{in_case}
use Rattle.model.specs.Levels.{can_read}
use Rattle.model.specs.Objects.{record_at}
use Rattle.model.specs.Paths.{Asked, if_readable}
use Rattle.model.specs.Rights.{denied}
use Rattle.model.specs.Rules.{Rule, first_refusal}
use Rattle.model.specs.Shares.{detail_refused, shares_of}
use Rattle.model.specs.Tenant.{Share, Tenant}
use Rattle.model.specs.Verdict.{Done, Verdict, accept, done, refuse, unless}
use Rattle.model.specs.declared.record.Record.{Record}
use Rattle.model.specs.declared.refusal.Refusal.{Refusal}
use Rattle.model.specs.declared.refusal.Refusal.TheVariants.{MalformedId, NotFound}
use Rattle.model_reads.specs.PeopleJson.{listed}
use Rattle.model_reads.specs.Reads.{shares_told}
use Rattle.model_reads.specs.SettingsJson.{share_json, shares_json}
use Rattle.model_reads.specs.Told.{Telling}
use Rattle.record_read.proofs.Standing.{found_id}
use Rattle.record_target.specs.Named.{SpellsId}
use Rattle.record_target.specs.Shares.{ListsShares}
use Rattle.store_abstraction.specs.Metadata.{row_of_share}
use Rattle.store_abstraction.specs.declared.fail.EditFail.{EditFail}
use Rattle.store_abstraction.specs.declared.fail.EditFail.TheVariants.{Refused, Store}
use Rattle.store_rows.specs.declared.share.ShareRow.{ShareRow}
use Rattle.api_read.specs.Tells.{TellsSo}
use Rattle.api_read.specs.inner.RecordParts.{share_row_json}

module _ (a : Asked) (text : List ℕ) where
  abbrev by_rules : Record → Rule → Telling
  by_rules r rule = in_case rule (Ok (shares_json a.tenant r)) Err

  abbrev rules_of : Record → List Rule
  rules_of r = detail_refused a.tenant r ∷ denied a Full r ∷ []

  abbrev by_found : Option Record → Telling
  by_found found = in_case found (Err NotFound) (λ r. by_rules r (first_refusal (rules_of r)))

  abbrev by_id : Option (List ℕ) → Telling
  by_id id = in_case id (Err (MalformedId text)) (λ id. by_found (option_and_then (if_readable a) (record_at a.tenant id)))

  pub unspelled_shares : (e : EditFail) → SpellsId text (Err e) → TellsSo (shares_told a text) (Err e)
  unspelled_shares (Refused r) h = ap by_id h.0 ∙ ap Err (sym h.1)
  unspelled_shares (Store e) h = λ d. absurd cc

  -- why no edit of its shares is made is why they aren't told
  refused_rule : (r : Record) (rule : Rule) (x : Refusal) → (unless rule a.tenant (accept done a.tenant)).answer ≡ Err x → by_rules r rule ≡ Err x
  refused_rule r None x h = absurd cc
  refused_rule r (Some y) x h = let is : y ≡ x = cc in ap Err is

  refused_found : (found : Option Record) (x : Refusal)
      → (in_case found (refuse a.tenant NotFound) (λ r. unless (first_refusal (rules_of r)) a.tenant (accept done a.tenant))).answer ≡ Err x → by_found found ≡ Err x
  refused_found None x h = let is : NotFound ≡ x = cc in ap Err is
  refused_found (Some r) x h = refused_rule r (first_refusal (rules_of r)) x h

  module _ (id : List ℕ) (is : id_in text ≡ Some id) where
    pub unshareable_told : (e : EditFail) → FindsShareable a id (Err e) → TellsSo (shares_told a text) (Err e)
    unshareable_told (Refused x) h = ap by_id is ∙ refused_found (option_and_then (if_readable a) (record_at a.tenant id)) x (h (λ r. []) (λ r. accept done a.tenant))
    unshareable_told (Store e) h = h (λ r. []) (λ r. accept done a.tenant)

    pub shareable_told : (s : IsShareable a id) → shares_told a text ≡ Ok (shares_json a.tenant s.item)
    shareable_told s =
        ap by_id is ∙ ap by_found s.readable
        ∙ ap (λ (rule : Rule). by_rules s.item (first_refusal (rule ∷ denied a Full s.item ∷ []))) s.whole
        ∙ ap (λ (rule : Rule). by_rules s.item (first_refusal (rule ∷ []))) s.full

  -- the record has the id by which it was found
  pub same_id : (id : List ℕ) (r : Record) → option_and_then (if_readable a) (record_at a.tenant id) ≡ Some r → r.id ≡ id
  same_id id r e = by (record_at a.tenant id) refl e
    where
      one : (s : Record) (b : Bool) → ◌≡◌ {A = Option Record} (cond b (Some s) None) (Some r) → s ≡ r
      one s true e = cc
      one s false e = absurd cc

      by : (x : Option Record) → record_at a.tenant id ≡ x → option_and_then (if_readable a) x ≡ Some r → r.id ≡ id
      by None is e = absurd cc
      by (Some s) is e = (found_id a.tenant.records id r (is ∙ ap Some (one s (can_read a.tenant a.user s) e))).0

-- ---- the rows

rows_told : (org : ℕ) (shares : List Share) → map share_row_json (map (row_of_share org) shares) ≡ map share_json shares
rows_told org [] = refl
rows_told org (s ∷ shares) = ap (λ (more : List Json). share_json s ∷ more) (rows_told org shares)

pub listed_shares : (org : ℕ) (t : Tenant) (id : List ℕ) (r : Record) (rows : List ShareRow) → r.id ≡ id → ListsShares org t id (Ok rows) → listed (codes "shares") (map share_row_json rows) ≡ shares_json t r
listed_shares org t id r rows same are =
    ap (λ (items : List ShareRow). listed (codes "shares") (map share_row_json items)) are
    ∙ ap (λ (items : List Json). listed (codes "shares") items) (rows_told org (shares_of id t.shares))
    ∙ ap (λ (x : List ℕ). listed (codes "shares") (map share_json (shares_of x t.shares))) (sym same)

-- they are told so
pub rows_listed : (org : ℕ) (t : Tenant) (id : List ℕ) (r : Record) (rows seen : List ShareRow) (v : Json) → r.id ≡ id → ListsShares org t id (Ok rows) → seen ≡ rows
    → v ≡ listed (codes "shares") (map share_row_json seen) → ◌≡◌ {A = Telling} (Ok (shares_json t r)) (Ok v)
rows_listed org t id r rows seen v same are is made =
    ap Ok (sym (listed_shares org t id r rows same are) ∙ ap (λ (items : List ShareRow). listed (codes "shares") (map share_row_json items)) (sym is) ∙ sym made)
