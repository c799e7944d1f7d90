-- What is shown of a record by its object's layout is what a record shows.
use Rattle.std.proofs.Common.{◌≡◌, ℕ, ◌≤◌, Bool, true, cond, List, [], ◌∷◌, length, map, refl, sym, ap, ◌∙◌}
use Rattle.std.specs.Prelude.{codes, Result, Ok, Err}
use Rattle.std.specs.List.{AllByRecursion}
use Rattle.base_json.specs.declared.tree.Json.{Json}
use Rattle.base_json.specs.declared.tree.Json.TheVariants as json
use Rattle.base_json.specs.declared.tree.Member.{Member}
use Rattle.base_json_tree.specs.Words.{member, object, text}
use Rattle.base_value.specs.Printing.{is_printable}
use Rattle.base_value.specs.declared.sharing.Level.{Level}
use Rattle.model.specs.Fields as model
use Rattle.model.specs.Fields.{value_in}
use Rattle.model.specs.Levels.{level}
use Rattle.model.specs.Objects.{Numbered}
use Rattle.model.specs.Paths.{Asked}
use Rattle.model.specs.RowsJson.{url}
use Rattle.model.specs.declared.record.Record.{Record}
use Rattle.model.specs.declared.refusal.Refusal.{Refusal}
use Rattle.model_reads.specs.RecordJson.{Columns, column_member, columns_asked, fields_text, record_asked, value_json, with_columns}
use Rattle.model_reads.specs.SettingsJson.{level_name}
use Rattle.model_reads.specs.Told.{Telling}
use Rattle.query_check.specs.Columns.{name_at, place_at}
use Rattle.query_plan.specs.Checks.{site_of}
use Rattle.query_plan.specs.declared.check.Site.{Site}
use Rattle.store_abstraction.specs.Layouts.{layout_of}
use Rattle.store_abstraction.specs.Plan.{OrgPlan}
use Rattle.store_abstraction.specs.declared.fail.EditFail.{EditFail}
use Rattle.store_abstraction.specs.declared.fail.EditFail.TheVariants.{Refused, Store}
use Rattle.store_abstraction.specs.declared.layout.Layout.{Layout}
use Rattle.api_read.specs.declared.records.finding.Readable.{Readable}
use Rattle.api_read.specs.Tells.{TellsSo}
use Rattle.api_read.specs.inner.Columns.{FindsSites, Sites, sites_asked}
use Rattle.api_read.specs.inner.RecordParts.{asked_by, printed_json, record_by, site_member, with_sites}
use Rattle.api_read.proofs.ColumnsPlaced.{ArePlaced, AreSites, IsPlaced, asked_are, its_site, to_sites}

abbrev told : Json → Telling
told v = Ok v

-- the values of a record have texts
abbrev pub Shown : Record → Type 0
Shown r = (s : model.Site) → is_printable (value_in s r) ≡ true

module _ (l : Layout) (r : Record) (shown : Shown r) where
  one_shown : (c : model.Column) → IsPlaced l c → site_member l r (its_site c) ≡ column_member r c
  one_shown c p =
      ap (λ (name : List ℕ). member name (printed_json (value_in (site_of (place_at c.at)) r))) p.named
      ∙ ap (λ (s : model.Site). member c.name (printed_json (value_in s r))) p.there
      ∙ ap (λ (b : Bool). member c.name (cond b (value_json (value_in c.at r)) json.Null)) (shown c.at)

  all_shown : (cs : List model.Column) → AllByRecursion (IsPlaced l) cs → map (site_member l r) (map its_site cs) ≡ map (column_member r) cs
  all_shown [] all = refl
  all_shown (c ∷ cs) all =
      ap (λ (m : Member). m ∷ map (site_member l r) (map its_site cs)) (one_shown c all.0)
      ∙ ap (λ (ms : List Member). column_member r c ∷ ms) (all_shown cs all.1)

module _ (org : ℕ) (q : OrgPlan) (a : Asked) (o : Numbered) (few : length o.object.fields ≤ 40) where
  abbrev its_layout : Layout
  its_layout = layout_of org q a.tenant o

  -- the attributes and these members
  abbrev told_record : Record → Level → List Member → Json
  told_record r lv members =
      object
      (member (codes "attributes")
      (object
      (member (codes "type") (text o.object.name) ∷ member (codes "url") (text (url o.object.name r.id)) ∷ member (codes "level") (text (level_name lv)) ∷ []))
      ∷ members)

  columns_shown : (r : Record) (lv : Level) → Shown r → lv ≡ level a.tenant a.user r → (cs : Columns) (sites : Sites) → AreSites its_layout cs sites
      → with_sites its_layout r lv sites ≡ with_columns a o.object r cs
  columns_shown r lv shown has cs sites are = ap (with_sites its_layout r lv) are.same ∙ by cs are.all
    where
      by : (cs : Columns) → ArePlaced its_layout cs → with_sites its_layout r lv (to_sites cs) ≡ with_columns a o.object r cs
      by (Err refusal) all = refl
      by (Ok cs) all =
          ap (λ (ms : List Member). told (told_record r lv ms)) (all_shown its_layout r shown cs all)
          ∙ ap (λ (k : Level). told (told_record r k (map (column_member r) cs))) has

  pub asked_shown : (pairs : List ℕ) (x : Readable) → Shown x.kept.item → x.level ≡ level a.tenant a.user x.kept.item
      → asked_by its_layout pairs x ≡ record_asked a o.object pairs x.kept.item
  asked_shown pairs x shown has =
      columns_shown x.kept.item x.level shown has (columns_asked o.object (fields_text pairs)) (sites_asked its_layout (fields_text pairs)) (asked_are org q a.tenant o few (fields_text pairs))

-- ---- by what was found

module _ (l : Layout) (pairs : List ℕ) (x : Readable) where
  abbrev by_sites : Sites → Telling
  by_sites sites = with_sites l x.kept.item x.level sites

  -- they can't be shown
  pub unsited_told : (e : EditFail) → FindsSites (sites_asked l (fields_text pairs)) (Err e) → TellsSo (asked_by l pairs x) (Err e)
  unsited_told (Refused r) h = ap by_sites h
  unsited_told (Store e) h = λ d. absurd cc

  pub sited_told : (sites seen : List Site) (v : Json) → sites_asked l (fields_text pairs) ≡ Ok sites → seen ≡ sites → v ≡ record_by l x.kept.item x.level seen → TellsSo (asked_by l pairs x) (Ok v)
  sited_told sites seen v are same made =
      ap by_sites are ∙ ap (λ (ss : List Site). told (record_by l x.kept.item x.level ss)) (sym same) ∙ ap told (sym made)
