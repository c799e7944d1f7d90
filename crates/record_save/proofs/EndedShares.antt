-- The manual shares that end where a record gets another owner.
use Rattle.std.proofs.Common.{◌≡◌, ◌∙◌, ℕ, Bool, false, cond, List, [], ◌∷◌, map, None, refl, sym, ap, bytes_eq}
use Rattle.std.specs.Prelude.{Result, Ok, Err}
use Rattle.std.proofs.lemmas.Slice.Eq.{bytes_eq-Decides}
use Rattle.base_lemmas.proofs.Bools.{by_answer as pick}
use Rattle.store_rows.specs.Keys.{Share as ShareKey}
use Rattle.store_rows.specs.declared.fail.StoreFail.{StoreFail}
use Rattle.store_rows.specs.declared.share.ShareRow.{ShareRow}
use Rattle.model.specs.Edits.{same_owner}
use Rattle.model.specs.Shares.{shares_of}
use Rattle.model.specs.Tenant.{Share, Tenant}
use Rattle.model.specs.declared.record.Record.{Record}
use Rattle.record_target.specs.Shares.{ListsShares, shares_removed}
use Rattle.record_save.specs.inner.Ended.{EndsShares}
use Rattle.store_abstraction.specs.Changes.{Change}
use Rattle.store_abstraction.specs.Metadata.{row_of_share}

removed_is : (org : ℕ) (id : List ℕ) (ss : List Share)
    → shares_removed org id (map (row_of_share org) (shares_of id ss)) ≡ map (λ (s : Share). (ShareKey org s.item s.to, None)) (shares_of id ss)
removed_is org id [] = refl
removed_is org id (s ∷ ss) =
    pick (bytes_eq s.item id) (λ b. shares_removed org id (map (row_of_share org) (cond b (s ∷ shares_of id ss) (shares_of id ss))) ≡ map (λ (s : Share). (ShareKey org s.item s.to, None)) (cond b (s ∷ shares_of id ss) (shares_of id ss)))
    (λ same. ap (λ (i : List ℕ). (ShareKey org i s.to, None) ∷ shares_removed org id (map (row_of_share org) (shares_of id ss))) (sym ((bytes_eq-Decides s.item id).0 same))
    ∙ ap (λ (cs : List Change). (ShareKey org s.item s.to, None) ∷ cs) (removed_is org id ss))
    (λ _. removed_is org id ss)

-- all of them, where the owner is another
pub ends_all : (org : ℕ) (t : Tenant) (old new : Record) → same_owner old new ≡ false → (r : Result (List ShareRow) StoreFail) → ListsShares org t new.id r → EndsShares org t old new r
ends_all org t old new other (Err e) h = h
ends_all org t old new other (Ok rows) h =
    ap (shares_removed org new.id) h ∙ removed_is org new.id t.shares
    ∙ ap (λ (b : Bool). cond b [] (map (λ (s : Share). (ShareKey org s.item s.to, None)) (shares_of new.id t.shares))) (sym other)
