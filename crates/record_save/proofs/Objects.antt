-- The rows that were read, which count the records of an object.
use Rattle.std.proofs.Common.{◌≡◌, ◌≢◌, ◌∙◌, ℕ, Some, ap, refl, subst, sym}
use Rattle.std.specs.Prelude.{Result, Ok, Err, IsErrAnd}
use Rattle.std.specs.Option.{option_map}
use Rattle.std.proofs.lemmas.Option.{same_Some as some_is}
use Rattle.store_edit.proofs.Reading.{not_missed}
use Rattle.store_kv.specs.Tables.{Tables}
use Rattle.store_rows.specs.declared.fail.StoreFail.{StoreFail}
use Rattle.store_rows.specs.declared.fail.StoreFail.TheVariants.{Damaged}
use Rattle.store_rows.specs.declared.object.ObjectRow.{ObjectRow}
use Rattle.store_rows.specs.declared.org.OrgRow.{OrgRow}
use Rattle.model.specs.declared.refusal.Refusal.TheVariants.{NotFound}
use Rattle.model.specs.Objects.{Numbered}
use Rattle.model.specs.Tenant.{Tenant}
use Rattle.model.specs.Verdict.{refuse}
use Rattle.store_abstraction.specs.declared.layout.Layout.{Layout}
use Rattle.store_abstraction.specs.Layouts.{own_object_row, own_row}
use Rattle.store_abstraction.specs.Local.{FindsThere, StandsIn}
use Rattle.store_abstraction.specs.Metadata.{org_of, row_of_object}
use Rattle.store_abstraction.specs.Plan.{OrgPlan}
use Rattle.record_save.specs.Creating.{IsObject}
use Rattle.record_save.specs.declared.object.Counts.{Counts}
use Rattle.record_save.specs.inner.Object.{CountsOf, ReadsCounts}

pub read_failed : (org : ℕ) (t : Tenant) (o : Numbered) (e : StoreFail) (out : Result Counts StoreFail) → IsErrAnd out (λ y. y ≡ e) → e ≢ Damaged → ReadsCounts org t o out
read_failed org t o e (Ok x) passed h = absurd passed
read_failed org t o e (Err y) passed h = subst (λ (z : StoreFail). ReadsCounts org t o (Err z)) (sym passed) h

module _ (org : ℕ) (q : OrgPlan) (t : Tenant) (o : Numbered) (m : Tables) (s : StandsIn org q m (Some t)) (l : Layout) (at : IsObject org q t o l) where
  its_row : own_object_row org l.object q (Some t) ≡ Some (row_of_object org t o.number o.object)
  its_row = ap (λ (x : Layout). own_object_row org x.object q (Some t)) at.layout ∙ ap (option_map (row_of_object org t o.number)) at.there

  pub missed : (r : Result ObjectRow StoreFail) (e : StoreFail) → FindsThere org (own_object_row org l.object) m r → r ≡ Err e → e ≢ Damaged
  missed r e found was = not_missed org q m t (refuse t NotFound) r e was s (own_object_row org l.object) (row_of_object org t o.number o.object) its_row found

  pub unseen : (r : Result OrgRow StoreFail) (e : StoreFail) → FindsThere org (own_row org) m r → r ≡ Err e → e ≢ Damaged
  unseen r e found was = not_missed org q m t (refuse t NotFound) r e was s (own_row org) (org_of org t) refl found

  pub are_of : (rows : Result OrgRow StoreFail) (row : OrgRow) (objects : Result ObjectRow StoreFail) (object : ObjectRow) → FindsThere org (own_row org) m rows → rows ≡ Ok row
      → FindsThere org (own_object_row org l.object) m objects → objects ≡ Ok object → CountsOf org t o (record { row = record row { org = org }; object = record object { org = org } })
  are_of rows row objects object found was seen is = record {
    row = ap (λ (x : OrgRow). record x { org = org }) (some_is row (org_of org t) (subst (FindsThere org (own_row org) m) was found q (Some t) s));
    object = ap (λ (x : ObjectRow). record x { org = org }) (some_is object (row_of_object org t o.number o.object) (subst (FindsThere org (own_object_row org l.object) m) is seen q (Some t) s ∙ its_row));
  }
