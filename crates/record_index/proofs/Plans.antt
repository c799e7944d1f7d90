-- A plan fits as long as objects and the change of a type stay.
use Rattle.std.proofs.Common.{◌≡◌, ℕ, cond, IsTrue, List, Some, None, sym, subst, bytes_eq}
use Rattle.base_lemmas.proofs.Bools.{by_answer as pick}
use Rattle.model.specs.declared.record.Record.{Record}
use Rattle.model.specs.Creates.{with_record}
use Rattle.model.specs.Tenant.{Tenant}
use Rattle.store_abstraction.specs.Plan.{FitsPlan, OrgPlan}
use Rattle.record_index.proofs.Same.{type_same}
use Rattle.record_index.specs.diff.Touched.{IsTouched, fresh_plan}
use Rattle.base_value.specs.declared.value.FieldType.{FieldType}
use Rattle.base_value.specs.declared.value.Value.{Value}
use Rattle.base_value.specs.Values.{valid}

pub fresh : (p : OrgPlan) (t : Tenant) (r : Record) → FitsPlan p t → FitsPlan (fresh_plan r.id p) (with_record r t)
fresh p t r fits = record {
  below = fits.below;
  differ = fits.differ;
  other = fits.other;
  apart = fits.apart;
  was = fits.was;
  switched = fits.switched;
  left = λ j i v job clearing e.
      subst (λ (k : FieldType). IsTrue (valid k v)) (sym (type_same p (fresh_plan r.id p).left j j.phase j.outcome)) (fits.left j i v job clearing (was_left i v e));
}
  where
    was_left : (i : List ℕ) (v : Value) → (fresh_plan r.id p).left i ≡ Some v → p.left i ≡ Some v
    was_left i v e = pick (bytes_eq i r.id) (λ b. cond b None (p.left i) ≡ Some v → p.left i ≡ Some v) (λ _ h. absurd cc) (λ _ h. h) e

pub same : (p : OrgPlan) (t u : Tenant) (ids : List (List ℕ)) → IsTouched p p t u ids → FitsPlan p t → FitsPlan p u
same p t u ids is fits = subst (λ (v : Tenant). FitsPlan p v) (sym is.content) (record {
  below = fits.below;
  differ = fits.differ;
  other = fits.other;
  apart = fits.apart;
  was = fits.was;
  switched = fits.switched;
  left = fits.left;
})
