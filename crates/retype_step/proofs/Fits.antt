-- A plan still fits once the change of a type has come further, and the slot of a change that isn't done is no field's.
use Rattle.std.proofs.Common.{◌≡◌, ℕ, suc, ◌+◌, false, not, ◌&&◌, ◌||◌, cond, eqb, IsTrue, List, [], ◌∷◌, Option, Some, None, is_some, refl, sym, ap, subst, ◌∙◌, arith}
use Rattle.std.specs.Prelude.{slice_get}
use Rattle.std.specs.List.{enumerate_from, find}
use Rattle.std.specs.Option.{option_and_then}
use Rattle.std.proofs.lemmas.Bool.{eqb-true}
use Rattle.base_lemmas.proofs.Bools.{by_answer as pick}
use Rattle.std.proofs.lemmas.Option.{same_Some as some_is}
use Rattle.model.specs.Objects.{object_numbered}
use Rattle.model.specs.Retyping.{job_is_done, with_job}
use Rattle.model.specs.SoundJob.{is_switched, job_field}
use Rattle.model.specs.Tenant.{Field, Job, Object, Tenant}
use Rattle.retype_step.proofs.Entries.{type_same}
use Rattle.store_abstraction.specs.Entries.{slot_field}
use Rattle.store_abstraction.specs.Plan.{FitsPlan, OrgPlan, has_field, is_clearing, type_there}
use Rattle.base_value.specs.Conversion.{convertible}
use Rattle.base_value.specs.Types.{suits_indexed}
use Rattle.base_value.specs.Values.{valid}
use Rattle.base_value.specs.declared.value.FieldType.{FieldType}

pub fits_moved : (q : OrgPlan) (t : Tenant) (j : Job) (c : Option (List ℕ)) → t.job ≡ Some j → FitsPlan q t → FitsPlan q (with_job (record j { cursor = c }) t)
fits_moved q t j c is fits = record {
  below = fits.below;
  differ = fits.differ;
  other = fits.other;
  apart = λ k e not_done f there same.
      let one = some_is after k e in
      fits.apart j is (ap (λ (x : Job). job_is_done x.phase) one ∙ not_done) f
      (subst (λ (x : Job). IsTrue (has_field t x.object f)) (sym one) there) (subst (λ (x : Job). q.slot x.object f ≡ q.other) (sym one) same);
  was = fits.was;
  switched = λ k f e clearing switched at.
      let one = some_is after k e in
      subst (λ (x : Job). IsTrue ((not f.indexed || suits_indexed q.was) && convertible q.was x.to)) one
      (fits.switched j f is (ap (λ (x : Job). is_clearing x.phase) one ∙ clearing) (ap (λ (x : Job). is_switched x.outcome) one ∙ switched) (ap (job_field t.objects) one ∙ at));
  left = λ k i v e clearing there.
      let one = some_is after k e in
      subst (λ (x : Job). IsTrue (valid (type_there q x) v)) one
      (subst (λ (x : FieldType). IsTrue (valid x v)) (sym (type_same q j c j.phase j.outcome)) (fits.left j i v is (ap (λ (x : Job). is_clearing x.phase) one ∙ clearing) there));
}
  where
    after : Job
    after = record j { cursor = c }

-- no field has the slot
find_no : (slot : ℕ → ℕ) (fs : List Field) (a s : ℕ) → ((g : ℕ) (y : Field) → slice_get fs g ≡ Some y → slot (a + g) ≡ s → ⊥) → find (λ (y : ℕ × Field). eqb (slot y.0) s) (enumerate_from a fs) ≡ None
find_no slot [] a s free = refl
find_no slot (y ∷ fs) a s free =
    pick (eqb (slot a) s) (λ b. cond b (Some (a, y)) (find (λ (y : ℕ × Field). eqb (slot y.0) s) (enumerate_from (a + 1) fs)) ≡ None)
    (λ e. absurd (free 0 y refl (ap slot first ∙ eqb-true (slot a) s e)))
    (λ _. find_no slot fs (a + 1) s (λ g z there same. free (suc g) z there (ap slot (step g) ∙ same)))
  where
    first : a + 0 ≡ a
    first = omega arith

    step : (g : ℕ) → a + suc g ≡ a + 1 + g
    step g = omega arith

pub vacant : (q : OrgPlan) (t : Tenant) (j : Job) (o : Object) → FitsPlan q t → t.job ≡ Some j → job_is_done j.phase ≡ false → object_numbered t j.object ≡ Some o → slot_field q j.object o.fields q.other ≡ None
vacant q t j o fits is busy here = find_no (q.slot j.object) o.fields 0 q.other (λ g y there same. fits.apart j is busy (0 + g) (has_it (0 + g) y (from_start g y there)) same)
  where
    from_start : (g : ℕ) (y : Field) → slice_get o.fields g ≡ Some y → slice_get o.fields (0 + g) ≡ Some y
    from_start g y there = let same : g ≡ 0 + g = omega arith in subst (λ (i : ℕ). slice_get o.fields i ≡ Some y) same there

    has_it : (i : ℕ) (f : Field) → slice_get o.fields i ≡ Some f → IsTrue (has_field t j.object i)
    has_it i f e = ap (λ (x : Option Object). is_some (option_and_then (λ (x : Object). slice_get x.fields i) x)) here ∙ ap is_some e
