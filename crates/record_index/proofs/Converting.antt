-- The layout of a sound object converts what a change of a field's type copies.
use Rattle.std.proofs.Common.{◌≡◌, ℕ, zero, suc, ◌+◌, Bool, true, not, ◌&&◌, ◌||◌, cond, eqb, IsTrue, List, [], ◌∷◌, map, Option, Some, None, refl, sym, ap, subst, ◌∙◌}
use Rattle.std.specs.Prelude.{IfSome, slice_get}
use Rattle.std.specs.List.{enumerate_from}
use Rattle.std.specs.Option.{option_and_then}
use Rattle.std.proofs.lemmas.Bool.{eqb-true}
use Rattle.base_lemmas.proofs.Bools.{and_first as and_left, by_answer as pick}
use Rattle.std.proofs.lemmas.Option.{same_Some as some_is}
use Rattle.model.specs.Cases.{in_case}
use Rattle.model.specs.Objects.{object_numbered}
use Rattle.model.specs.RuleFormulas.{is_copy}
use Rattle.model.specs.Sound.{IsSound}
use Rattle.model.specs.SoundJob.{IsSoundChange, IsSoundJob, job_field}
use Rattle.model.specs.Tenant.{Field, Job, Object, Tenant}
use Rattle.record_index.specs.Turned.{converts, converts_to}
use Rattle.store_abstraction.specs.Layouts.{job_place, layout_of, place_of}
use Rattle.store_abstraction.specs.Plan.{OrgPlan, slot_type}
use Rattle.store_abstraction.specs.declared.layout.FieldPlace.{FieldPlace}
use Rattle.store_abstraction.specs.declared.layout.JobPlace.{JobPlace}
use Rattle.base_value.specs.Conversion.{convertible}
use Rattle.base_value.specs.Types.{is_reference, is_type}
use Rattle.base_value.specs.declared.job.Phase.{Phase}
use Rattle.base_value.specs.declared.job.Phase.TheVariants as phase

at_place : (p : OrgPlan) (n : ℕ) (f : FieldPlace → Bool) (k i : ℕ) (fs : List Field) → ((m : ℕ) (x : Field) → slice_get fs i ≡ Some x → f (place_of p n (m, x)) ≡ true)
    → in_case (slice_get (map (place_of p n) (enumerate_from k fs)) i) true f ≡ true
at_place p n f k i [] h = refl
at_place p n f k zero (x ∷ fs) h = h k x refl
at_place p n f k (suc i) (x ∷ fs) h = at_place p n f (k + 1) i fs h

sound_converts : (p : OrgPlan) (n m : ℕ) (j : Job) (f : Field) → IsSoundChange j f → converts_to (job_place p j) (place_of p n (m, f)) ≡ true
sound_converts p n m j f h = by j.phase
  where
    by : (ph : Phase) → (not (is_copy ph) || (is_type (slot_type p j ph j.outcome) && convertible f.kind (slot_type p j ph j.outcome))) ≡ true
    by phase.Copy = ap (λ b. b && convertible f.kind j.to) (and_left (is_type j.to) (not (is_reference j.to)) h.to) ∙ h.converts
    by phase.Clear = refl
    by phase.Done = refl

pub the_field : (t : Tenant) (n : ℕ) (o : Object) (j : Job) → object_numbered t n ≡ Some o → j.object ≡ n → job_field t.objects j ≡ slice_get o.fields j.field
the_field t n o j here at =
    ap (λ (i : ℕ). option_and_then (λ (o : Object). slice_get o.fields j.field) (slice_get t.objects i)) at ∙ ap (option_and_then (λ (o : Object). slice_get o.fields j.field)) here

pub converting : (org n : ℕ) (p : OrgPlan) (t : Tenant) (o : Object) → IsSound t → object_numbered t n ≡ Some o → IsTrue (converts (layout_of org p t (record { number = n; object = o })))
converting org n p t o sound here = by t.job refl
  where
    of_job : (j : Job) → t.job ≡ Some j → IsSoundJob t.counter t.objects t.records j
    of_job j e = subst (λ (x : Option Job). IfSome x (IsSoundJob t.counter t.objects t.records)) e sound.job

    by : (job : Option Job) → t.job ≡ job
        → in_case (option_and_then (λ (j : Job). cond (eqb j.object n) (Some (job_place p j)) None) job) true (λ (j : JobPlace). in_case (slice_get (map (place_of p n) (enumerate_from 0 o.fields)) j.field) true (converts_to j)) ≡ true
    by None e = refl
    by (Some j) e =
        pick (eqb j.object n)
        (λ b. eqb j.object n ≡ b
        → in_case (cond b (Some (job_place p j)) None) true (λ (j : JobPlace). in_case (slice_get (map (place_of p n) (enumerate_from 0 o.fields)) j.field) true (converts_to j)) ≡ true)
        (λ _ at.
        let job = of_job j e in
        at_place p n (converts_to (job_place p j)) 0 j.field o.fields
        (λ m x is. sound_converts p n m j x (subst (IsSoundChange j) (some_is job.field x (sym job.there ∙ the_field t n o j here (eqb-true j.object n at) ∙ is)) job.change)))
        (λ _ _. refl)
        refl
