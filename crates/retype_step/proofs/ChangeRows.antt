-- The rows that a step makes of that of a change are those of the change afterwards.
use Rattle.std.proofs.Common.{◌≡◌, ◌∙◌, ℕ, true, cond, List, ◌∷◌, Option, Some, refl, sym, ap}
use Rattle.base_lemmas.proofs.Numbers.{eqb-self as eqb_same}
use Rattle.retype_step.specs.inner.Rows.{done_row, failed_row, moved_row, row_alone, switch_decided, switched_field, switched_row}
use Rattle.store_edit.specs.Rows.{change_to}
use Rattle.store_rows.specs.declared.field.FieldRow.{FieldRow}
use Rattle.store_rows.specs.declared.job.JobRow.{JobRow}
use Rattle.store_rows.specs.Rows.{field_form}
use Rattle.model.specs.Cases.{in_case}
use Rattle.model.specs.Retyping.{to_clear}
use Rattle.model.specs.SoundJob.{is_switched, job_field}
use Rattle.model.specs.Tenant.{Field, Job, Tenant}
use Rattle.store_abstraction.specs.Layouts.{place_of}
use Rattle.store_abstraction.specs.Metadata.{field_of, job_of}
use Rattle.store_abstraction.specs.Plan.{OrgPlan, slot_type, type_there}
use Rattle.retype_cutover.specs.Switch.{stopped_plan, switch_changes, switched_plan}
use Rattle.base_value.specs.declared.job.Outcome.{Outcome}
use Rattle.base_value.specs.declared.job.Outcome.TheVariants as outcome
use Rattle.base_value.specs.declared.job.Phase.{Phase}
use Rattle.base_value.specs.declared.job.Phase.TheVariants as phase
use Rattle.base_value.specs.declared.value.FieldType.{FieldType}

-- ---- the type of what is in the slot

-- of a change that copies it is the new one
pub type_copy : (q : OrgPlan) (j : Job) → j.phase ≡ phase.Copy → type_there q j ≡ j.to
type_copy q j copy = ap (λ (ph : Phase). slot_type q j ph j.outcome) copy

type_moved : (q : OrgPlan) (j : Job) (c : Option (List ℕ)) (ph : Phase) (x : Outcome) → slot_type q j ph x ≡ slot_type q (record j { cursor = c }) ph x
type_moved q j c phase.Clear outcome.Switched = refl
type_moved q j c _ _ = refl

-- once it is done too, which a field that was switched has
type_done : (q : OrgPlan) (j : Job) (kind : FieldType) (x : Outcome) → (is_switched x ≡ true → kind ≡ j.to) → cond (is_switched x) kind (slot_type q j phase.Clear x) ≡ j.to
type_done q j kind outcome.Switched h = h refl
type_done q j kind outcome.Open h = refl
type_done q j kind outcome.Failed h = refl
type_done q j kind outcome.Cancelled h = refl

-- ---- the row of the change

pub moved_is : (org : ℕ) (q : OrgPlan) (j : Job) (c : Option (List ℕ)) → moved_row org c (job_of org q j) ≡ job_of org q (record j { cursor = c })
moved_is org q j c = ap (λ (kind : FieldType). record (job_of org q j) { kind = kind; cursor = c }) (type_moved q j c j.phase j.outcome)

pub failed_is : (org : ℕ) (q : OrgPlan) (t : Tenant) (j : Job) (id : List ℕ) → j.phase ≡ phase.Copy
    → failed_row org id (job_of org q j) ≡ job_of org (stopped_plan q t j) (record (to_clear outcome.Failed j) { failed = Some id })
failed_is org q t j id copy = ap (λ (kind : FieldType). record (failed_row org id (job_of org q j)) { kind = kind }) (type_copy q j copy)

switched_is : (org : ℕ) (q : OrgPlan) (t : Tenant) (j : Job) (f : Field) → job_field t.objects j ≡ Some f
    → switched_row org (place_of q j.object (j.field, f)) (job_of org q j) ≡ job_of org (switched_plan q t j) (to_clear outcome.Switched j)
switched_is org q t j f its =
    ap (λ (kind : FieldType). record (switched_row org (place_of q j.object (j.field, f)) (job_of org q j)) { kind = kind })
    (sym (ap (λ (x : Option Field). in_case x q.was (λ (f : Field). f.kind)) its))

pub done_is : (org : ℕ) (q : OrgPlan) (j : Job) (f : Field) → j.phase ≡ phase.Clear → (is_switched j.outcome ≡ true → f.kind ≡ j.to)
    → done_row org (place_of q j.object (j.field, f)) (job_of org q j) ≡ job_of org q (record j { phase = phase.Done })
done_is org q j f clear switched =
    ap (λ (kind : FieldType). record (job_of org q j) { phase = phase.Done; kind = kind })
    (ap (λ (ph : Phase). cond (is_switched j.outcome) f.kind (slot_type q j ph j.outcome)) clear ∙ type_done q j f.kind j.outcome switched)

-- ---- the row of the field

exchanged : (q : OrgPlan) (t : Tenant) (j : Job) → q.other ≡ (switched_plan q t j).slot j.object j.field
exchanged q t j = sym (rw (eqb_same j.object, eqb_same j.field) refl)

field_is : (org : ℕ) (q : OrgPlan) (t : Tenant) (j : Job) (f : Field) → j.phase ≡ phase.Copy
    → switched_field org (place_of q j.object (j.field, f)) (job_of org q j) ≡ field_of org (switched_plan q t j) j.object j.field (record f { kind = j.to })
field_is org q t j f copy =
    ap (λ (kind : FieldType). record (switched_field org (place_of q j.object (j.field, f)) (job_of org q j)) { kind = kind }) (type_copy q j copy)
    ∙ ap (λ (slot : ℕ). record (switched_field org (place_of q j.object (j.field, f)) (job_of org q j)) { kind = j.to; slot = slot }) (exchanged q t j)

-- ---- both

pub switch_is : (org : ℕ) (q : OrgPlan) (t : Tenant) (j : Job) (f : Field) → j.phase ≡ phase.Copy → job_field t.objects j ≡ Some f
    → switch_decided org (place_of q j.object (j.field, f)) (job_of org q j) ≡ switch_changes org (switched_plan q t j) j f
switch_is org q t j f copy its =
    ap (λ (row : FieldRow). change_to field_form row ∷ row_alone (switched_row org (place_of q j.object (j.field, f)) (job_of org q j))) (field_is org q t j f copy)
    ∙ ap (λ (row : JobRow). change_to field_form (field_of org (switched_plan q t j) j.object j.field (record f { kind = j.to })) ∷ row_alone row) (switched_is org q t j f its)
