-- How an organisation's rows are kept once the change of a field's type is switched or ends before its time, and which rows the
-- switch changes. That the slots of the field and of the change are exchanged, so that no record's row changes, is this product's own.
use Rattle.std.specs.Prelude.{ℕ, suc, ◌&&◌, ◌==◌, if◌then◌else◌, List, [], ◌∷◌, Option, Some, None}
use Rattle.std.specs.Option.{option_and_then}
use Rattle.store_edit.specs.Edits.{Planned}
use Rattle.store_edit.specs.Rows.{change_to}
use Rattle.formula.specs.Meaning.{value_at}
use Rattle.store_rows.specs.Rows.{field_form, job_form}
use Rattle.model.specs.Cases.{in_case}
use Rattle.model.specs.Jobs.{is_past}
use Rattle.model.specs.Objects.{is_of, record_at}
use Rattle.model.specs.Retyping.{to_clear}
use Rattle.model.specs.SoundJob.{job_field}
use Rattle.model.specs.Tenant.{Field, Job, Tenant}
use Rattle.store_abstraction.specs.Changes.{Change}
use Rattle.store_abstraction.specs.Metadata.{field_of, job_of}
use Rattle.store_abstraction.specs.Plan.{OrgPlan}
use Rattle.base_value.specs.Conversion.{convert}
use Rattle.base_value.specs.declared.job.Outcome.TheVariants as outcome
use Rattle.base_value.specs.declared.value.FieldType.{FieldType}
use Rattle.base_value.specs.declared.value.Value.{Value}

-- ---- the plan afterwards

-- the rows may be kept in any way
abbrev pub any_plan : Planned
any_plan q t next = Unit {0}

-- the value of the field whose type changes, of the object's record with this id
abbrev pub changing_value : Tenant → Job → List ℕ → Option Value
changing_value t j id = option_and_then (λ r. if is_of j.object r then Some (value_at r.values (suc j.field)) else None) (record_at t id)

-- the type that the field has
abbrev pub changing_type : OrgPlan → Tenant → Job → FieldType
changing_type p t j = in_case (job_field t.objects j) p.was (λ f. f.kind)

-- once the field is switched, its slot and that of the change are exchanged, and what is left are the old values
abbrev pub switched_plan : OrgPlan → Tenant → Job → OrgPlan
switched_plan p t j =
    record {
      slot = λ n f. if (n == j.object) && (f == j.field) then p.other else p.slot n f;
      other = p.slot j.object j.field;
      was = changing_type p t j;
      left = changing_value t j;
    }

-- once a copy is called off or fails, what is left are the values that were copied
abbrev pub stopped_plan : OrgPlan → Tenant → Job → OrgPlan
stopped_plan p t j =
    record p { left = λ id. if is_past j.cursor id then None else option_and_then (convert j.to) (changing_value t j id) }

-- ---- the rows of the switch

-- that of the field, which has its new type, and that of the change
abbrev pub switch_changes : (org : ℕ) → OrgPlan → Job → Field → List Change
switch_changes org p j f =
    change_to field_form (field_of org p j.object j.field (record f { kind = j.to }))
    ∷ change_to job_form (job_of org p (to_clear outcome.Switched j))
    ∷ []
