-- What repeated steps of a change of a field's type make of an organisation, if nothing is done beside them.
-- It is this product's own.
use Rattle.std.specs.Prelude.{ℕ, zero, suc, Option}
use Rattle.std.specs.Option.{option_map}
use Rattle.base_value.specs.declared.value.FieldType.{FieldType}
use Rattle.model.specs.Jobs.{job_step}
use Rattle.model.specs.SoundJob.{job_field}
use Rattle.model.specs.Tenant.{Job, Tenant}

-- the organisation after so many steps
abbrev pub after_steps : ℕ → Tenant → Tenant
after_steps zero t = t
after_steps (suc n) t = job_step (after_steps n t)

-- the type that the field of the change has
abbrev pub field_type : Job → Tenant → Option FieldType
field_type j t = option_map (λ f. f.kind) (job_field t.objects j)
