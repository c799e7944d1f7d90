-- How many steps the change of a field's type takes, where no request comes between them. It is this product's own.
use Rattle.std.specs.Prelude.{◌≡◌, ℕ, zero, suc, ◌+◌, ◌-◌, ◌/◌, false, None}
use Rattle.std.specs.List.{list_any}
use Rattle.base_value.specs.declared.job.Phase.TheVariants as phase
use Rattle.model.specs.Jobs.{is_bad, job_step}
use Rattle.model.specs.Limits.{step_records}
use Rattle.model.specs.Objects.{records_of}
use Rattle.model.specs.Tenant.{Job, Tenant}

-- so many steps, one after the other
abbrev pub steps : ℕ → Tenant → Tenant
steps zero t = t
steps (suc n) t = job_step (steps n t)

-- the steps that go over so many records: one for each hundred that is begun
abbrev pub copy_steps : ℕ → ℕ
copy_steps n = (n + (step_records - 1)) / step_records

-- it has just begun, and each record of its object takes the new type
pub record IsBegun (t : Tenant) (j : Job) : Type 0 where
  pub phase : j.phase ≡ phase.Copy
  pub cursor : j.cursor ≡ None
  pub converts : list_any (is_bad t j) (records_of t j.object) ≡ false
