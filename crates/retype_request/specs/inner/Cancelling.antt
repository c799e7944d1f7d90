-- The row of a change that is called off. No public contract reaches these words.
-- It is this product's own.
use Rattle.std.specs.Prelude.{◌≡◌, ℕ, if◌then◌else◌, Option, None, Some, Result, Ok, Err}
use Rattle.std.specs.Option.{option_and_then}
use Rattle.store_edit.specs.Edits.{FailsBy}
use Rattle.store_rows.specs.declared.job.JobRow.{JobRow}
use Rattle.model.specs.Retyping.{cancel_retype}
use Rattle.model.specs.RuleFormulas.{is_copy}
use Rattle.model.specs.Tenant.{Job, Tenant}
use Rattle.retype_request.specs.inner.Beginning.{row_by}
use Rattle.store_abstraction.specs.declared.fail.EditFail.{EditFail}
use Rattle.store_abstraction.specs.Plan.{OrgPlan}
use Rattle.base_value.specs.declared.job.Outcome.TheVariants as outcome
use Rattle.base_value.specs.declared.job.Phase.TheVariants as phase

-- the row of the change, if it copies
abbrev pub copying_by : Option JobRow → Option JobRow
copying_by row = option_and_then (λ (r : JobRow). if is_copy r.phase then Some r else None) row

-- a change that copies is called off
pub record Cancels (org : ℕ) (q : OrgPlan) (t : Tenant) (row : JobRow) : Type 0 where
  pub job : Job
  pub there : t.job ≡ Some job
  pub copies : job.phase ≡ phase.Copy
  pub made : row ≡ row_by org job.object job.field job.to q.other phase.Clear outcome.Cancelled

-- the row is that of such a change; or why there is none
abbrev pub CancelsTo : (org : ℕ) → OrgPlan → Tenant → Result JobRow EditFail → Type 0
CancelsTo org q t (Ok row) = Cancels org q t row
CancelsTo org q t (Err e) = FailsBy (cancel_retype t) e
