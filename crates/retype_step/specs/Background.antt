-- What the step of a change of a field's type comes to, in the organisation that makes it.
use Rattle.std.specs.Prelude.{◌≡◌, ◌≢◌, ◌+◌, ◌<◌, ℕ, Bool, true, false, IfOk, Some, Result, Ok, Err}
use Rattle.store_kv.specs.Draft.{DraftReads, Held, count_of, removals_of}
use Rattle.store_kv.specs.State.{KeeperState, data_table}
use Rattle.store_kv.specs.Tables.{Tables}
use Rattle.store_rows.specs.declared.fail.StoreFail.{StoreFail}
use Rattle.store_rows.specs.declared.fail.StoreFail.TheVariants.{Damaged}
use Rattle.model.specs.Jobs.{job_step}
use Rattle.model.specs.Limits.{step_records}
use Rattle.model.specs.Retyping.{job_is_done}
use Rattle.model.specs.Tenant.{Job, Tenant}
use Rattle.store_abstraction.specs.Calls.{Makes, ended}
use Rattle.store_abstraction.specs.Local.{KeepsOthers, StandsFor, StandsIn}
use Rattle.store_abstraction.specs.Plan.{OrgPlan}

-- the most rows that a step writes: two for each of its records, and that of the change
abbrev pub step_changes : ℕ
step_changes = 201

-- the most data rows that it is shown
abbrev pub step_shown : ℕ
step_shown = step_records

-- a change of a field's type is under way
abbrev pub IsUnderWay : Tenant → Type 0
IsUnderWay t = (j : Job) × (t.job ≡ Some j) × (job_is_done j.phase ≡ false)

-- nothing was to be done; or a change is under way, and the organisation's rows are those of the tenant after its step; or why the
-- work on the tables stopped
abbrev pub StepsTo : (org : ℕ) → Tenant → Tables → Result Bool StoreFail → Type 0
StepsTo org t after (Ok false) = job_step t ≡ t
StepsTo org t after (Ok true) = IsUnderWay t × StandsFor org after (Some (job_step t))
StepsTo org t after (Err e) = e ≢ Damaged

-- made over these tables, of which those came: whatever they have, no row of others changes; and where the organisation's rows
-- stand for a tenant, its step is made
pub record StepsIn (org : ℕ) (m after : Tables) (result : Result Bool StoreFail) : Type 0 where
  pub others : IfOk result (λ made. KeepsOthers org m after)
  pub stepped : (q : OrgPlan) (t : Tenant) → StandsIn org q m (Some t) → StepsTo org t after result

module _ {K : Type 0} (state : K → KeeperState) where
  -- what it leaves of a draft: few changes and reads; some changes if there was a step, and none if there was none
  pub record DraftsStep (result : Result Bool StoreFail) (old new : Held K) : Type 0 where
    pub makes : Makes state step_changes 0 (step_shown + removals_of state data_table old) (ended result) old new
    pub changing : result ≡ Ok true → 0 < count_of new
    pub same : result ≡ Ok false → DraftReads state 0 old new
