-- What is told over the tables of an organisation, and to whom.
use Rattle.std.specs.Prelude.{◌≡◌, ◌≢◌, ℕ, Some, Result, Ok, Err}
use Rattle.base_json.specs.declared.tree.Json.{Json}
use Rattle.model.specs.declared.caller.Caller.{Caller}
use Rattle.model.specs.Paths.{Asked}
use Rattle.model.specs.Tenant.{Tenant}
use Rattle.model.specs.World.{user_at}
use Rattle.model_reads.specs.Told.{Telling}
use Rattle.store_abstraction.specs.declared.fail.EditFail.{EditFail}
use Rattle.store_abstraction.specs.declared.fail.EditFail.TheVariants.{Refused, Store}
use Rattle.store_abstraction.specs.Local.{StandsIn}
use Rattle.store_abstraction.specs.Plan.{OrgPlan}
use Rattle.store_kv.specs.Tables.{Tables}
use Rattle.store_rows.specs.declared.fail.StoreFail.TheVariants.{Damaged}

-- what is told is so, or why it isn't told; or the work on the tables stopped, though they aren't damaged
abbrev pub TellsSo : Telling → Result Json EditFail → Type 0
TellsSo telling (Ok v) = telling ≡ Ok v
TellsSo telling (Err (Refused r)) = telling ≡ Err r
TellsSo telling (Err (Store e)) = e ≢ Damaged

-- so it is of each tenant for which the organisation's rows stand
abbrev pub TellsOf : (org : ℕ) → (Tenant → Telling) → Tables → Result Json EditFail → Type 0
TellsOf org tell m result = (q : OrgPlan) (t : Tenant) → StandsIn org q m (Some t) → TellsSo (tell t) result

-- the same to each such one as asks there
abbrev pub TellsTo : (org : ℕ) → (asks : Asked → Type 0) → (Asked → Telling) → Tables → Result Json EditFail → Type 0
TellsTo org asks tell m result = (q : OrgPlan) (a : Asked) → StandsIn org q m (Some a.tenant) → asks a → TellsSo (tell a) result

-- the caller is the one who asks
pub record IsAsker (c : Caller) (a : Asked) : Type 0 where
  pub user : user_at a.tenant.users c.user ≡ Some a.user
  pub admin : a.user.admin ≡ c.admin
