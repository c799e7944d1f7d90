-- Records, as a user may read them.
-- Source: Salesforce, "SOQL and SOSL Reference", "Relationship Queries". That a record which the user may not read is none is this
-- product's own.
use Rattle.std.specs.Prelude.{◌≡◌, ℕ, ◌+◌, if◌then◌else◌, Option, Some, None, Result, Ok, Err}
use Rattle.std.specs.Option.{option_and_then}
use Rattle.store_kv.specs.Tables.{Tables}
use Rattle.store_rows.specs.declared.fail.StoreFail.{StoreFail}
use Rattle.store_rows.specs.declared.fail.StoreFail.TheVariants.{Damaged, Keeper, Memory}
use Rattle.model.specs.declared.record.Record.{Record}
use Rattle.model.specs.Levels.{can_read}
use Rattle.model.specs.Tenant.{Tenant, User}
use Rattle.access_traits.specs.Rights.{Whose, level_shown}
use Rattle.store_abstraction.specs.Layouts.{IsLayout}
use Rattle.store_abstraction.specs.Local.{StandsIn}
use Rattle.store_abstraction.specs.Plan.{OrgPlan}
use Rattle.store_abstraction.specs.declared.layout.Layout.{Layout}

-- a record, if the user may read it: `if_readable` of the model, without the moment at which who asks does
abbrev pub if_readable_by : Tenant → User → Record → Option Record
if_readable_by t u r = if can_read t u r then Some r else None

-- the data rows that are shown for one of them at most: its own, and those for its level
abbrev pub readable_shown : ℕ
readable_shown = 1 + level_shown

-- what is found is so for each user whose rights they are, of each tenant for which the organisation's rows stand and whose layout it
-- is, and such are never damaged
abbrev pub FindsBy : {X : Type 0} → Layout → Whose → (Tenant → User → X) → Tables → Result X StoreFail → Type 0
FindsBy l whose value m (Ok x) = (q : OrgPlan) (t : Tenant) (u : User) → StandsIn l.org q m (Some t) → IsLayout q t l → whose t u → x ≡ value t u
FindsBy l whose value m (Err Damaged) = (q : OrgPlan) (t : Tenant) (u : User) → StandsIn l.org q m (Some t) → IsLayout q t l → whose t u → ⊥
FindsBy l whose value m (Err Keeper) = Unit {0}
FindsBy l whose value m (Err Memory) = Unit {0}

-- what is found is the record that is so of the tenant, if the user may read it
abbrev pub FindsReadable : Layout → Whose → (Tenant → Option Record) → Tables → Result (Option Record) StoreFail → Type 0
FindsReadable l whose value m result = FindsBy l whose (λ t u. option_and_then (if_readable_by t u) (value t)) m result
