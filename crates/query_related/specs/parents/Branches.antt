-- The records of branches, as who asks may read them.
-- Source: as in Parents.
use Rattle.std.specs.Prelude.{◌≡◌, ℕ, List, Option, Some, Result, Ok, Err}
use Rattle.store_kv.specs.Tables.{Tables}
use Rattle.store_rows.specs.declared.fail.StoreFail.{StoreFail}
use Rattle.store_rows.specs.declared.fail.StoreFail.TheVariants.{Damaged, Keeper, Memory}
use Rattle.model.specs.declared.record.Record.{Record}
use Rattle.model.specs.Membership.{Has}
use Rattle.model.specs.Paths.{Asked}
use Rattle.access_traits.specs.Rights.{Whose}
use Rattle.store_abstraction.specs.Layouts.{own_layouts}
use Rattle.store_abstraction.specs.Local.{StandsIn}
use Rattle.store_abstraction.specs.Plan.{OrgPlan}
use Rattle.store_abstraction.specs.declared.layout.Layout.{Layout}

-- so it is of whoever asks whose rights they are, of each tenant for which an organisation's rows stand and all of whose layouts these
-- are, and of the row's record where it is one of the tenant's
abbrev pub OfRow : List Layout → Whose → Option Record → Tables → (Asked → Record → Type 0) → Type 0
OfRow layouts whose item m P =
    (org : ℕ) (q : OrgPlan) (a : Asked) (r : Record) → StandsIn org q m (Some a.tenant) → layouts ≡ own_layouts org q (Some a.tenant)
    → whose a.tenant a.user → Has a.tenant.records r → item ≡ Some r → P a r

-- what is found is so, and such are never damaged
abbrev pub FindsOfRow : {X : Type 0} → List Layout → Whose → Option Record → (Asked → Record → X) → Tables → Result X StoreFail → Type 0
FindsOfRow layouts whose item value m (Ok x) = OfRow layouts whose item m (λ a r. x ≡ value a r)
FindsOfRow layouts whose item value m (Err Damaged) = OfRow layouts whose item m (λ a r. ⊥)
FindsOfRow layouts whose item value m (Err Keeper) = Unit {0}
FindsOfRow layouts whose item value m (Err Memory) = Unit {0}
