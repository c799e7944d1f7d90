-- What a rule comes to for who asks, by the tables.
use Rattle.std.specs.Prelude.{◌≡◌, Some, Result, Ok, Err}
use Rattle.store_kv.specs.Tables.{Tables}
use Rattle.store_rows.specs.declared.fail.StoreFail.{StoreFail}
use Rattle.store_rows.specs.declared.fail.StoreFail.TheVariants.{Damaged, Keeper, Memory}
use Rattle.model.specs.Paths.{Asked}
use Rattle.model.specs.Rules.{Rule}
use Rattle.access_traits.specs.Rights.{Whose}
use Rattle.store_abstraction.specs.Layouts.{IsLayout}
use Rattle.store_abstraction.specs.Local.{StandsIn}
use Rattle.store_abstraction.specs.Plan.{OrgPlan}
use Rattle.store_abstraction.specs.declared.layout.Layout.{Layout}

-- it comes to what it is for each user whose rights these are and who asks in a tenant for which the organisation's rows stand and
-- whose layout it is, and such rows are never damaged
abbrev pub FindsRule : Layout → Whose → (Asked → Rule) → Tables → Result Rule StoreFail → Type 0
FindsRule l whose rule m (Ok found) =
    (q : OrgPlan) (a : Asked) → StandsIn l.org q m (Some a.tenant) → IsLayout q a.tenant l → whose a.tenant a.user → found ≡ rule a
FindsRule l whose rule m (Err Damaged) =
    (q : OrgPlan) (a : Asked) → StandsIn l.org q m (Some a.tenant) → IsLayout q a.tenant l → whose a.tenant a.user → ⊥
FindsRule l whose rule m (Err Keeper) = Unit {0}
FindsRule l whose rule m (Err Memory) = Unit {0}
