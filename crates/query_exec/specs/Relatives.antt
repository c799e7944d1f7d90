-- The records to which a row's record is related: those of its parents, and its children.
use Rattle.std.specs.Prelude.{◌≡◌, ℕ, List, Option, Some, Result, Ok, Err}
use Rattle.store_kv.specs.Tables.{Tables}
use Rattle.store_rows.specs.declared.fail.StoreFail.{StoreFail}
use Rattle.store_rows.specs.declared.fail.StoreFail.TheVariants.{Damaged, Keeper, Memory}
use Rattle.model.specs.declared.record.Record.{Record}
use Rattle.model.specs.Membership.{Has}
use Rattle.model.specs.Objects.{records_of}
use Rattle.model.specs.Paths.{Asked}
use Rattle.store_abstraction.specs.Layouts.{IsLayout}
use Rattle.store_abstraction.specs.Local.{StandsIn}
use Rattle.store_abstraction.specs.Plan.{OrgPlan}
use Rattle.store_abstraction.specs.declared.layout.Layout.{Layout}

-- of whom something is so: of who asks in this organisation, by a plan by which its rows stand
abbrev pub Asking : Type 1
Asking = (org : ℕ) → OrgPlan → Asked → Type 0

-- so it is of whoever asks there, in a tenant for which the organisation's rows stand and whose layout it is, and of the record that is
-- seen, where it is one of the object's
abbrev pub OfSeen : Layout → Asking → Option Record → Tables → (Asked → Record → Type 0) → Type 0
OfSeen l whose item m P =
    (q : OrgPlan) (a : Asked) (r : Record) → StandsIn l.org q m (Some a.tenant) → IsLayout q a.tenant l → whose l.org q a
    → Has (records_of a.tenant l.object) r → item ≡ Some r → P a r

-- what is found is so, and such are never damaged
abbrev pub FindsOfSeen : {X : Type 0} → Layout → Asking → Option Record → (Asked → Record → X) → Tables → Result X StoreFail → Type 0
FindsOfSeen l whose item value m (Ok x) = OfSeen l whose item m (λ a r. x ≡ value a r)
FindsOfSeen l whose item value m (Err Damaged) = OfSeen l whose item m (λ a r. ⊥)
FindsOfSeen l whose item value m (Err Keeper) = Unit {0}
FindsOfSeen l whose item value m (Err Memory) = Unit {0}

-- a function of a record and the records of its parents, by what these are
abbrev pub by_parents : {X : Type 0} → (parents : Asked → Record → List (Option Record)) → (List (Option Record) → Record → X) → Asked → Record → X
by_parents parents f a r = f (parents a r) r

-- the same of a record with its parents and its children
abbrev pub by_relatives : {X Y : Type 0} → (parents : Asked → Record → List (Option Record)) → (children : Asked → Record → Y)
    → (List (Option Record) → Y → Record → X) → Asked → Record → X
by_relatives parents children f a r = f (parents a r) (children a r) r
