-- An organisation's people, and the keyring of one of its users, as they are read from the tables.
use Rattle.std.specs.Prelude.{ℕ, List, Option, Some, Result, Ok, Err}
use Rattle.store_kv.specs.Tables.{Tables}
use Rattle.store_rows.specs.declared.fail.StoreFail.{StoreFail}
use Rattle.store_rows.specs.declared.fail.StoreFail.TheVariants.{Damaged, Keeper, Memory}
use Rattle.model.specs.Tenant.{Tenant}
use Rattle.store_abstraction.specs.Local.{StandsIn}
use Rattle.store_abstraction.specs.Plan.{OrgPlan}
use Rattle.access_closure.specs.declared.people.People.{People}
use Rattle.access_closure.specs.declared.reading.Sharer.{Sharer}
use Rattle.access_closure.specs.Keyrings.{ArePeople, IsKeyringOf}

-- the people of the organisation with this number, and the keyring of the user with this id
pub record IsSharer (org : ℕ) (i : List ℕ) (t : Tenant) (s : Sharer) : Type 0 where
  pub people : ArePeople org t s.people
  pub keyring : IsKeyringOf s.people i s.keyring

-- what is read is so of each tenant for which the organisation's rows stand, and where they stand for one or none they are never
-- damaged
abbrev pub ReadsIn : {X : Type 0} → (org : ℕ) → (Tenant → X → Type 0) → Tables → Result X StoreFail → Type 0
ReadsIn n Is m (Ok x) = (q : OrgPlan) (t : Tenant) → StandsIn n q m (Some t) → Is t x
ReadsIn n Is m (Err Damaged) = (q : OrgPlan) (t : Option Tenant) → StandsIn n q m t → ⊥
ReadsIn n Is m (Err Keeper) = Unit {0}
ReadsIn n Is m (Err Memory) = Unit {0}

-- the organisation's people are read
abbrev pub FindsPeople : (org : ℕ) → Tables → Result People StoreFail → Type 0
FindsPeople n = ReadsIn n (ArePeople n)

-- its people and the keyring of its user with this id are read
abbrev pub FindsSharer : (org : ℕ) → (id : List ℕ) → Tables → Result Sharer StoreFail → Type 0
FindsSharer n i = ReadsIn n (IsSharer n i)
