-- What is found for all that a row gives.
use Rattle.std.specs.Prelude.{◌≡◌, ◌≢◌, ℕ, Bool, List, [], ◌∷◌, ◌++◌, map, Option, Some, None, Result, Ok, Err}
use Rattle.std.specs.List.{find, list_any}
use Rattle.std.specs.Str.{chars}
use Rattle.record_input.specs.Given.{IsFound}
use Rattle.record_input.specs.declared.found.Found.{Found}
use Rattle.store_rows.specs.declared.fail.StoreFail.{StoreFail}
use Rattle.store_rows.specs.declared.fail.StoreFail.TheVariants.{Damaged}
use Rattle.model.specs.declared.record_bodies.Assignment.{Assignment}
use Rattle.model.specs.declared.record_bodies.Given.{Given}
use Rattle.model.specs.declared.record_bodies.Given.TheVariants as gives
use Rattle.model.specs.Fields.{Column, column_named, same_name}
use Rattle.model.specs.Membership.{Has}
use Rattle.model.specs.Objects.{Numbered, object_named}
use Rattle.model.specs.Tenant.{Object, Tenant}
use Rattle.store_abstraction.specs.declared.layout.Layout.{Layout}
use Rattle.base_value.specs.declared.value.FieldType.{FieldType}
use Rattle.cmd_load_row.specs.declared.parents.Parent.{Parent}
use Rattle.cmd_load_row.specs.inner.Finding.{IsParentOf}

-- ---- lists of what was found

-- the first for a name
abbrev pub parent_named : List Parent → (name : List ℕ) → Option Parent
parent_named parents name = find (λ p. same_name p.name name) parents

abbrev pub has_parent : List Parent → (name : List ℕ) → Bool
has_parent parents name = list_any (λ p. same_name p.name name) parents

-- one more, unless one is there for the name
abbrev pub Adds : (before : List Parent) → Option Parent → (after : List Parent) → Type 0
Adds before None after = after ≡ before
Adds before (Some p) after = (parent_named before p.name ≡ None) × (after ≡ before ++ p ∷ [])

-- ---- by a layout

-- if what is given finds a record, the first for the name is that record's
abbrev pub IsFoundBy : Tenant → Layout → List Parent → (name : List ℕ) → Given → Type 0
IsFoundBy t l parents name (gives.Find place text) = (p : Parent) × (parent_named parents name ≡ Some p) × IsParentOf t l name place text p
IsFoundBy t l parents name _ = Unit {0}

-- the same of all that is given
abbrev pub AllFound : Tenant → Layout → List Parent → List Assignment → Type 0
AllFound t l parents given = (x : Assignment) → Has given x → IsFoundBy t l parents x.field x.given

abbrev pub FindsAll : Tenant → Layout → List Assignment → Result (List Parent) StoreFail → Type 0
FindsAll t l given (Ok parents) = AllFound t l parents given
FindsAll t l given (Err e) = e ≢ Damaged

-- ---- as edits are told it

-- what is told: a name, a type and an id
abbrev pub told : Found → List ℕ × FieldType × Option (List ℕ)
told x = (chars x.name.now, x.kind.now, x.id)

abbrev pub told_of : Parent → List ℕ × FieldType × Option (List ℕ)
told_of p = (p.name, p.kind, p.id)

abbrev pub AreTold : List Found → List Parent → Type 0
AreTold found parents = map told found ≡ map told_of parents

-- ---- in an object

-- whoever tells of it tells what a text finds for a column
abbrev pub IsKnownBy : Tenant → List Parent → Column → Given → Type 0
IsKnownBy t parents c (gives.Find place text) =
    (p : Parent) × (parent_named parents c.name ≡ Some p) × ((x : Found) → told x ≡ told_of p → IsFound t c place text x)
IsKnownBy t parents c _ = Unit {0}

-- the same of all that is given to its columns
abbrev pub AllKnown : Tenant → Object → List Parent → List Assignment → Type 0
AllKnown t o parents given =
    (x : Assignment) (c : Column) → Has given x → column_named o x.field ≡ Some c → IsKnownBy t parents c x.given

-- in the object with this name, if there is one, or why the work on the tables stopped
abbrev pub FindsParents : Tenant → (name : List ℕ) → List Assignment → Result (List Parent) StoreFail → Type 0
FindsParents t name given (Ok parents) = (o : Numbered) → object_named t name ≡ Some o → AllKnown t o.object parents given
FindsParents t name given (Err e) = e ≢ Damaged
