-- What a text finds for a reference, by a unique field of its object.
use Rattle.std.specs.Prelude.{◌≡◌, ◌≢◌, ℕ, suc, Bool, false, ◌&&◌, List, Option, Some, None, Result, Ok, Err, IsTrue, slice_get}
use Rattle.std.specs.List.{find}
use Rattle.std.specs.Option.{option_map}
use Rattle.record_input.specs.Given.{finds_none}
use Rattle.store_rows.specs.declared.fail.StoreFail.{StoreFail}
use Rattle.store_rows.specs.declared.fail.StoreFail.TheVariants.{Damaged, Memory}
use Rattle.model.specs.declared.record_bodies.Assignment.{Assignment}
use Rattle.model.specs.declared.record_bodies.Given.{Given}
use Rattle.model.specs.declared.record_bodies.Given.TheVariants as gives
use Rattle.model.specs.Cases.{in_case}
use Rattle.model.specs.Fields.{is_null, same_name}
use Rattle.model.specs.Given.{field_at, record_by_value}
use Rattle.model.specs.Relationships.{target_of}
use Rattle.model.specs.Tenant.{Field, Tenant}
use Rattle.store_abstraction.specs.declared.layout.FieldPlace.{FieldPlace}
use Rattle.store_abstraction.specs.declared.layout.Layout.{Layout}
use Rattle.base_value.specs.Reading.{read_value}
use Rattle.base_value.specs.Types.{is_type}
use Rattle.base_value.specs.declared.fail.ValueFail.{ValueFail}
use Rattle.base_value.specs.declared.fail.ValueFail.TheVariants as fail
use Rattle.base_value.specs.declared.value.Value.{Value}
use Rattle.cmd_load_row.specs.declared.parents.Parent.{Parent}

-- ---- the fields

-- the custom field with this name
abbrev pub place_named : Layout → (name : List ℕ) → Option FieldPlace
place_named l name = find (λ f. same_name f.name name) l.fields

-- the object to whose records it refers
abbrev pub target_named : Layout → (name : List ℕ) → Option ℕ
target_named l name = in_case (place_named l name) None (λ f. target_of f.kind)

-- the field with this number is unique, and its type within its bounds
abbrev pub is_unique_place : FieldPlace → Bool
is_unique_place f = f.unique && is_type f.kind

abbrev pub is_unique_at : Layout → (number : ℕ) → Bool
is_unique_at l number = in_case (slice_get l.fields number) false is_unique_place

-- ---- the record

-- what a text finds that isn't read: nothing, unless it is out of memory
abbrev pub unread : ValueFail → Result (Option (List ℕ)) StoreFail
unread fail.Memory = Err Memory
unread _ = Ok None

-- the id of the record of an object that has the value of a text in the field with this number, or why the work on the tables stopped
abbrev pub FindsId : Tenant → Layout → (number : ℕ) → (text : List ℕ) → Result (Option (List ℕ)) StoreFail → Type 0
FindsId t l number text (Ok id) =
    (f : FieldPlace) (v : Value) → slice_get l.fields number ≡ Some f → read_value f.kind text ≡ Ok v → is_null v ≡ false
    → id ≡ option_map (λ r. r.id) (record_by_value t l.object (suc number) v)
FindsId t l number text (Err e) = e ≢ Damaged

-- it has the type of the unique field, and the id of the record that has the value of the text, if one has it
pub record IsParent (t : Tenant) (object place : ℕ) (text : List ℕ) (p : Parent) : Type 0 where
  pub unique : Field
  pub there : field_at t object place ≡ Some unique
  pub kind : p.kind ≡ unique.kind
  pub types : IsTrue (is_type unique.kind)
  pub id : (v : Value) → read_value unique.kind text ≡ Ok v → is_null v ≡ false
      → p.id ≡ option_map (λ r. r.id) (record_by_value t object (suc place) v)

-- so it is of the object of a layout, or why the work on the tables stopped
abbrev pub FindsAt : Tenant → Layout → (place : ℕ) → (name text : List ℕ) → Result Parent StoreFail → Type 0
FindsAt t target place name text (Ok p) = (p.name ≡ name) × IsParent t target.object place text p
FindsAt t target place name text (Err e) = e ≢ Damaged

-- the same of the object to which the field with this name refers
pub record IsParentOf (t : Tenant) (l : Layout) (name : List ℕ) (place : ℕ) (text : List ℕ) (p : Parent) : Type 0 where
  pub name_is : p.name ≡ name
  pub object : ℕ
  pub target : target_named l name ≡ Some object
  pub parent : IsParent t object place text p

abbrev pub FindsOf : Tenant → Layout → (name : List ℕ) → (place : ℕ) → (text : List ℕ) → Result Parent StoreFail → Type 0
FindsOf t l name place text (Ok p) = IsParentOf t l name place text p
FindsOf t l name place text (Err e) = e ≢ Damaged

-- ---- what is given

-- what was found, if it was
abbrev pub some_found : Result Parent StoreFail → Result (Option Parent) StoreFail
some_found (Ok p) = Ok (Some p)
some_found (Err e) = Err e

-- so it is of what finds a record
abbrev pub ParentFor : Tenant → Layout → (name : List ℕ) → Given → Parent → Type 0
ParentFor t l name (gives.Find place text) p = IsParentOf t l name place text p
ParentFor t l name _ p = Unit {0}

-- what is found for what is given to a field, if that finds a record, or why the work on the tables stopped
abbrev pub FindsFor : Tenant → Layout → Assignment → Result (Option Parent) StoreFail → Type 0
FindsFor t l x (Ok None) = IsTrue (finds_none x.given)
FindsFor t l x (Ok (Some p)) = ParentFor t l x.field x.given p
FindsFor t l x (Err e) = e ≢ Damaged
