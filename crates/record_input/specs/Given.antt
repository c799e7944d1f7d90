-- What a body gives to the fields of an object, by the object's layout.
-- Source: C. D. Weissman and S. Bobrowski, "The Design of the Force.com Multitenant Internet Application Development
-- Platform" (SIGMOD 2009): metadata say what each field holds.
use Rattle.std.specs.Prelude.{◌≡◌, ℕ, suc, Bool, true, false, ◌∷◌, List, map, Option, Some, None, Result, Ok, Err, IsTrue, slice_get}
use Rattle.std.specs.List.{find, list_all}
use Rattle.std.specs.Option.{option_map}
use Rattle.std.specs.Str.{chars}
use Rattle.model.specs.declared.record.Record.{Record}
use Rattle.model.specs.declared.record_bodies.Assignment.{Assignment}
use Rattle.model.specs.declared.record_bodies.Given.{Given}
use Rattle.model.specs.declared.record_bodies.Given.TheVariants as gives
use Rattle.model.specs.declared.refusal.Refusal.{Refusal}
use Rattle.model.specs.Edits.{bad_value, given_owner, given_to, value_or}
use Rattle.model.specs.Fields.{Column, column, column_named, custom_columns, is_null, name_column, of_type, same_name, value_in, value_site, writable_columns}
use Rattle.model.specs.Given.{field_at, record_by_value, target_of_kind}
use Rattle.model.specs.Keys.{Key, with_key}
use Rattle.model.specs.Membership.{Has}
use Rattle.model.specs.Tenant.{Field, Object, Tenant}
use Rattle.model.specs.Upserts.{unique_named}
use Rattle.schema_rules.specs.Objects.{field_of_place, object_of_layout}
use Rattle.store_abstraction.specs.declared.layout.FieldPlace.{FieldPlace}
use Rattle.store_abstraction.specs.declared.layout.Layout.{Layout}
use Rattle.base_value.specs.Reading.{read_value}
use Rattle.base_value.specs.Types.{is_type}
use Rattle.base_value.specs.declared.value.Value.{Value}
use Rattle.record_input.specs.declared.found.Found.{Found}
use Rattle.record_input.specs.declared.given.GivenValues.{GivenValues}
use Rattle.record_input.specs.declared.key.AllGiven.{AllGiven}
use Rattle.record_input.specs.declared.key.UpsertKey.{UpsertKey}

-- ---- what is given

-- nothing that is given finds a record
abbrev pub finds_none : Given → Bool
finds_none (gives.Find field text) = false
finds_none _ = true

abbrev pub FindNone : List Assignment → Type 0
FindNone given = IsTrue (list_all (λ x. finds_none x.given) given)

-- all that is given is in JSON
abbrev pub is_json : Given → Bool
is_json (gives.Json json) = true
is_json _ = false

abbrev pub IsInJson : List Assignment → Type 0
IsInJson given = IsTrue (list_all (λ x. is_json x.given) given)

-- ---- the key of an upsert

-- the key, as the definitions have it
abbrev pub key_in : UpsertKey → Key
key_in k = record { column = column k.field.now.name (of_type k.field.now.kind) (value_site (suc k.number)); value = k.value.now }

abbrev pub key_of : AllGiven → Option Key
key_of x = option_map key_in x.key

-- what the body gives, and the key
abbrev pub all_given : AllGiven → List Assignment
all_given x = with_key (key_of x) x.body.now

-- the key's field has a type within its bounds
abbrev pub has_key_type : UpsertKey → Bool
has_key_type k = is_type k.field.now.kind

-- the key's type, if there is a key, is a type
pub record IsPlain (x : AllGiven) : Type 0 where
  pub key : (k : UpsertKey) → x.key ≡ Some k → IsTrue (has_key_type k)

-- the number of the unique field with this name among the custom fields, if there is one
abbrev pub NamesUnique : Layout → (name : List ℕ) → Option ℕ → Type 0
NamesUnique l name None = unique_named (object_of_layout l) name ≡ None
NamesUnique l name (Some n) =
    (f : FieldPlace) × (slice_get l.fields n ≡ Some f) × (unique_named (object_of_layout l) name ≡ Some (suc n, field_of_place f))

-- ---- references by a unique field

-- the first entry with this name
abbrev pub found_named : List Found → (name : List ℕ) → Option Found
found_named found name = find (λ x. same_name (chars x.name.now) name) found

-- it has the type of the unique field, and the id of the record that has the value of the text, if one has it
pub record IsFound (t : Tenant) (c : Column) (field : ℕ) (text : List ℕ) (x : Found) : Type 0 where
  pub object : ℕ
  pub unique : Field
  pub target : target_of_kind c.content ≡ Some object
  pub there : field_at t object field ≡ Some unique
  pub kind : x.kind.now ≡ unique.kind
  pub types : IsTrue (is_type unique.kind)
  pub id : (v : Value) → read_value unique.kind text ≡ Ok v → is_null v ≡ false
      → x.id ≡ option_map (λ r. r.id) (record_by_value t object (suc field) v)

-- if a record is to be found for the column, the first entry with its name is that record's
abbrev pub IsKnown : Tenant → List Found → Column → Given → Type 0
IsKnown t found c (gives.Find field text) = (x : Found) × (found_named found c.name ≡ Some x) × IsFound t c field text x
IsKnown t found c _ = Unit {0}

-- the same of all that a body gives to the column
abbrev pub FindsFor : Tenant → List Found → (body : List Assignment) → Column → Type 0
FindsFor t found body c = (x : Assignment) → Has body x → IsTrue (same_name x.field c.name) → IsKnown t found c x.given

-- the columns to which a body gives values: those of the object that edits may give, and the key's
abbrev pub given_columns : Object → Option Key → List Column
given_columns o None = writable_columns o
given_columns o (Some k) = k.column ∷ writable_columns o

-- and to each of these
abbrev pub Finds : Tenant → Object → Option Key → List Found → (body : List Assignment) → Type 0
Finds t o key found body = (c : Column) → Has (given_columns o key) c → FindsFor t found body c

-- the same of what is given to a record
abbrev pub FindsAll : Tenant → Object → AllGiven → Type 0
FindsAll t o x = Finds t o (key_of x) x.found.now x.body.now

-- of a body: the same by the names alone, which is as much where the columns of an object have different names
abbrev pub FindsNamed : Tenant → Object → List Found → (body : List Assignment) → Type 0
FindsNamed t o found body = (x : Assignment) (c : Column) → Has body x → column_named o x.field ≡ Some c → IsKnown t found c x.given

-- ---- what was read of it

-- the values of a record over what it had, and the owner that is given
pub record IsGiven (t : Tenant) (o : Object) (given : List Assignment) (old : Record) (x : GivenValues) : Type 0 where
  pub values : x.values ≡ map (λ c. value_or (value_in c.at old) (given_to t given c)) (name_column ∷ custom_columns o)
  pub owner : x.owner ≡ given_owner t o given

-- these, or why the first value that is refused is: the same in each tenant in which what is given finds these records
abbrev pub GivesValues : Layout → AllGiven → (old : Record) → Result GivenValues Refusal → Type 0
GivesValues l x old (Ok values) =
    (t : Tenant) → FindsAll t (object_of_layout l) x
    → (bad_value t (object_of_layout l) (all_given x) ≡ None) × IsGiven t (object_of_layout l) (all_given x) old values
GivesValues l x old (Err refusal) =
    (t : Tenant) → FindsAll t (object_of_layout l) x → bad_value t (object_of_layout l) (all_given x) ≡ Some refusal
