-- The fields of an object, as queries and edits see them, and the values that records have in them.
-- Sources: Salesforce, "Object Reference", "System Fields" and "Required Fields", of the fields that every object has;
-- "SOQL and SOSL Reference", of names, in which case is ignored. That a detail has no `OwnerId` is Salesforce's too.
use Rattle.std.specs.Prelude.{ℕ, Bool, true, false, if◌then◌else◌, List, [], ◌∷◌, ◌++◌, map, bytes_eq, codes, Option, Some, None}
use Rattle.std.specs.List.{enumerate_from, find, list_any}
use Rattle.base_value.specs.Texts.{lower}
pub use Rattle.base_value.specs.Values.{ref_of}
use Rattle.base_value.specs.declared.sharing.Access.{Access}
use Rattle.base_value.specs.declared.sharing.Access.TheVariants as access
use Rattle.base_value.specs.declared.value.FieldType.{FieldType}
use Rattle.base_value.specs.declared.value.FieldType.TheVariants as type
use Rattle.base_value.specs.declared.value.Value.{Value}
use Rattle.base_value.specs.declared.value.Value.TheVariants as value
use Rattle.formula.specs.Meaning.{value_at}
use Rattle.model.specs.declared.record.Record.{Record}
use Rattle.model.specs.Limits.{name_limit}
use Rattle.model.specs.Tenant.{Field, Object}

-- one name, whatever the case of its ASCII letters
abbrev pub same_name : List ℕ → List ℕ → Bool
same_name a b = bytes_eq (lower a) (lower b)

-- ---- details

-- the reference of a detail to its master
abbrev pub is_master : FieldType → Bool
is_master (type.Master object) = true
is_master _ = false

-- an object with a Master field
abbrev pub is_detail : Object → Bool
is_detail o = list_any (λ f. is_master f.kind) o.fields

-- access by the master, which details alone have
abbrev pub by_parent : Access → Bool
by_parent access.ControlledByParent = true
by_parent _ = false

-- ---- values

-- no value
abbrev pub is_null : Value → Bool
is_null value.Null = true
is_null _ = false

-- a reference, or null
abbrev pub as_ref : Option (List ℕ) → Value
as_ref None = value.Null
as_ref (Some id) = value.Ref id

-- where a record has a value: among its values the name's is at position 0, and those of the custom fields follow
pub data Site : Type 0 where
  its_id : Site
  its_owner : Site
  its_created : Site
  its_modified : Site
  value_site : ℕ → Site

-- the value of a record there
abbrev pub value_in : Site → Record → Value
value_in its_id r = value.Ref r.id
value_in its_owner r = as_ref r.owner
value_in its_created r = value.Moment r.created
value_in its_modified r = value.Moment r.modified
value_in (value_site position) r = value_at r.values position

-- ---- columns

-- what a field holds: values of a type or, as `Id` and `OwnerId`, ids
pub data Content : Type 0 where
  of_type : FieldType → Content
  of_ids : Content

-- a field: its name as declared, what it holds, and where a record has it
pub record Column : Type 0 where
  pub name : List ℕ
  pub content : Content
  pub at : Site

-- a column, from its parts
abbrev pub column : List ℕ → Content → Site → Column
column name content at = record { name = name; content = content; at = at }

-- `Name`: a text of at most 80 characters
abbrev pub name_column : Column
name_column = column (codes "Name") (of_type (type.Text name_limit)) (value_site 0)

-- `OwnerId`, which a detail doesn't have
abbrev pub owner_column : Column
owner_column = column (codes "OwnerId") of_ids its_owner

abbrev pub owner_columns : Object → List Column
owner_columns o = if is_detail o then [] else owner_column ∷ []

-- the custom fields, in their order
abbrev pub custom_columns : Object → List Column
custom_columns o = map (λ (f : ℕ × Field). column f.1.name (of_type f.1.kind) (value_site f.0)) (enumerate_from 1 o.fields)

-- the fields that an edit may give
abbrev pub writable_columns : Object → List Column
writable_columns o = name_column ∷ owner_columns o ++ custom_columns o

-- all fields
abbrev pub columns : Object → List Column
columns o =
    column (codes "Id") of_ids its_id
    ∷ column (codes "CreatedDate") (of_type type.Moment) its_created
    ∷ column (codes "LastModifiedDate") (of_type type.Moment) its_modified
    ∷ writable_columns o

-- the field with this name
unfoldable pub column_named : Object → List ℕ → Option Column
column_named o name = find (λ c. same_name c.name name) (columns o)
