-- References from records to records, and the relationships that they give: from a record to its parent, and from a record
-- to its children.
-- Source: Salesforce, "Object Relationships Overview", and "SOQL and SOSL Reference", "Understanding Relationship Names":
-- a field `X__c` gives the parent relationship `X__r`, and names the child relationship.
use Rattle.std.specs.Prelude.{ℕ, ◌-◌, Bool, false, ◌&&◌, ◌==◌, List, [], ◌∷◌, ◌++◌, length, map, filter, filter_map, take, bytes_eq, codes, Option, Some, None}
use Rattle.std.specs.List.{enumerate_from, find, flat_map}
use Rattle.std.specs.Option.{option_and_then}
use Rattle.base_value.specs.declared.value.FieldType.{FieldType}
use Rattle.base_value.specs.declared.value.FieldType.TheVariants as type
use Rattle.formula.specs.Meaning.{value_at}
use Rattle.model.specs.declared.record.Record.{Record}
use Rattle.model.specs.Cases.{in_case}
use Rattle.model.specs.Fields.{is_master, ref_of, same_name}
use Rattle.model.specs.Objects.{Numbered, numbered, record_at}
use Rattle.model.specs.Tenant.{Field, Object, Tenant}

-- ---- references

-- a field that names records
pub record Reference : Type 0 where
  -- the object that has the field, and the field's position among a record's values
  pub object : ℕ
  pub position : ℕ
  pub field : Field
  -- the object whose records it names
  pub target : ℕ

-- the object to which a type refers
abbrev pub target_of : FieldType → Option ℕ
target_of (type.Lookup object on_delete) = Some object
target_of (type.Master object) = Some object
target_of _ = None

-- the reference that a field with its position is, if it is one
abbrev pub reference_at : ℕ → ℕ × Field → List Reference
reference_at object f =
    in_case (target_of f.1.kind) [] (λ target. record { object = object; position = f.0; field = f.1; target = target } ∷ [])

-- those of an object
abbrev pub references_of : Numbered → List Reference
references_of o = flat_map (reference_at o.number) (enumerate_from 1 o.object.fields)

-- those of all objects, by the number of the object and then in the order of its fields
abbrev pub references : List Object → List Reference
references os = flat_map references_of (numbered os)

-- ---- relationships

-- the name of a parent relationship: `X__r` of `X__c`
unfoldable pub parent_name : List ℕ → List ℕ
parent_name field = take (length field - 3) field ++ codes "__r"

-- the parent relationship of an object with this name
unfoldable pub parent_named : Tenant → ℕ → List ℕ → Option Reference
parent_named t n name = find (λ f. (f.object == n) && same_name (parent_name f.field.name) name) (references t.objects)

-- the child relationship of an object with this name
unfoldable pub child_named : Tenant → ℕ → List ℕ → Option Reference
child_named t n name = find (λ f. (f.target == n) && in_case f.field.child false (same_name name)) (references t.objects)

-- the reference of an object's records to their masters
abbrev pub master_of_object : List Object → ℕ → Option Reference
master_of_object os n = find (λ f. (f.object == n) && is_master f.field.kind) (references os)

-- the names of all relationships of an object: to parents, and to children
abbrev pub relationship_names : List Object → ℕ → List (List ℕ)
relationship_names os n =
    map (λ f. parent_name f.field.name) (filter (λ f. f.object == n) (references os))
    ++ filter_map (λ f. f.field.child) (filter (λ f. f.target == n) (references os))

-- ---- records that are named

-- the id that a record's reference names
abbrev pub named_id : Reference → Record → Option (List ℕ)
named_id f r = ref_of (value_at r.values f.position)

-- the record has this id in the reference
abbrev pub refers_to : List ℕ → Reference → Record → Bool
refers_to id f r = in_case (named_id f r) false (bytes_eq id)

-- the record that a record's reference names
abbrev pub named_record : Tenant → Reference → Record → Option Record
named_record t f r = option_and_then (record_at t) (named_id f r)
