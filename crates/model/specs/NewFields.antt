-- New fields.
-- Source: Salesforce, "Custom Field" and "Object Relationships Overview". The order in which one is judged is this product's own.
use Rattle.std.specs.Prelude.{ℕ, ◌+◌, Bool, false, not, ◌&&◌, ◌||◌, ◌==◌, if◌then◌else◌, List, [], ◌∷◌, ◌++◌, map, length, bytes_eq, codes, Option, Some, None, unwrap_or}
use Rattle.base_value.specs.Reading.{empty_value}
use Rattle.base_value.specs.declared.value.FieldType.{FieldType}
use Rattle.base_value.specs.declared.value.FieldType.TheVariants as type
use Rattle.model.specs.declared.limit.Limit.TheVariants as limit
use Rattle.model.specs.declared.metadata_bodies.NewField.{NewField}
use Rattle.model.specs.declared.metadata_bodies.SpelledType.{SpelledType}
use Rattle.model.specs.declared.metadata_bodies.SpelledType.TheVariants.{Plain, LookupTo}
use Rattle.model.specs.Cases.{in_case}
use Rattle.model.specs.Names.{bad_name, is_child_name, is_custom_name, taken}
use Rattle.model.specs.Objects.{Numbered, change_at, is_of}
use Rattle.model.specs.Relationships.{parent_name, relationship_names}
use Rattle.model.specs.Rules.{Rule, first_refusal, in_body_order, over_limit}
use Rattle.model.specs.Tenant.{Field, Tenant}
use Rattle.model.specs.Verdict.{Verdict, accept, done, judged, on_object}

-- ---- lookups

-- what it comes to with the number of a lookup's object; other types have none
abbrev pub on_target : Tenant → SpelledType → (Option ℕ → Verdict) → Verdict
on_target t (Plain kind) verdict = verdict None
on_target t (LookupTo object on_delete child) verdict = on_object t object (λ o. verdict (Some o.number))

-- the type, with the number of a lookup's object
abbrev pub type_with : (target : Option ℕ) → SpelledType → FieldType
type_with target (Plain kind) = kind
type_with target (LookupTo object on_delete child) = type.Lookup (unwrap_or target 0) on_delete

-- the child relationship of a lookup
abbrev pub child_of : SpelledType → Option (List ℕ)
child_of (Plain kind) = None
child_of (LookupTo object on_delete child) = Some child

-- the first of these members is before the second
abbrev pub is_before : (members : List (List ℕ)) → (first second : List ℕ) → Bool
is_before [] first second = false
is_before (m ∷ members) first second = bytes_eq m first || (not (bytes_eq m second) && is_before members first second)

-- ---- DUPLICATE_DEVELOPER_NAME: a lookup gives its object the parent relationship `X__r`, and its target the child relationship.
-- Where these are one object, the one whose member comes second may not have the name of the other

-- the child relationship, where it is the object's own and comes before the parent relationship
abbrev pub own_child : ℕ → (target : ℕ) → NewField → List (List ℕ)
own_child n target b =
    if (n == target) && is_before b.members (codes "type") (codes "name") then in_case (child_of b.kind) [] (λ c. c ∷ []) else []

-- the parent relationship, where it is the target's own and comes before the child relationship
abbrev pub own_parent : ℕ → (target : ℕ) → NewField → List (List ℕ)
own_parent n target b = if (n == target) && is_before b.members (codes "name") (codes "type") then parent_name b.name ∷ [] else []

-- the parent relationship is taken on the object, or the child relationship on the target
abbrev pub parent_taken : Tenant → ℕ → NewField → (target : ℕ) → Rule
parent_taken t n b target = taken (relationship_names t.objects n ++ own_child n target b) (parent_name b.name)

abbrev pub child_taken : Tenant → ℕ → NewField → (target : ℕ) → Rule
child_taken t n b target = in_case (child_of b.kind) None (taken (relationship_names t.objects target ++ own_parent n target b))

-- the name is taken, or its parent relationship
abbrev pub name_taken : Tenant → Numbered → Option ℕ → NewField → Rule
name_taken t o target b =
    first_refusal (taken (map (λ f. f.name) o.object.fields) b.name ∷ in_case target None (parent_taken t o.number b) ∷ [])

-- ---- the field

abbrev pub field_rules : Tenant → Numbered → (target : Option ℕ) → NewField → List Rule
field_rules t o target b =
    in_body_order b.members
    ((codes "name", bad_name is_custom_name b.name) ∷ (codes "type", in_case (child_of b.kind) None (bad_name is_child_name)) ∷ [])
    ∷ in_body_order b.members
    ((codes "name", name_taken t o target b) ∷ (codes "type", in_case target None (child_taken t o.number b)) ∷ [])
    ∷ over_limit ((limit.FieldsPerObject, length o.object.fields + 1) ∷ [])
    ∷ []

abbrev pub new_field : (target : Option ℕ) → NewField → Field
new_field target b =
    record {
      name = b.name;
      kind = type_with target b.kind;
      required = b.required;
      unique = b.unique;
      indexed = b.indexed;
      child = child_of b.kind;
    }

-- one field more on the object with this number: null, or false, in each of its records
abbrev pub with_field : ℕ → Field → Tenant → Tenant
with_field n f t =
    record t {
      objects = change_at n (λ o. record o { fields = o.fields ++ f ∷ [] }) t.objects;
      records = map (λ r. if is_of n r then record r { values = r.values ++ empty_value f.kind ∷ [] } else r) t.records;
    }

-- a new field
abbrev pub add_field : Tenant → NewField → Verdict
add_field t b =
    on_object t b.object (λ o. on_target t b.kind (λ target.
    judged t (field_rules t o target b) (accept done (with_field o.number (new_field target b) t))))
