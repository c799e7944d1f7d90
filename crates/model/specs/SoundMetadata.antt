-- Sound metadata: what holds of every organisation's objects and fields at every moment.
-- Source: Salesforce, "Custom Field" and "Object Relationships Overview", of flags, relationships and masters. The limits are
-- this product's own. That the texts of rules spell formulas is SoundFormulas'.
use Rattle.std.specs.Prelude.{◌≡◌, ℕ, ◌≤◌, Bool, true, false, not, ◌&&◌, ◌||◌, nat_lt, if◌then◌else◌, List, length, map, filter, is_some, T, IsTrue}
use Rattle.std.specs.List.{AllByRecursion}
use Rattle.std.specs.FinMap.{is_sorted}
use Rattle.base_value.specs.Texts.{lower, texts_differ}
use Rattle.base_value.specs.Types.{is_type, is_reference, suits_unique, suits_indexed}
use Rattle.base_value.specs.declared.value.FieldType.{FieldType}
use Rattle.base_value.specs.declared.value.FieldType.TheVariants as type
use Rattle.base_value.specs.declared.value.OnDelete.TheVariants as on_delete
use Rattle.model.specs.declared.limit.Limit.TheVariants as limit
use Rattle.model.specs.Cases.{in_case}
use Rattle.model.specs.Fields.{by_parent, is_master}
use Rattle.model.specs.Limits.{limit_number}
use Rattle.model.specs.Metadata.{detail_level}
use Rattle.model.specs.Names.{is_custom_name, is_child_name, is_stem}
use Rattle.model.specs.Objects.{Numbered, numbered}
use Rattle.model.specs.Relationships.{relationship_names, target_of}
use Rattle.model.specs.RuleFormulas.{is_rule_text, name_cmp}
use Rattle.model.specs.SoundPeople.{is_name}
use Rattle.model.specs.Tenant.{Field, Object, ValidationRule}

-- names that differ, whatever the case of their letters
abbrev pub names_differ : List (List ℕ) → Bool
names_differ names = texts_differ (map lower names)

-- a lookup that is cleared isn't required
abbrev pub may_be_required : FieldType → Bool
may_be_required (type.Lookup object on_delete.Clear) = false
may_be_required _ = true

-- the one only with the other
abbrev pub implies : Bool → Bool → Bool
implies a b = not a || b

-- a field of an organisation with so many objects
pub record IsSoundField (objects : ℕ) (f : Field) : Type 0 where
  pub name : IsTrue (is_custom_name f.name)
  pub kind : IsTrue (is_type f.kind)
  pub target : IsTrue (in_case (target_of f.kind) true (λ n. nat_lt n objects))
  pub required : IsTrue (implies f.required (may_be_required f.kind) && implies (is_master f.kind) f.required)
  pub unique : IsTrue (implies f.unique (suits_unique f.kind))
  pub indexed : IsTrue (implies f.indexed (suits_indexed f.kind))
  -- a reference, and nothing else, has a child relationship
  pub child : is_some f.child ≡ is_reference f.kind
  pub child_name : IsTrue (in_case f.child true is_child_name)

pub record IsSoundValidation (r : ValidationRule) : Type 0 where
  pub name : IsTrue (is_stem r.name)
  pub formula : IsTrue (is_rule_text r.formula)
  pub message : IsTrue (is_name r.message)

-- how many Master fields an object has
abbrev pub masters : Object → ℕ
masters o = length (filter (λ f. is_master f.kind) o.fields)

-- an object with its fields, relationships and validation rules
pub record IsSoundObject (os : List Object) (o : Numbered) : Type 0 where
  pub name : IsTrue (is_custom_name o.object.name)
  pub fields : AllByRecursion (IsSoundField (length os)) o.object.fields
  pub field_names : IsTrue (names_differ (map (λ f. f.name) o.object.fields))
  pub relations : IsTrue (names_differ (relationship_names os o.number))
  -- one Master field exactly where the access is ControlledByParent, and else none
  pub master : masters o.object ≡ (if by_parent o.object.access then 1 else 0)
  -- and there the role hierarchy is that of the master's object
  pub hierarchy : IsTrue (implies (by_parent o.object.access) o.object.hierarchy)
  pub level : detail_level os o.number ≤ limit_number limit.DetailLevels
  pub rules : AllByRecursion IsSoundValidation o.object.validation_rules
  -- in the order of their lower-case names, which differ
  pub rules_rise : T (is_sorted name_cmp (map (λ r. (r.name, r)) o.object.validation_rules))
  pub few_fields : length o.object.fields ≤ limit_number limit.FieldsPerObject
  pub few_rules : length o.object.validation_rules ≤ limit_number limit.ValidationRulesPerObject

-- all objects, whose names differ
pub record HasSoundMetadata (os : List Object) : Type 0 where
  pub objects : AllByRecursion (IsSoundObject os) (numbered os)
  pub names : IsTrue (names_differ (map (λ o. o.name) os))
  pub few : length os ≤ limit_number limit.Objects
