-- What is told of objects, by their layouts.
use Rattle.std.specs.Prelude.{ℕ, Bool, true, false, not, ◌||◌, ◌==◌, List, [], ◌∷◌, ◌++◌, filter, map, codes, Option, Some, None, Ok, Err}
use Rattle.std.specs.List.{find, flat_map}
use Rattle.base_json.specs.declared.tree.Json.{Json}
use Rattle.base_json.specs.declared.tree.Member.{Member}
use Rattle.base_json_tree.specs.Words.{list, member, number, object, or_null, text, truth}
use Rattle.model.specs.declared.refusal.Refusal.TheVariants.{InvalidType}
use Rattle.model.specs.Cases.{in_case}
use Rattle.model.specs.Fields.{is_master, same_name}
use Rattle.model.specs.Limits.{name_limit}
use Rattle.model.specs.Relationships.{parent_name, target_of}
use Rattle.model.specs.Tenant.{Field}
use Rattle.model_reads.specs.DescribeJson.{Described, characters_of, decimals_of, digits_of, field_json, is_restricted, is_truth, standard, standard_described, summary_members, type_word, values_of}
use Rattle.model_reads.specs.Told.{Telling}
use Rattle.schema_rules.specs.Objects.{field_of_place, numbered_in, object_of_layout}
use Rattle.store_abstraction.specs.declared.layout.FieldPlace.{FieldPlace}
use Rattle.store_abstraction.specs.declared.layout.Layout.{Layout}

-- ---- in short

-- the addresses of an object, of its description and of its records
abbrev pub addresses : (url describe row : List ℕ) → Json
addresses url describe row =
    object
    (member (codes "sobject") (text url)
    ∷ member (codes "describe") (text describe)
    ∷ member (codes "rowTemplate") (text row)
    ∷ [])

-- what may be done with an object's records
abbrev pub rights_members : List Member
rights_members =
    member (codes "custom") (truth true)
    ∷ member (codes "queryable") (truth true)
    ∷ member (codes "createable") (truth true)
    ∷ member (codes "updateable") (truth true)
    ∷ member (codes "deletable") (truth true)
    ∷ []

abbrev pub summary_by : Layout → List Member
summary_by l = summary_members (numbered_in l)

abbrev pub objects_by : List Layout → Json
objects_by layouts =
    object
    (member (codes "encoding") (text (codes "UTF-8"))
    ∷ member (codes "maxBatchSize") (number 1)
    ∷ member (codes "sobjects") (list (map (λ l. object (summary_by l)) layouts))
    ∷ [])

abbrev pub object_by : Layout → Json
object_by l =
    object (member (codes "objectDescribe") (object (summary_by l)) ∷ member (codes "recentItems") (list []) ∷ [])

-- ---- fields

-- the name of the object with this number
abbrev pub name_in : List Layout → ℕ → List ℕ
name_in layouts n = in_case (find (λ l. l.object == n) layouts) [] (λ l. l.name)

-- the members of a field: those of its name, its type and its sizes, and those that are true or false
abbrev pub head_members : (name kind : List ℕ) → (characters digits decimals : ℕ) → List Member
head_members name kind characters digits decimals =
    member (codes "name") (text name)
    ∷ member (codes "label") (text name)
    ∷ member (codes "type") (text kind)
    ∷ member (codes "length") (number characters)
    ∷ member (codes "precision") (number digits)
    ∷ member (codes "scale") (number decimals)
    ∷ []

abbrev pub flag_members : (nillable unique custom is_name createable updateable : Bool) → List Member
flag_members nillable unique custom is_name createable updateable =
    member (codes "nillable") (truth nillable)
    ∷ member (codes "unique") (truth unique)
    ∷ member (codes "externalId") (truth unique)
    ∷ member (codes "custom") (truth custom)
    ∷ member (codes "nameField") (truth is_name)
    ∷ member (codes "createable") (truth createable)
    ∷ member (codes "updateable") (truth updateable)
    ∷ member (codes "filterable") (truth true)
    ∷ member (codes "sortable") (truth true)
    ∷ []

-- a custom field, where objects have these names by their numbers
abbrev pub custom_by : (ℕ → List ℕ) → Field → Described
custom_by names f =
    record {
      name = f.name;
      kind = type_word f.kind;
      characters = characters_of f.kind;
      digits = digits_of f.kind;
      decimals = decimals_of f.kind;
      nillable = not (f.required || (is_master f.kind || is_truth f.kind));
      unique = f.unique;
      custom = true;
      is_name = false;
      createable = true;
      updateable = not (is_master f.kind);
      refers = in_case (target_of f.kind) [] (λ n. names n ∷ []);
      relationship = in_case (target_of f.kind) None (λ n. Some (parent_name f.name));
      values = values_of f.kind;
    }

abbrev pub field_by : List Layout → FieldPlace → Json
field_by layouts f = field_json (custom_by (name_in layouts) (field_of_place f))

-- the standard fields behind the owner
abbrev pub later_described : List Described
later_described =
    standard (codes "Name") (codes "string") name_limit true true true
    ∷ standard (codes "CreatedDate") (codes "datetime") 0 false false false
    ∷ standard (codes "LastModifiedDate") (codes "datetime") 0 false false false
    ∷ []

abbrev pub fields_by : List Layout → Layout → List Json
fields_by layouts l = map field_json (standard_described (object_of_layout l)) ++ map (field_by layouts) l.fields

-- ---- relationships to an object's records

-- a field refers to the object with this number
abbrev pub is_child : ℕ → FieldPlace → Bool
is_child n f = in_case (target_of f.kind) false (λ target. target == n)

-- a reference of the object with this name
abbrev pub child_by : (object_name : List ℕ) → FieldPlace → Json
child_by object_name f =
    object
    (member (codes "childSObject") (text object_name)
    ∷ member (codes "field") (text f.name)
    ∷ member (codes "relationshipName") (or_null text f.child)
    ∷ member (codes "cascadeDelete") (truth (is_master f.kind))
    ∷ member (codes "restrictedDelete") (truth (is_restricted f.kind))
    ∷ [])

abbrev pub children_of : ℕ → Layout → List Json
children_of n l = map (child_by l.name) (filter (is_child n) l.fields)

abbrev pub children_by : ℕ → List Layout → List Json
children_by n layouts = flat_map (children_of n) layouts

-- ---- the whole

abbrev pub description_by : List Layout → Layout → Json
description_by layouts l =
    object
    (summary_by l
    ++ (member (codes "fields") (list (fields_by layouts l))
    ∷ member (codes "childRelationships") (list (children_by l.object layouts))
    ∷ []))

-- what is told of the object with this name; INVALID_TYPE where there is none
abbrev pub told_by : List Layout → (name : List ℕ) → Telling
told_by layouts name =
    in_case (find (λ l. same_name l.name name) layouts) (Err (InvalidType name)) (λ l. Ok (description_by layouts l))
