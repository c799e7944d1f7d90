-- Objects as they are described, in JSON: in short, and with their fields and the relationships to their records.
-- Source: Salesforce, REST API, "Describe Global", "sObject Basic Information" and "sObject Describe". Which members there are, and that
-- each of them is there in each field, is this product's own.
use Rattle.std.specs.Prelude.{ℕ, Bool, true, false, not, ◌||◌, ◌==◌, if◌then◌else◌, List, [], ◌∷◌, ◌++◌, filter, map, codes, Option, Some, None}
use Rattle.base_json.specs.declared.tree.Json.{Json}
use Rattle.base_json.specs.declared.tree.Member.{Member}
use Rattle.base_json_tree.specs.Words.{list, member, number, object, or_null, text, texts, truth}
use Rattle.base_value.specs.declared.value.FieldType.{FieldType}
use Rattle.base_value.specs.declared.value.FieldType.TheVariants as type
use Rattle.base_value.specs.declared.value.OnDelete.TheVariants as on_delete
use Rattle.model.specs.Cases.{in_case}
use Rattle.model.specs.Fields.{is_detail, is_master}
use Rattle.model.specs.Limits.{name_limit}
use Rattle.model.specs.Objects.{Numbered, numbered, record_prefix}
use Rattle.model.specs.Relationships.{Reference, parent_name, references, target_of}
use Rattle.model.specs.Tenant.{Field, Object, Tenant}
use Rattle.model_reads.specs.CallerJson.{base}
use Rattle.model_reads.specs.SettingsJson.{object_name_at}

-- ---- an object in short

-- the addresses of an object, of its description, and of a record once its id is put in
abbrev pub object_url : (name : List ℕ) → List ℕ
object_url name = base ++ codes "/sobjects/" ++ name

abbrev pub urls_json : (name : List ℕ) → Json
urls_json name =
    object
    (member (codes "sobject") (text (object_url name))
    ∷ member (codes "describe") (text (object_url name ++ codes "/describe"))
    ∷ member (codes "rowTemplate") (text (object_url name ++ codes "/{ID}"))
    ∷ [])

abbrev pub summary_members : Numbered → List Member
summary_members o =
    member (codes "name") (text o.object.name)
    ∷ member (codes "label") (text o.object.name)
    ∷ member (codes "keyPrefix") (text (record_prefix o.number))
    ∷ member (codes "custom") (truth true)
    ∷ member (codes "queryable") (truth true)
    ∷ member (codes "createable") (truth true)
    ∷ member (codes "updateable") (truth true)
    ∷ member (codes "deletable") (truth true)
    ∷ member (codes "urls") (urls_json o.object.name)
    ∷ []

-- all objects
abbrev pub objects_json : Tenant → Json
objects_json t =
    object
    (member (codes "encoding") (text (codes "UTF-8"))
    ∷ member (codes "maxBatchSize") (number 1)
    ∷ member (codes "sobjects") (list (map (λ o. object (summary_members o)) (numbered t.objects)))
    ∷ [])

-- one object; which records were looked at last isn't kept
abbrev pub object_json : Numbered → Json
object_json o =
    object (member (codes "objectDescribe") (object (summary_members o)) ∷ member (codes "recentItems") (list []) ∷ [])

-- ---- fields

-- what is said of a field
pub record Described : Type 0 where
  pub name : List ℕ
  -- the word for its type
  pub kind : List ℕ
  -- the most characters of a text or an id, and the digits of a number, all of them and those after the point; else 0
  pub characters : ℕ
  pub digits : ℕ
  pub decimals : ℕ
  -- may it be null, differs it in all records, is it a custom field, and is it the record's name
  pub nillable : Bool
  pub unique : Bool
  pub custom : Bool
  pub is_name : Bool
  -- may it be given to a new record, and to one that is there
  pub createable : Bool
  pub updateable : Bool
  -- the names of the objects to which it refers, and of the relationship
  pub refers : List (List ℕ)
  pub relationship : Option (List ℕ)
  -- the values of a picklist
  pub values : List (List ℕ)

abbrev pub picklist_json : List ℕ → Json
picklist_json v =
    object
    (member (codes "value") (text v)
    ∷ member (codes "label") (text v)
    ∷ member (codes "active") (truth true)
    ∷ member (codes "defaultValue") (truth false)
    ∷ [])

abbrev pub field_json : Described → Json
field_json d =
    object
    (member (codes "name") (text d.name)
    ∷ member (codes "label") (text d.name)
    ∷ member (codes "type") (text d.kind)
    ∷ member (codes "length") (number d.characters)
    ∷ member (codes "precision") (number d.digits)
    ∷ member (codes "scale") (number d.decimals)
    ∷ member (codes "nillable") (truth d.nillable)
    ∷ member (codes "unique") (truth d.unique)
    ∷ member (codes "externalId") (truth d.unique)
    ∷ member (codes "custom") (truth d.custom)
    ∷ member (codes "nameField") (truth d.is_name)
    ∷ member (codes "createable") (truth d.createable)
    ∷ member (codes "updateable") (truth d.updateable)
    ∷ member (codes "filterable") (truth true)
    ∷ member (codes "sortable") (truth true)
    ∷ member (codes "referenceTo") (texts d.refers)
    ∷ member (codes "relationshipName") (or_null text d.relationship)
    ∷ member (codes "picklistValues") (list (map picklist_json d.values))
    ∷ [])

-- a field that every object has, of no reference and with no values
abbrev pub standard : (name kind : List ℕ) → (characters : ℕ) → (nillable is_name writable : Bool) → Described
standard name kind characters nillable is_name writable =
    record {
      name = name;
      kind = kind;
      characters = characters;
      digits = 0;
      decimals = 0;
      nillable = nillable;
      unique = false;
      custom = false;
      is_name = is_name;
      createable = writable;
      updateable = writable;
      refers = [];
      relationship = None;
      values = [];
    }

-- `OwnerId`, which a detail doesn't have
abbrev pub owner_described : Object → List Described
owner_described o = if is_detail o then [] else standard (codes "OwnerId") (codes "reference") 18 false false true ∷ []

-- in the order in which a record shows them
abbrev pub standard_described : Object → List Described
standard_described o =
    standard (codes "Id") (codes "id") 18 false false false
    ∷ owner_described o
    ++ (standard (codes "Name") (codes "string") name_limit true true true
    ∷ standard (codes "CreatedDate") (codes "datetime") 0 false false false
    ∷ standard (codes "LastModifiedDate") (codes "datetime") 0 false false false
    ∷ [])

-- ---- custom fields

abbrev pub type_word : FieldType → List ℕ
type_word (type.Text most) = codes "string"
type_word (type.Number digits decimals) = codes "double"
type_word type.Checkbox = codes "boolean"
type_word type.Day = codes "date"
type_word type.Moment = codes "datetime"
type_word (type.Picklist values) = codes "picklist"
type_word (type.Lookup object on_delete) = codes "reference"
type_word (type.Master object) = codes "reference"

abbrev pub characters_of : FieldType → ℕ
characters_of (type.Text most) = most
characters_of (type.Lookup object on_delete) = 18
characters_of (type.Master object) = 18
characters_of _ = 0

abbrev pub digits_of : FieldType → ℕ
digits_of (type.Number digits decimals) = digits
digits_of _ = 0

abbrev pub decimals_of : FieldType → ℕ
decimals_of (type.Number digits decimals) = decimals
decimals_of _ = 0

abbrev pub values_of : FieldType → List (List ℕ)
values_of (type.Picklist values) = values
values_of _ = []

-- a truth value is never null
abbrev pub is_truth : FieldType → Bool
is_truth type.Checkbox = true
is_truth _ = false

-- a detail keeps its master
abbrev pub custom_described : Tenant → Field → Described
custom_described t f =
    record {
      name = f.name;
      kind = type_word f.kind;
      characters = characters_of f.kind;
      digits = digits_of f.kind;
      decimals = decimals_of f.kind;
      nillable = not (f.required || (is_master f.kind || is_truth f.kind));
      unique = f.unique;
      custom = true;
      is_name = false;
      createable = true;
      updateable = not (is_master f.kind);
      refers = in_case (target_of f.kind) [] (λ n. object_name_at t n ∷ []);
      relationship = in_case (target_of f.kind) None (λ n. Some (parent_name f.name));
      values = values_of f.kind;
    }

abbrev pub fields_described : Tenant → Object → List Described
fields_described t o = standard_described o ++ map (custom_described t) o.fields

-- ---- relationships to an object's records

abbrev pub is_restricted : FieldType → Bool
is_restricted (type.Lookup object on_delete.Restrict) = true
is_restricted _ = false

abbrev pub child_json : Tenant → Reference → Json
child_json t f =
    object
    (member (codes "childSObject") (text (object_name_at t f.object))
    ∷ member (codes "field") (text f.field.name)
    ∷ member (codes "relationshipName") (or_null text f.field.child)
    ∷ member (codes "cascadeDelete") (truth (is_master f.field.kind))
    ∷ member (codes "restrictedDelete") (truth (is_restricted f.field.kind))
    ∷ [])

-- the references that name records of the object with this number
abbrev pub references_to : Tenant → ℕ → List Reference
references_to t n = filter (λ f. f.target == n) (references t.objects)

-- ---- the whole
abbrev pub description_json : Tenant → Numbered → Json
description_json t o =
    object
    (summary_members o
    ++ (member (codes "fields") (list (map field_json (fields_described t o.object)))
    ∷ member (codes "childRelationships") (list (map (child_json t) (references_to t o.number)))
    ∷ []))
