-- A record in JSON, with all its fields or with those that are asked for.
-- Source: Salesforce, REST API, "sObject Rows". That the caller's level is among the attributes is this product's own.
use Rattle.std.specs.Prelude.{ℕ, Bool, if◌then◌else◌, List, [], ◌∷◌, ◌++◌, map, bytes_eq, codes, encode_utf8_all, Option, Some, None, Result, Ok, Err}
use Rattle.std.specs.List.{find, list_any}
use Rattle.std.specs.Option.{option_map}
use Rattle.std.specs.Str.{chars}
use Rattle.std.specs.Str.Lossy.{utf8_lossy}
use Rattle.form_urlencoded.specs.Form.{parse as pairs_in, split}
use Rattle.base_json.specs.declared.tree.Json.{Json}
use Rattle.base_json.specs.declared.tree.Json.TheVariants as json
use Rattle.base_json.specs.declared.tree.Member.{Member}
use Rattle.base_json.specs.declared.tree.Num.TheVariants.{Exact}
use Rattle.base_json_tree.specs.Words.{member, object, text, truth}
use Rattle.base_value.specs.Printing.{print_value}
use Rattle.base_value.specs.declared.value.FieldType.TheVariants as type
use Rattle.base_value.specs.declared.value.Value.{Value}
use Rattle.base_value.specs.declared.value.Value.TheVariants as value
use Rattle.model.specs.declared.record.Record.{Record}
use Rattle.model.specs.declared.refusal.Refusal.{Refusal}
use Rattle.model.specs.declared.refusal.Refusal.TheVariants.{InvalidField}
use Rattle.model.specs.Cases.{in_case}
use Rattle.model.specs.Fields.{Column, column, column_named, custom_columns, its_created, its_id, its_modified, name_column, of_ids, of_type, owner_columns, same_name, value_in}
use Rattle.model.specs.Levels.{level}
use Rattle.model.specs.Paths.{Asked}
use Rattle.model.specs.RowsJson.{url}
use Rattle.model.specs.Tenant.{Object}
use Rattle.model_reads.specs.SettingsJson.{level_name}
use Rattle.model_reads.specs.Told.{Telling}

-- ---- which fields

-- whether a pair of a query string is named `fields`
abbrev pub is_fields : List ℕ × List ℕ → Bool
is_fields pair = bytes_eq (utf8_lossy pair.0) (codes "fields")

-- the value of the first pair `fields` of a query string
unfoldable pub fields_text : (pairs : List ℕ) → Option (List ℕ)
fields_text pairs = option_map (λ (pair : List ℕ × List ℕ). chars (utf8_lossy pair.1)) (find is_fields (pairs_in (encode_utf8_all pairs)))

-- all fields, in the order in which a record shows them
abbrev pub shown_columns : Object → List Column
shown_columns o =
    column (codes "Id") of_ids its_id
    ∷ owner_columns o
    ++ (name_column
    ∷ column (codes "CreatedDate") (of_type type.Moment) its_created
    ∷ column (codes "LastModifiedDate") (of_type type.Moment) its_modified
    ∷ custom_columns o)

abbrev pub Columns : Type 0
Columns = Result (List Column) Refusal

-- one more in front
abbrev pub with_column : Column → Columns → Columns
with_column c (Ok cs) = Ok (c ∷ cs)
with_column c (Err refusal) = Err refusal

-- the fields with these names: INVALID_FIELD names the first that isn't there, or that is named again
abbrev pub columns_named : Object → (before names : List (List ℕ)) → Columns
columns_named o before [] = Ok []
columns_named o before (name ∷ names) =
    in_case (column_named o name) (Err (InvalidField name)) (λ c.
    if list_any (same_name name) before then Err (InvalidField name) else with_column c (columns_named o (name ∷ before) names))

-- those whose names stand between commas; all of them where nothing is said
abbrev pub columns_asked : Object → Option (List ℕ) → Columns
columns_asked o None = Ok (shown_columns o)
columns_asked o (Some []) = Ok (shown_columns o)
columns_asked o (Some (c ∷ cs)) = columns_named o [] (split 44 (c ∷ cs))

-- ---- a record

-- numbers, truth values and null as such, and else a text
abbrev pub value_json : Value → Json
value_json value.Null = json.Null
value_json (value.Num count) = json.Number (Exact count)
value_json (value.Bool b) = truth b
value_json v = text (print_value v)

-- its type, its address, and what the user may do with it
abbrev pub attributes_json : Asked → Object → Record → Json
attributes_json a o r =
    object
    (member (codes "type") (text o.name)
    ∷ member (codes "url") (text (url o.name r.id))
    ∷ member (codes "level") (text (level_name (level a.tenant a.user r)))
    ∷ [])

abbrev pub column_member : Record → Column → Member
column_member r c = member c.name (value_json (value_in c.at r))

abbrev pub record_json : Asked → Object → Record → List Column → Json
record_json a o r columns = object (member (codes "attributes") (attributes_json a o r) ∷ map (column_member r) columns)

-- with these fields, or why they can't be shown
abbrev pub with_columns : Asked → Object → Record → Columns → Telling
with_columns a o r (Ok columns) = Ok (record_json a o r columns)
with_columns a o r (Err refusal) = Err refusal

-- with the fields that a query string asks for
abbrev pub record_asked : Asked → Object → (pairs : List ℕ) → Record → Telling
record_asked a o pairs r = with_columns a o r (columns_asked o (fields_text pairs))
