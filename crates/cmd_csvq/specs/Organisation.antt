-- The organisation that a CSV text makes: an administrator, the object `Row__c`, a field of it for each custom name of the heading,
-- and a record of it for each row. Each comes by the verdict of an administrator's request, one after the other.
-- Sources: Salesforce, "Custom Object", "Custom Field" and REST API, "Create a Record", as the verdicts have them. That a CSV text is
-- read so is this product's own.
use Rattle.std.specs.Prelude.{ℕ, ◌+◌, Bool, true, false, if◌then◌else◌, List, [], ◌∷◌, codes, None, Result, Ok, Err}
use Rattle.std.specs.Str.{chars}
use Rattle.base_json.specs.declared.tree.Json.TheVariants as json
use Rattle.base_value.specs.declared.sharing.Access.TheVariants as access
use Rattle.base_value.specs.declared.value.FieldType.TheVariants as type
use Rattle.model.specs.declared.metadata_bodies.NewField.{NewField}
use Rattle.model.specs.declared.metadata_bodies.NewObject.{NewObject}
use Rattle.model.specs.declared.metadata_bodies.SpelledType.TheVariants.{Plain}
use Rattle.model.specs.declared.record_bodies.Assignment.{Assignment}
use Rattle.model.specs.declared.record_bodies.Given.TheVariants as gives
use Rattle.model.specs.declared.refusal.Refusal.{Refusal}
use Rattle.model.specs.Creates.{create}
use Rattle.model.specs.Fields.{same_name}
use Rattle.model.specs.NewFields.{add_field}
use Rattle.model.specs.Paths.{Asked}
use Rattle.cmd_sandbox.specs.Own.{only_name, unless_refused}

-- ---- the object

abbrev pub object_name : List ℕ
object_name = chars (codes "Row__c")

abbrev pub new_rows : NewObject
new_rows = record { members = only_name; name = object_name; access = access.Private; hierarchy = true; master = None }

-- ---- the columns

-- the field of a column: a text of at most 255 characters
abbrev pub new_column : (name : List ℕ) → NewField
new_column name =
    record { members = only_name; object = object_name; name = name; kind = Plain (type.Text 255); required = false; unique = false; indexed = false }

-- the cell names the field that each object has
abbrev pub is_name_cell : (cell : List ℕ) → Bool
is_name_cell cell = same_name (chars (codes "Name")) (chars cell)

-- the columns of a heading, one after the other: `Name` once, and else new fields. Or the first cell that is none: a second `Name`, or
-- one whose field is refused, since its name isn't a custom one, was there before, or is one too many
unfoldable pub with_columns : (named : Bool) → Asked → (cells : List (List ℕ)) → Result Asked (List ℕ)
with_columns named a [] = Ok a
with_columns named a (cell ∷ cells) =
    if is_name_cell cell then (if named then Err (chars cell) else with_columns true a cells)
    else unless_refused a (add_field a.tenant (new_column (chars cell))) (λ why. Err (chars cell)) (λ b. with_columns named b cells)

-- ---- the rows

abbrev pub assignment : (name cell : List ℕ) → Assignment
assignment name cell = record { field = chars name; given = gives.Json (json.Text (chars cell)) }

-- what a row gives: each cell as a text, under the heading's cell. An empty text is null, as in every field
unfoldable pub given_of : (heading cells : List (List ℕ)) → List Assignment
given_of [] cells = []
given_of (name ∷ heading) [] = []
given_of (name ∷ heading) (cell ∷ cells) = assignment name cell ∷ given_of heading cells

-- a record for each row, where they are numbered from this number on; or the first row whose record is refused, and why
unfoldable pub with_rows : (heading : List (List ℕ)) → (number : ℕ) → Asked → (rows : List (List (List ℕ))) → Result Asked (ℕ × Refusal)
with_rows heading number a [] = Ok a
with_rows heading number a (row ∷ rows) =
    unless_refused a (create a object_name (given_of heading row)) (λ why. Err (number, why)) (λ b. with_rows heading (number + 1) b rows)
