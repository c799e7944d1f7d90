-- The rows of a query in JSON, as characters.
-- Source of the form: Salesforce, REST API, "Query".
use Rattle.std.specs.Prelude.{ℕ, zero, suc, true, if◌then◌else◌, List, [], ◌∷◌, ◌++◌, map, length, filter_map, codes, Option, Some, None, is_some, unwrap_or}
use Rattle.std.specs.Fmt.{decimal}
use Rattle.std.specs.List.{flat_map, list_any}
use Rattle.std.specs.Option.{option_and_then}
use Rattle.base_json.specs.Printing.{printed_text, printed_truth, printed_null}
use Rattle.base_json.specs.Whole.{joined}
use Rattle.base_value.specs.Id.{print18}
use Rattle.base_value.specs.Printing.{print_number, print_value}
use Rattle.base_value.specs.declared.value.Value.{Value}
use Rattle.base_value.specs.declared.value.Value.TheVariants as value
use Rattle.soql.specs.declared.query.Item.{Item}
use Rattle.soql.specs.declared.query.Item.TheVariants as item
use Rattle.soql.specs.declared.query.Query.{Query}
use Rattle.model.specs.declared.record.Record.{Record}
use Rattle.model.specs.Cases.{in_case, with_before}
use Rattle.model.specs.Fields.{column_named, same_name}
use Rattle.model.specs.Limits.{nested_rows}
use Rattle.model.specs.Objects.{object_number, object_of_record}
use Rattle.model.specs.Paths.{Asked, field_value, parent_of}
use Rattle.model.specs.Relationships.{child_named, parent_name, parent_named}
use Rattle.model.specs.Rows.{found, found_children}

-- ---- JSON, without blanks

abbrev pub member_json : (name : List ℕ) → List ℕ → List ℕ
member_json name v = printed_text name ++ codes ":" ++ v

abbrev pub object_json : (members : List (List ℕ)) → List ℕ
object_json members = codes "{" ++ joined members ++ codes "}"

abbrev pub list_json : List (List ℕ) → List ℕ
list_json items = codes "[" ++ joined items ++ codes "]"

-- numbers, truth values and null as such, and else a text
abbrev pub value_json : Value → List ℕ
value_json value.Null = printed_null
value_json (value.Num count) = print_number count
value_json (value.Bool truth) = printed_truth truth
value_json v = printed_text (print_value v)

-- ---- names as they are declared

abbrev pub object_name : Asked → Record → List ℕ
object_name a r = in_case (object_of_record a.tenant r) [] (λ o. o.name)

abbrev pub field_name : Asked → Record → List ℕ → List ℕ
field_name a r name = in_case (option_and_then (λ o. column_named o name) (object_of_record a.tenant r)) name (λ c. c.name)

abbrev pub parent_relationship : Asked → Record → List ℕ → List ℕ
parent_relationship a r name = in_case (parent_named a.tenant (object_number r.id) name) name (λ f. parent_name f.field.name)

abbrev pub child_relationship : Asked → Record → List ℕ → List ℕ
child_relationship a r name = in_case (child_named a.tenant (object_number r.id) name) name (λ f. unwrap_or f.field.child name)

-- ---- rows

-- the address of a record
abbrev pub url : (object id : List ℕ) → List ℕ
url object id = codes "/services/data/v59.0/sobjects/" ++ object ++ codes "/" ++ print18 id

-- the first member of a row
abbrev pub attributes : Asked → Record → List ℕ
attributes a r =
    let object = object_name a r in
    member_json (codes "attributes")
    (object_json (member_json (codes "type") (printed_text object) ∷ member_json (codes "url") (printed_text (url object r.id)) ∷ []))

-- some rows, and how many
abbrev pub rows_json : List (List ℕ) → List ℕ
rows_json rows =
    object_json
    (member_json (codes "totalSize") (decimal (length rows))
    ∷ member_json (codes "done") (printed_truth true)
    ∷ member_json (codes "records") (list_json rows)
    ∷ [])

-- those of a child subquery: null where there are none
abbrev pub children_json : List (List ℕ) → List ℕ
children_json [] = printed_null
children_json (r ∷ rows) = rows_json (r ∷ rows)

-- what a selected path goes on with behind this relationship, if it begins with it
abbrev pub behind_relationship : List ℕ → Item → Option Item
behind_relationship name (item.Path p) = behind_name name p.names
  where
    behind_name : List ℕ → List (List ℕ) → Option Item
    behind_name name (first ∷ next ∷ names) = if same_name name first then Some (item.Path (record { names = next ∷ names })) else None
    behind_name name _ = None
behind_relationship name (item.Child paths tail) = None

-- how a record is written, with what is selected of it
abbrev pub RowJson : Type 0
RowJson = Record → List Item → List ℕ

-- a parent with all paths through it; null where there is none that the user may read
abbrev pub parent_json : RowJson → Asked → Record → List Item → List ℕ → List ℕ
parent_json write_row a r selected name = in_case (parent_of a r name) printed_null (λ s. write_row s (filter_map (behind_relationship name) selected))

-- the member of a path: paths with one first relationship share one, at the place of the first
abbrev pub path_member : RowJson → Asked → Record → (selected selected_before : List Item) → List (List ℕ) → List (List ℕ)
path_member write_row a r selected selected_before [] = []
path_member write_row a r selected selected_before (name ∷ []) = member_json (field_name a r name) (value_json (field_value a.tenant r name)) ∷ []
path_member write_row a r selected selected_before (name ∷ next ∷ names) =
    if list_any (λ x. is_some (behind_relationship name x)) selected_before then []
    else member_json (parent_relationship a r name) (parent_json write_row a r selected name) ∷ []

-- the member of what is selected
abbrev pub item_member : RowJson → Asked → Record → (selected selected_before : List Item) → Item → List (List ℕ)
item_member write_row a r selected selected_before (item.Path p) = path_member write_row a r selected selected_before p.names
item_member write_row a r selected selected_before (item.Child paths tail) =
    member_json (child_relationship a r tail.from) (children_json (map (λ s. write_row s (map item.Path paths)) (found_children a r tail))) ∷ []

-- a row: its attributes, and the members of what is selected in its order; through at most so many relationships
abbrev pub row_within : ℕ → Asked → RowJson
row_within zero a r items = []
row_within (suc n) a r items =
    object_json (attributes a r ∷ flat_map (λ x. item_member (row_within n a) a r items x.before x.it) (with_before [] items))

-- through as many as a query can select
abbrev pub row_json : Asked → RowJson
row_json a r items = row_within nested_rows a r items

-- the rows of a query
unfoldable pub found_json : Asked → Query → List ℕ
found_json a q = rows_json (map (λ r. row_json a r q.select) (found a q))
