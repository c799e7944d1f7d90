-- The text of what a query finds: lines of cells in CSV.
-- Source: RFC 4180, as the crate `csv` writes it by its default settings; of relationships' names Salesforce, "SOQL and SOSL Reference",
-- "Relationship Queries". That a path's cell is named by the names on its way, with a dot between, is this product's own.
use Rattle.std.specs.Prelude.{ℕ, List, [], ◌∷◌, ◌++◌, codes, map, Option, Some, Result, Ok}
use Rattle.std.specs.List.{flat_map}
use Rattle.std.specs.Option.{option_and_then}
use Rattle.std.specs.Result.{result_and}
use Rattle.std.specs.Str.{encode_utf8_all}
use Rattle.csv.specs.Writing.{default_writer, row_text}
use Rattle.base_value.specs.Printing.{print_value}
use Rattle.soql.specs.declared.query.Query.{Query}
use Rattle.model.specs.declared.record.Record.{Record}
use Rattle.model.specs.declared.refusal.Refusal.{Refusal}
use Rattle.model.specs.Asking.{ask}
use Rattle.model.specs.Cases.{in_case}
use Rattle.model.specs.Fields.{column_named}
use Rattle.model.specs.Objects.{Numbered, object_named}
use Rattle.model.specs.Paths.{Asked, path_value}
use Rattle.model.specs.Relationships.{parent_name, parent_named}
use Rattle.model.specs.Rows.{found}
use Rattle.model.specs.Tenant.{Object, Tenant}
use Rattle.store_abstraction.specs.Layouts.{numbered_at}
use Rattle.query_bind.specs.Cells.{paths_in}

-- a line of these cells, whose characters these are; two quotes where it has one empty cell
abbrev pub line : (cells : List (List ℕ)) → List ℕ
line cells = row_text default_writer (map encode_utf8_all cells)

-- ---- names as they are declared; one that isn't there stays as it is

-- that of a field
abbrev pub declared_in : Object → (name : List ℕ) → List ℕ
declared_in o name = in_case (column_named o name) name (λ c. c.name)

-- that of a relationship from records of an object to their parents
abbrev pub declared_parent : Tenant → Numbered → (name : List ℕ) → List ℕ
declared_parent t o name = in_case (parent_named t o.number name) name (λ f. parent_name f.field.name)

-- the object of these parents
abbrev pub parent_object : Tenant → Numbered → (name : List ℕ) → Option Numbered
parent_object t o name = option_and_then (λ f. numbered_at t f.target) (parent_named t o.number name)

-- those of a path with a dot between, from this object, or from none
abbrev pub path_from : Tenant → Option Numbered → (names : List (List ℕ)) → List ℕ
path_from t o [] = []
path_from t o (name ∷ []) = in_case o name (λ x. declared_in x.object name)
path_from t o (name ∷ next ∷ names) =
    in_case o name (λ x. declared_parent t x name) ++ codes "." ++ path_from t (option_and_then (λ x. parent_object t x name) o) (next ∷ names)

-- those of a path from this object
abbrev pub declared_path : Tenant → Numbered → (names : List (List ℕ)) → List ℕ
declared_path t o names = path_from t (Some o) names

-- ---- the lines of a query; a child subquery has no cell

-- the paths that it selects, as they are declared
abbrev pub selected_names : Tenant → Query → List (List ℕ)
selected_names t q = in_case (object_named t q.tail.from) [] (λ o. map (λ x. declared_path t o x.names) (paths_in q.select))

-- the line of a record: the values of these paths, and nothing for null
abbrev pub record_line : Asked → Query → Record → List ℕ
record_line a q r = line (map (λ x. print_value (path_value a r x.names)) (paths_in q.select))

-- a line of names, and one for each record that is found
unfoldable pub lines_found : Asked → Query → List ℕ
lines_found a q = line (selected_names a.tenant q) ++ flat_map (record_line a q) (found a q)

-- these lines, or why the query is refused
abbrev pub query_lines : Asked → Query → Result (List ℕ) Refusal
query_lines a q = result_and (ask a q).answer (Ok (lines_found a q))
