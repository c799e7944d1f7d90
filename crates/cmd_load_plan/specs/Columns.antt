-- The columns of a CSV text that is loaded into an object, by the cells of its heading.
-- Source: Salesforce, "Bulk API 2.0 and Bulk API Developer Guide", "Relationship Fields in a Header Row": `X__r.U__c` names a parent by
-- its field `U__c`, which is an external id. That each field is named once at most, and that the first cell may name the key of
-- upserts, is this product's own.
use Rattle.std.specs.Prelude.{ℕ, ◌-◌, Bool, ◌==◌, nat_lt, if◌then◌else◌, List, [], ◌∷◌, ◌++◌, length, bytes_eq, Option, Some, None, Result, Ok, Err}
use Rattle.std.specs.List.{after_first, before_first, list_any, position_or_len}
use Rattle.std.specs.Option.{option_and_then, option_map}
use Rattle.std.specs.Str.{chars}
use Rattle.model.specs.Cases.{in_case}
use Rattle.model.specs.Edits.{is_writable}
use Rattle.model.specs.Fields.{Column, column_named}
use Rattle.model.specs.Objects.{Numbered, object_numbered}
use Rattle.model.specs.Relationships.{Reference, parent_named}
use Rattle.model.specs.Tenant.{Field, Object, Tenant}
use Rattle.model.specs.Upserts.{unique_named}
use Rattle.cmd_load_plan.specs.declared.plan.LoadColumn.{LoadColumn}
use Rattle.cmd_load_plan.specs.declared.plan.LoadPlan.{LoadPlan}

-- ---- a cell

-- `.`
abbrev pub is_dot : ℕ → Bool
is_dot c = c == 46

-- what is before and behind the first dot of a cell, if it has one: cells are in UTF-8
unfoldable pub parts_of : List ℕ → Option (List ℕ × List ℕ)
parts_of cell = if nat_lt (position_or_len is_dot cell) (length cell) then Some (before_first is_dot cell, after_first is_dot cell) else None

-- the column of a field, if an edit may give it
abbrev pub if_writable : Column → Option LoadColumn
if_writable c = if is_writable c.at then Some (record { field = c.name; find = None }) else None

-- a field of the object itself that an edit may give
abbrev pub own_column : Object → (name : List ℕ) → Option LoadColumn
own_column o name = option_and_then if_writable (column_named o name)

-- a reference whose records are found by a unique field of their object: its place is that among the custom fields, from 0
abbrev pub found_by : Reference → ℕ × Field → LoadColumn
found_by f u = record { field = f.field.name; find = Some (u.0 - 1) }

-- a reference by the name of its parent relationship, and a unique field of the object to whose records it refers
abbrev pub parent_column : Tenant → (object : ℕ) → (relationship field : List ℕ) → Option LoadColumn
parent_column t n relationship field =
    option_and_then (λ f. option_and_then (λ target. option_map (found_by f) (unique_named target field)) (object_numbered t f.target))
    (parent_named t n relationship)

-- the column that a cell names
abbrev pub column_of : Tenant → Numbered → (cell : List ℕ) → Option LoadColumn
column_of t o cell = in_case (parts_of cell) (own_column o.object (chars cell)) (λ p. parent_column t o.number (chars p.0) (chars p.1))

-- ---- a heading

-- one of the columns gives this field
abbrev pub gives_field : List LoadColumn → (field : List ℕ) → Bool
gives_field columns field = list_any (λ c. bytes_eq c.field field) columns

-- one column more, unless it gives a field again
abbrev pub one_more : (before : List LoadColumn) → LoadColumn → Option (List LoadColumn)
one_more before c = if gives_field before c.field then None else Some (before ++ c ∷ [])

-- the columns of these cells behind those before; or the first cell that names none, or a field that was named before
unfoldable pub columns_behind : Tenant → Numbered → (before : List LoadColumn) → (cells : List (List ℕ)) → Result (List LoadColumn) (List ℕ)
columns_behind t o before [] = Ok before
columns_behind t o before (cell ∷ cells) =
    in_case (option_and_then (one_more before) (column_of t o cell)) (Err cell) (λ more. columns_behind t o more cells)

-- the name of the unique field that a column gives, if it gives one
abbrev pub key_of : Object → LoadColumn → Option (List ℕ)
key_of o c = in_case c.find (option_map (λ u. u.1.name) (unique_named o c.field)) (λ place. None)

-- that of the first column
abbrev pub first_key : Object → List LoadColumn → Option (List ℕ)
first_key o [] = None
first_key o (c ∷ columns) = key_of o c

abbrev pub plan_by : Numbered → Result (List LoadColumn) (List ℕ) → Result LoadPlan (List ℕ)
plan_by o (Ok columns) = Ok (record { object = o.object.name; key = first_key o.object columns; columns = columns })
plan_by o (Err cell) = Err cell

-- how a text with this heading is loaded into an object; or the first cell that is refused
unfoldable pub plan_of : Tenant → Numbered → (heading : List (List ℕ)) → Result LoadPlan (List ℕ)
plan_of t o heading = plan_by o (columns_behind t o [] heading)
