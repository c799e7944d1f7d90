-- Small loads for rows worked by hand. A reader of the rules may pass them over.
use Rattle.std.specs.Prelude.{ℕ, ◌+◌, List, [], ◌∷◌, ◌++◌, Some, None, Result, Ok, Err}
use Rattle.model.specs.Cases.{in_case}
use Rattle.model.specs.Objects.{object_named}
use Rattle.model_requests.specs.Requests.{verdict_on}
use Rattle.model.specs.Tenant.{Tenant}
use Rattle.model_requests.specs.WorkedRequests.{Call, after_calls, start, user_asks}
use Rattle.cmd_load_plan.specs.declared.plan.LoadColumn.{LoadColumn}
use Rattle.cmd_load_plan.specs.declared.plan.LoadPlan.{LoadPlan}
use Rattle.cmd_load_plan.specs.Columns.{plan_of}
use Rattle.cmd_load_plan.specs.Rows.{row_line, row_request}

-- the plan by a heading, after these requests to a fresh organisation
abbrev pub planned : List Call → (object : List ℕ) → (heading : List (List ℕ)) → Result LoadPlan (List ℕ)
planned calls object heading = let t = after_calls start calls in in_case (object_named t object) (Err []) (λ o. plan_of t o heading)

abbrev pub column_to : (field : List ℕ) → LoadColumn
column_to field = record { field = field; find = None }

abbrev pub column_by : (field : List ℕ) → (place : ℕ) → LoadColumn
column_by field place = record { field = field; find = Some place }

-- what the administrator's row with this number comes to: its line, and the organisation after it
abbrev pub row_by : LoadPlan → (number : ℕ) → Tenant → (cells : List (List ℕ)) → List ℕ × Tenant
row_by p number t cells =
    in_case (user_asks t 0) ([], t) (λ a. let v = verdict_on a (row_request p cells) in (row_line number v.answer, v.tenant))

-- the lines of rows from this number on
abbrev pub lines_by : LoadPlan → (number : ℕ) → Tenant → (rows : List (List (List ℕ))) → List ℕ
lines_by p number t [] = []
lines_by p number t (cells ∷ rows) = let r = row_by p number t cells in r.0 ++ lines_by p (number + 1) r.1 rows

abbrev pub lines_with : Result LoadPlan (List ℕ) → Tenant → (rows : List (List (List ℕ))) → List ℕ
lines_with (Ok p) t rows = lines_by p 1 t rows
lines_with (Err cell) t rows = cell

-- the lines of a text that is loaded after these requests
abbrev pub loaded : List Call → (object : List ℕ) → (heading : List (List ℕ)) → (rows : List (List (List ℕ))) → List ℕ
loaded calls object heading rows = lines_with (planned calls object heading) (after_calls start calls) rows
