-- How the text of an input is loaded: by its heading, and row by row; or why it isn't.
-- Source: RFC 4180, as `base_csv` reads it. What a heading names is in `cmd_load_plan`.
use Rattle.std.specs.Prelude.{◌≡◌, ℕ, nat_le, if◌then◌else◌, List, [], ◌∷◌, length, None, Result, Ok, Err}
use Rattle.std.specs.Str.{chars}
use Rattle.cmd_load_plan.specs.Columns.{plan_of}
use Rattle.cmd_load_plan.specs.declared.plan.LoadPlan.{LoadPlan}
use Rattle.model.specs.declared.refusal.Refusal.{Refusal}
use Rattle.model.specs.declared.refusal.Refusal.TheVariants.{CsvRefused, HeadingRefused, InputTooLarge}
use Rattle.model.specs.Cases.{in_case}
use Rattle.model.specs.Limits.{input_limit}
use Rattle.base_csv.specs.Table.{first_refused, table_of}
use Rattle.cmd_load.specs.Targets.{LoadObject}

-- cells of a record, each in UTF-8
abbrev pub Cells : Type 0
Cells = List (List ℕ)

-- a plan, and the rows that are loaded by it
abbrev pub PlannedRows : Type 0
PlannedRows = LoadPlan × List Cells

abbrev pub with_heading : (rows : List Cells) → Result LoadPlan (List ℕ) → Result PlannedRows Refusal
with_heading rows (Ok p) = Ok (p, rows)
with_heading rows (Err cell) = Err (HeadingRefused (chars cell))

-- a heading and rows, for this object
abbrev pub table_plan : LoadObject → List Cells → Result PlannedRows Refusal
table_plan x [] = Err (CsvRefused 0)
table_plan x (heading ∷ rows) = with_heading rows (plan_of x.0 x.1 heading)

-- the bytes of an input
abbrev pub input_plan : LoadObject → (bytes : List ℕ) → Result PlannedRows Refusal
input_plan x bytes =
    if nat_le (length bytes) input_limit then in_case (first_refused bytes) (table_plan x (table_of bytes)) (λ row. Err (CsvRefused row))
    else Err InputTooLarge

-- ---- what is made of them

-- rows behind a heading that is passed over, none of which is refused
pub record AreRows (rows : List Cells) (source : List ℕ) : Type 0 where
  pub heading : Cells
  pub table : table_of source ≡ heading ∷ rows
  pub whole : first_refused source ≡ None

-- the plan, or the refusal
abbrev pub IsPlanned : Result PlannedRows Refusal → (source : List ℕ) → Result LoadPlan Refusal → Type 0
IsPlanned (Ok x) source (Ok p) = (p ≡ x.0) × AreRows x.1 source
IsPlanned (Err r) source (Err s) = s ≡ r
IsPlanned (Ok x) source (Err s) = ⊥
IsPlanned (Err r) source (Ok p) = ⊥

-- the rows of a text that aren't read yet, and the number of the first
pub record Unread : Type 0 where
  pub left : List Cells
  pub number : ℕ
