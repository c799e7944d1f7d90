-- The rows of a CSV text that is loaded: the request that each makes, and the line that tells what became of it.
-- Sources: Salesforce, REST API, "Create a Record" and "Insert or Update (Upsert) a Record Using an External ID", as the verdicts of
-- the model have them; RFC 4180 for lines. The lines themselves are this product's own.
use Rattle.std.specs.Prelude.{ℕ, Bool, true, false, List, [], ◌∷◌, codes, Some, None, Result, Ok, Err}
use Rattle.std.specs.Fmt.{decimal}
use Rattle.std.specs.Str.{all_scalars, chars}
use Rattle.csv.specs.Writing.{default_writer, row_text}
use Rattle.base_json.specs.declared.tree.Json.TheVariants as json
use Rattle.base_value.specs.Id.{print18}
use Rattle.model.specs.declared.record_bodies.Assignment.{Assignment}
use Rattle.model.specs.declared.record_bodies.Given.{Given}
use Rattle.model.specs.declared.record_bodies.Given.TheVariants as gives
use Rattle.model.specs.declared.refusal.Refusal.{Refusal}
use Rattle.model.specs.Cases.{in_case}
use Rattle.model.specs.Refusals.{code_of}
use Rattle.model_requests.specs.Requests.{Request, creates, upserts}
use Rattle.model.specs.Verdict.{Done, made_new, upserted}
use Rattle.model_invariant.specs.Fit.{is_spelled}
use Rattle.cmd_load_plan.specs.declared.plan.LoadColumn.{LoadColumn}
use Rattle.cmd_load_plan.specs.declared.plan.LoadPlan.{LoadPlan}

-- ---- the request of a row

-- what a cell gives: a text, which is null where it is empty, or what finds a record. Cells are in UTF-8
abbrev pub given_in : LoadColumn → (cell : List ℕ) → Given
given_in c cell = in_case c.find (gives.Json (json.Text (chars cell))) (λ place. gives.Find place (chars cell))

-- what cells give, each to the field of its column
unfoldable pub given_row : List LoadColumn → (cells : List (List ℕ)) → List Assignment
given_row [] cells = []
given_row (c ∷ columns) [] = []
given_row (c ∷ columns) (cell ∷ cells) = record { field = c.field; given = given_in c cell } ∷ given_row columns cells

-- every text in it is one of characters
abbrev pub has_characters : Given → Bool
has_characters (gives.Find place text) = all_scalars text
has_characters given = is_spelled given

-- an upsert by the first cell, and what the others give
abbrev pub upsert_row : (object key : List ℕ) → List LoadColumn → (cells : List (List ℕ)) → Request
upsert_row object key columns [] = upserts object key None []
upsert_row object key [] cells = upserts object key None []
upsert_row object key (c ∷ columns) (cell ∷ cells) = upserts object key (Some (chars cell)) (given_row columns cells)

-- the request that the cells of a row make: an upsert where the first column is a unique field, and else a create
abbrev pub row_request : LoadPlan → (cells : List (List ℕ)) → Request
row_request p cells = in_case p.key (creates p.object (given_row p.columns cells)) (λ key. upsert_row p.object key p.columns cells)

-- ---- the line of a row

-- a line of these cells of ASCII; two quotes where it has one empty cell
abbrev pub line : (cells : List (List ℕ)) → List ℕ
line cells = row_text default_writer cells

abbrev pub heading_line : List ℕ
heading_line = line (codes "Row" ∷ codes "Id" ∷ codes "Created" ∷ codes "Error" ∷ [])

abbrev pub truth : Bool → List ℕ
truth true = codes "true"
truth false = codes "false"

-- the record that a row made or changed
abbrev pub done_line : (number : ℕ) → (id : List ℕ) → (created : Bool) → List ℕ
done_line number id created = line (decimal number ∷ print18 id ∷ truth created ∷ [] ∷ [])

-- the code of its refusal
abbrev pub refused_line : (number : ℕ) → Refusal → List ℕ
refused_line number r = line (decimal number ∷ [] ∷ [] ∷ code_of r ∷ [])

-- what became of the row with this number: rows are numbered from 1
abbrev pub row_line : (number : ℕ) → Result Done Refusal → List ℕ
row_line number (Ok (made_new id)) = done_line number id true
row_line number (Ok (upserted id created)) = done_line number id created
row_line number (Ok _) = []
row_line number (Err r) = refused_line number r
