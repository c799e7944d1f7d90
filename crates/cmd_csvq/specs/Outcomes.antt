-- What a query over a CSV text comes to.
-- Sources: of the texts `soql` and `base_csv`, of the rest the definitions of the model.
use Rattle.std.specs.Prelude.{ℕ, false, nat_le, if◌then◌else◌, List, [], ◌∷◌, length, Result, Ok, Err, ℤ}
use Rattle.soql.specs.declared.query.Query.{Query}
use Rattle.base_csv.specs.Table.{first_refused, table_of}
use Rattle.model.specs.declared.refusal.Refusal.{Refusal}
use Rattle.model.specs.declared.refusal.Refusal.TheVariants.{CsvRefused, HeadingRefused, InputTooLarge}
use Rattle.model.specs.Cases.{in_case}
use Rattle.model.specs.Limits.{input_limit}
use Rattle.model.specs.Metadata.{add_object}
use Rattle.model.specs.Paths.{Asked}
use Rattle.query_csv.specs.Lines.{query_lines}
use Rattle.cmd_sandbox.specs.Own.{asker, query_or_refusal, unless_refused}
use Rattle.cmd_csvq.specs.Organisation.{new_rows, with_columns, with_rows}
use Rattle.cmd_csvq.specs.declared.outcome.Outcome.{Outcome}
use Rattle.cmd_csvq.specs.declared.outcome.Outcome.TheVariants.{Rows, Refused, RefusedIn}

-- ---- the input, once the query is read

-- the query, once the records are made
abbrev pub lines_outcome : Result (List ℕ) Refusal → Outcome
lines_outcome (Ok lines) = Rows lines
lines_outcome (Err why) = Refused why

abbrev pub asked_outcome : Query → Asked → Outcome
asked_outcome q a = lines_outcome (query_lines a q)

abbrev pub rows_outcome : Query → Result Asked (ℕ × Refusal) → Outcome
rows_outcome q (Ok a) = asked_outcome q a
rows_outcome q (Err why) = RefusedIn why.0 why.1

-- the rows, once the columns are made
abbrev pub columns_outcome : Query → (heading : List (List ℕ)) → (rows : List (List (List ℕ))) → Result Asked (List ℕ) → Outcome
columns_outcome q heading rows (Ok a) = rows_outcome q (with_rows heading 1 a rows)
columns_outcome q heading rows (Err cell) = Refused (HeadingRefused cell)

-- a heading and rows, at this moment
abbrev pub table_outcome : Query → ℤ → List (List (List ℕ)) → Outcome
table_outcome q now [] = Refused (CsvRefused 0)
table_outcome q now (heading ∷ rows) =
    unless_refused (asker now) (add_object (asker now).tenant new_rows) Refused (λ a. columns_outcome q heading rows (with_columns false a heading))

-- the bytes of an input
abbrev pub input_outcome : Query → ℤ → (bytes : List ℕ) → Outcome
input_outcome q now bytes =
    if nat_le (length bytes) input_limit
    then in_case (first_refused bytes) (table_outcome q now (table_of bytes)) (λ row. Refused (CsvRefused row))
    else Refused InputTooLarge

-- ---- both

abbrev pub query_outcome : Result Query Refusal → ℤ → (bytes : List ℕ) → Outcome
query_outcome (Ok q) now bytes = input_outcome q now bytes
query_outcome (Err why) now bytes = Refused why

-- what the query of a text comes to over the bytes of an input, asked at this moment
abbrev pub outcome_of : (text : List ℕ) → ℤ → (bytes : List ℕ) → Outcome
outcome_of text now bytes = query_outcome (query_or_refusal text) now bytes
