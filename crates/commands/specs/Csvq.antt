-- What `csvq` prints: the lines of what its query finds in a CSV text, or the one line of a refusal.
-- What a query over a CSV text comes to is in `cmd_csvq` (`outcome_of`).
use Rattle.std.specs.Prelude.{ℕ, Bool, true, false, List, ◌++◌, codes, Result, Ok, Err, pos}
use Rattle.std.specs.Fmt.{decimal}
use Rattle.soql.specs.declared.query.Query.{Query}
use Rattle.model.specs.Messages.{message_of}
use Rattle.model.specs.Refusals.{code_of}
use Rattle.model.specs.declared.refusal.Refusal.{Refusal}
use Rattle.cmd_csvq.specs.Outcomes.{outcome_of}
use Rattle.cmd_sandbox.specs.Own.{query_or_refusal}
use Rattle.cmd_csvq.specs.declared.outcome.Outcome.{Outcome}
use Rattle.cmd_csvq.specs.declared.outcome.Outcome.TheVariants.{Rows, Refused, RefusedIn}
use Rattle.commands.specs.Printed.{PrintoutText, refused, refused_line}

-- what is printed where the record of a row is refused
abbrev pub refused_row : (row : ℕ) → Refusal → PrintoutText
refused_row row why = record { text = refused_line (code_of why) (codes "row " ++ (decimal row ++ (codes ": " ++ message_of why))); status = 65 }

abbrev pub outcome_printout : Outcome → PrintoutText
outcome_printout (Rows text) = record { text = text; status = 0 }
outcome_printout (Refused why) = refused why
outcome_printout (RefusedIn row why) = refused_row row why

abbrev pub is_read : Result Query Refusal → Bool
is_read (Ok q) = true
is_read (Err why) = false

-- the input is read if the query is one of those that are answered
abbrev pub reads_input : (query : List ℕ) → Bool
reads_input query = is_read (query_or_refusal query)

abbrev pub rows_printed : (query bytes : List ℕ) → (now : ℕ) → PrintoutText
rows_printed query bytes now = outcome_printout (outcome_of query (pos now) bytes)
