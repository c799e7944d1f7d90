-- An export: the lines of a query's rows, or why it is refused. It changes nothing itself.
-- Source: Salesforce, SOQL and SOSL Reference, as the verdict of a query has it. That a query with a child subquery isn't exported is this
-- product's own.
use Rattle.std.specs.Prelude.{◌+◌, ℕ, Bool, true, false, if◌then◌else◌, List, Result, Ok, Err}
use Rattle.std.specs.List.{list_any}
use Rattle.cmd_auth.specs.Asking.{Doing}
use Rattle.query_csv.specs.Lines.{query_lines}
use Rattle.model.specs.declared.refusal.Refusal.{Refusal}
use Rattle.model.specs.declared.refusal.Refusal.TheVariants.{MalformedQuery, SubqueryNotExported}
use Rattle.model.specs.Paths.{Asked}
use Rattle.soql.specs.declared.query.Item.{Item}
use Rattle.soql.specs.declared.query.Item.TheVariants as item
use Rattle.soql.specs.declared.query.Query.{Query}
use Rattle.soql.specs.grammar.Spelling.{reads_query}
use Rattle.model.specs.Shown.{further_to, request_shown}

-- a child subquery
abbrev pub is_child : Item → Bool
is_child (item.Path p) = false
is_child (item.Child paths tail) = true

-- a query that was read
abbrev pub exported_query : Asked → Query → Result (List ℕ) Refusal
exported_query a q = if list_any is_child q.select then Err SubqueryNotExported else query_lines a q

abbrev pub exported_read : Asked → Result Query ℕ → Result (List ℕ) Refusal
exported_read a (Ok q) = exported_query a q
exported_read a (Err place) = Err (MalformedQuery place)

-- what the text of a query comes to, of one who asks
abbrev pub exported : (text : List ℕ) → Doing (Result (List ℕ) Refusal)
exported text a = (exported_read a (reads_query text), a.tenant)

-- the most data rows that are shown for it
abbrev pub export_shown : (text : List ℕ) → ℕ
export_shown text = request_shown + further_to (reads_query text)
