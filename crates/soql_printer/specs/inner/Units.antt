-- Conditions within another, as a list.
use Rattle.std.specs.Prelude.{ℕ, List}
use Rattle.soql.specs.declared.query.Cond.{Cond}
use Rattle.soql_printer.specs.Printing.{as_unit, is_simple, printed_condition}

-- the text of a condition within another
unfoldable pub unit_text : Cond → List ℕ
unit_text part = as_unit (is_simple part) (printed_condition part)
