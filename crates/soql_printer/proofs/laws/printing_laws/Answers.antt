use Rattle.soql_printer.proofs.Whole.{spelled_again}
use Rattle.soql_printer.proofs.laws.printing_laws.Goals as goal

pub returns : goal.returns
returns c = record { parsed = spelled_again }
