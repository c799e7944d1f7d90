use Rattle.std.proofs.Common.{rules}
use Rattle.base_value.specs.Digits.{digits}
use Rattle.base_value.specs.Printing.{padded, print_clock}
use Rattle.base_value.proofs.Padded.{zeros-two}
use Rattle.base_value.proofs.date_text.clock_text.Goals as goal

pub returns : goal.returns
unfolding print_clock padded digits
returns c = search (rules, zeros-two)
