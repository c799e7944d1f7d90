use Rattle.std.proofs.Common.{rules}
use Rattle.base_value.specs.Digits.{digits}
use Rattle.base_value.specs.Printing.{padded, print_date}
use Rattle.base_value.proofs.Padded.{zeros-four, zeros-two}
use Rattle.base_value.proofs.date_text.date_text.Goals as goal

pub returns : goal.returns
unfolding print_date padded digits
returns c = search (rules, zeros-two, zeros-four)
