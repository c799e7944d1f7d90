use Rattle.std.proofs.Common.{rules}
use Rattle.base_value.specs.Digits.{digits}
use Rattle.base_value.specs.Printing.{padded, print_date, print_day, print_moment}
use Rattle.base_value.proofs.date_text.moment_text.Goals as goal

pub returns : goal.returns
unfolding print_moment print_day print_date padded digits
returns c = search rules
