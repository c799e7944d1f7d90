use Rattle.std.proofs.Common.{rules, ◌≡◌, List, ℕ, ℤ, true, sym, subst}
use Rattle.std.specs.Str.{IsAscii}
use Rattle.base_value.specs.Dates.{is_day, is_moment}
use Rattle.base_value.specs.Printing.{print_number, print_day, print_moment}
use Rattle.base_value.proofs.NumberLaws.{number_ascii}
use Rattle.base_value.proofs.DateTextLaws.{day_ascii, moment_ascii}
use Rattle.base_value.proofs.printing.print_value.Goals as goal

along : (a b : List ℕ) → a ≡ b → IsAscii b → IsAscii a
along a b e h = subst (λ (bs : List ℕ). IsAscii bs) (sym e) h

of_number : (a : List ℕ) (z : ℤ) → a ≡ print_number z → IsAscii a
of_number a z e = along a (print_number z) e (number_ascii z)

of_day : (a : List ℕ) (z : ℤ) → a ≡ print_day z → is_day z ≡ true → IsAscii a
of_day a z e h = along a (print_day z) e (day_ascii z h)

of_moment : (a : List ℕ) (z : ℤ) → a ≡ print_moment z → is_moment z ≡ true → IsAscii a
of_moment a z e h = along a (print_moment z) e (moment_ascii z h)

pub ascii_text-requires-in-Num : goal.ascii_text-requires-in-Num
ascii_text-requires-in-Num c = of_number _ _ c.in_ok-number_text-in-Num.ensures

pub ascii_text-requires-in-Day : goal.ascii_text-requires-in-Day
ascii_text-requires-in-Day c = of_day _ _ c.in_ok-day_text-in-Day.ensures (search rules)

pub ascii_text-requires-in-Moment : goal.ascii_text-requires-in-Moment
ascii_text-requires-in-Moment c = of_moment _ _ c.in_ok-moment_text-in-Moment.ensures (search rules)
