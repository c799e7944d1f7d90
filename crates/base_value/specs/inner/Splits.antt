-- The digits of a number, as the code splits them at its point.
use Rattle.std.specs.Prelude.{◌≡◌, true, List, ℕ}
use Rattle.base_value.specs.Numerals.{is_unsigned_numeral, whole_digits, fraction_digits}

-- a number without a sign, with its digits before and after the point
pub record IsSplit (whole fraction cs : List ℕ) : Type 0 where
  pub numeral : is_unsigned_numeral cs ≡ true
  pub before : whole ≡ whole_digits cs
  pub after : fraction ≡ fraction_digits cs
