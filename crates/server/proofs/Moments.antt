-- That what a clock returns is a moment of the calendar.
use Rattle.std.proofs.Common.{◌≡◌, ◌≤◌, ℕ, true, IsTrue, arith, pos}
use Rattle.std.proofs.lemmas.Bool.Decides.{nat_tests}
use Rattle.std.specs.Prelude.{nat_le}
use Rattle.base_io.specs.Moments.{last_moment}
use Rattle.base_value.specs.Dates.{is_moment}

before_end : (n : ℕ) → n ≤ 253402300799 → nat_le n 253402300799 ≡ true
before_end n h = grind (arith, nat_tests)

pub is_clocked : (n : ℕ) → n ≤ last_moment → IsTrue (is_moment (pos n))
is_clocked n h = before_end n h
