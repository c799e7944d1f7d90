use Rattle.std.proofs.Common.{ℕ, ◌<◌, ◌≤◌, ◌+◌, take}
use Rattle.std.specs.Prelude.{IfSome}
use Rattle.base_value.specs.Numerals.{exact_bound, of_digits_behind}
use Rattle.base_value.specs.inner.Mantissas.{IsMantissa}
use Rattle.base_value.proofs.exact.with_digits.Given as goal

abbrev pub invariant-digits : goal.invariant-digits
invariant-digits l = record {
  all : (n : ℕ) → IsMantissa l.fn.mantissa.kept l.fn.mantissa.zeros n → IsMantissa l.now.kept l.now.zeros (of_digits_behind n (take l.digit-index l.digits));
  small : IfSome l.now.kept (λ n. n < exact_bound);
  zeros : l.now.zeros ≤ l.fn.mantissa.zeros + l.digit-index;
}
