use Rattle.std.proofs.Common.{take}
use Rattle.base_value.specs.Numerals.{of_digits_behind}
use Rattle.base_value.specs.inner.Mantissas.{IsCapped}
use Rattle.base_value.proofs.exact.capped_value.Given as goal

abbrev pub invariant-digits : goal.invariant-digits
invariant-digits l = IsCapped l.value (of_digits_behind 0 (take l.digit-index l.digits))
