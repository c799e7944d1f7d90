use Rattle.std.proofs.Common.{◌++◌, sym, subst}
use Rattle.base_value.specs.Numerals.{of_digits, of_digits_behind}
use Rattle.base_value.specs.inner.Mantissas.{IsMantissa}
use Rattle.base_value.proofs.Sizes.{of_digits_behind-append, no_digits}
use Rattle.base_value.proofs.exact.exact_size.Goals as goal

pub returns-clause-value : goal.returns-clause-value
unfolding of_digits
returns-clause-value c =
    let whole = c.args.whole.now in
    let fraction = c.args.fraction.now in
    let before = c.with_digits-before.ensures.all 0 no_digits in
    let all = c.with_digits-mantissa.ensures.all (of_digits_behind 0 whole) before in
    let digits = sym (of_digits_behind-append 0 whole fraction) in
    let mantissa = subst (IsMantissa c.with_digits-mantissa.result.kept c.with_digits-mantissa.result.zeros) digits all in
    c.mantissa_size.ensures.value (of_digits_behind 0 (whole ++ fraction)) (of_digits c.args.power.now) mantissa c.capped_value.ensures
