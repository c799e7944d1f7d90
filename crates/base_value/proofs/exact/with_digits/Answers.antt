use Rattle.std.proofs.Common.{◌≡◌, ◌+◌, ◌*◌, ℕ, take, get_or, sym, subst, ap, ◌∙◌, arith}
use Rattle.base_value.specs.Numerals.{digit_of, of_digits_behind}
use Rattle.base_value.specs.inner.Mantissas.{IsMantissa}
use Rattle.base_value.proofs.Sizes.{digit-read, of_digits_behind-more}
use Rattle.base_value.proofs.exact.with_digits.Goals as goal

pub digits-preserved : goal.digits-preserved
digits-preserved c = record {
  all = λ n h.
      let ds = c.args.digits.now in
      let i = c.digits.digit-index in
      let digit : c.digit_of.result ≡ digit_of (get_or ds i 0) = c.digit_of.ensures.value ∙ ap digit_of (digit-read ds i c.digit-item.result c.digits-test.true c.digit-item.is) in
      let next = c.with_digit-now.ensures.next (of_digits_behind n (take i ds)) (c.digits.invariant.all n h) in
      subst (λ (m : ℕ). IsMantissa c.with_digit-now.result.kept c.with_digit-now.result.zeros m) (ap (λ (d : ℕ). of_digits_behind n (take i ds) * 10 + d) digit ∙ sym (of_digits_behind-more n ds i c.digits-test.true)) next;
  small = c.with_digit-now.ensures.small;
  zeros = omega (arith, c.with_digit-now.ensures.zeros, c.digits.invariant.zeros);
}
