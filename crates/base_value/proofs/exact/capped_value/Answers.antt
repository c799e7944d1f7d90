use Rattle.std.proofs.Common.{◌≡◌, ℕ, ◌+◌, ◌*◌, take, get_or, sym, subst, ap, ◌∙◌, take_all}
use Rattle.base_value.specs.Numerals.{digit_of, of_digits, of_digits_behind}
use Rattle.base_value.specs.inner.Mantissas.{IsCapped}
use Rattle.base_value.proofs.Sizes.{capped_full, capped_more, digit-read, of_digits_behind-more}
use Rattle.base_value.proofs.exact.capped_value.Goals as goal
use Rattle.base_value.proofs.exact.capped_value.Goals.{then-value-lt-POWER_CAP, else-value-lt-POWER_CAP}

pub digits-preserved : goal.digits-preserved
digits-preserved c =
    let ds = c.args.digits.now in
    let i = c.digits.digit-index in
    let t = of_digits_behind 0 (take i ds) in
    let item = digit-read ds i c.digit-item.result c.digits-test.true c.digit-item.is in
    subst (λ (m : ℕ). IsCapped c.if-value-lt-POWER_CAP.value m) (sym (of_digits_behind-more 0 ds i c.digits-test.true)) (
    elim c.if-value-lt-POWER_CAP.branch [
      | then-value-lt-POWER_CAP w ↦
          let digit : w.digit_of.result ≡ digit_of (get_or ds i 0) = w.digit_of.ensures.value ∙ ap digit_of item in
          subst (λ (v : ℕ). IsCapped v (t * 10 + digit_of (get_or ds i 0))) (sym w.value-is)
          (capped_more c.digits.value t w.digit_of.result (digit_of (get_or ds i 0)) digit w.digit_of.ensures.bound w.if-value-lt-POWER_CAP.true c.digits.invariant)
      | else-value-lt-POWER_CAP w ↦
          subst (λ (v : ℕ). IsCapped v (t * 10 + digit_of (get_or ds i 0))) (sym w.value-is)
          (capped_full c.digits.value t (digit_of (get_or ds i 0)) w.if-value-lt-POWER_CAP.false c.digits.invariant)
    ])

pub returns : goal.returns
unfolding of_digits
returns c = subst (λ (ds : _). IsCapped c.digits.value (of_digits_behind 0 ds)) (take_all c.digits.digit-index c.args.digits.now c.digits-test.false) c.digits.invariant
