use Rattle.std.proofs.Common.{◌≡◌, drop, ◌∙◌, ap}
use Rattle.std.proofs.lemmas.List.{drop-drop}
use Rattle.base_value.specs.Numerals.{fraction_digits, of_digits, size_of, whole_digits}
use Rattle.base_grammar.proofs.number.size_of.Goals as goal

pub returns-clause-value : goal.returns-clause-value
unfolding size_of of_digits
returns-clause-value c =
    let n = c.digits_len.ensures.value in
    let whole : c.split_at.result.0.now ≡ whole_digits c.args.digits.now = rw n at c.split_at.ensures.front in
    let fraction : c.behind_first.result.now ≡ fraction_digits c.args.digits.now =
    c.behind_first.ensures ∙ ap (λ z. drop 1 z) (rw n at c.split_at.ensures.back) ∙ drop-drop 1 _ c.args.digits.now in
    rw (whole, fraction) at c.exact_size.ensures.value
