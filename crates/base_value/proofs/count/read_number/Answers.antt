use Rattle.std.proofs.Common.{sym, ap, ◌∙◌}
use Rattle.base_value.specs.Reading.{of_size}
use Rattle.base_value.proofs.Splits.{read-none, read-split}
use Rattle.base_value.proofs.count.read_number.Goals as goal

pub returns-in-Some : goal.returns-in-Some
returns-in-Some c =
    c.of_size.ensures ∙ ap (λ n. of_size c.args.digits c.args.decimals n c.exact_size-size.result) c.is_negative.ensures
    ∙ read-split c.args.digits c.args.decimals c.args.chars.now c.in-Some.split.whole.now c.in-Some.split.fraction.now c.exact_size-size.result c.in-Some.ensures c.exact_size-size.ensures.value

pub returns-in-None : goal.returns-in-None
returns-in-None c = sym (read-none c.args.digits c.args.decimals c.args.chars.now c.in-None.ensures)
