use Rattle.std.proofs.Common.{ap₂, ◌∙◌}
use Rattle.std.specs.Ordering.{nat_cmp}
use Rattle.std.specs.Cmp.Lexicographic.{slice_cmp}
use Rattle.base_value.proofs.TextOrder.{text_order}
use Rattle.formula.proofs.judging.text_order.Goals as goal

pub returns : goal.returns
returns c = c.cmp.ensures ∙ ap₂ (slice_cmp nat_cmp) c.as_str.ensures.bytes c.as_str-2.ensures.bytes ∙ text_order c.args.a.now c.args.b.now
