use Rattle.std.proofs.Common.{◌∙◌}
use Rattle.base_value.proofs.NumberOrder.{raised_128}
use Rattle.base_value.proofs.ordering.raised_128.Goals as goal

pub returns : goal.returns
returns c = c.to_be_bytes.ensures ∙ raised_128 c.args.number c.cast_unsigned.result c.ranges.number c.cast_unsigned.ensures
