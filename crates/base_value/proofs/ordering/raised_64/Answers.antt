use Rattle.std.proofs.Common.{◌∙◌}
use Rattle.base_value.proofs.NumberOrder.{raised_64}
use Rattle.base_value.proofs.ordering.raised_64.Goals as goal

pub returns : goal.returns
returns c = c.to_be_bytes.ensures ∙ raised_64 c.args.number c.cast_unsigned.result c.ranges.number c.cast_unsigned.ensures
