use Rattle.std.proofs.Common.{arith}
use Rattle.jiff_core.proofs.SignedLemmas.{signed_casts}
use Rattle.base_value.proofs.DateParts.{day_bounds}
use Rattle.base_value.proofs.date_text.date_of.Goals as goal

pub returns : goal.returns
returns c = let bounds = day_bounds c.args.day c.requires in omega (arith, signed_casts)
