use Rattle.std.proofs.Common.{ap}
use Rattle.std.specs.Str.{chars}
use Rattle.model.specs.declared.refusal.Refusal.TheVariants.{InvalidReference}
use Rattle.access_shares.proofs.principals.bad_reference.Goals as goal

pub returns : goal.returns
unfolding chars
returns c = ap InvalidReference c.in_ok-from_str.ensures
