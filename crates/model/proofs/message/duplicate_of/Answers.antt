use Rattle.std.proofs.Common.{sym}
use Rattle.model.proofs.message.duplicate_of.Goals as goal

pub returns : goal.returns
returns c = rw (sym c.in_ok-other.ensures) c.joined.ensures
