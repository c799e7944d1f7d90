use Rattle.std.proofs.Common.{length}
use Rattle.access_user.proofs.climbing.+own_at_end.Given as goal

abbrev pub decreases-own_at_end : goal.decreases-own_at_end
decreases-own_at_end l = length l.steps.now
