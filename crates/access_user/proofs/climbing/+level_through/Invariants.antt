use Rattle.std.proofs.Common.{length}
use Rattle.access_user.proofs.climbing.+level_through.Given as goal

abbrev pub decreases-level_through : goal.decreases-level_through
decreases-level_through g l = length l.steps.now
