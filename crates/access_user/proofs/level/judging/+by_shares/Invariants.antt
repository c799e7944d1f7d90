use Rattle.std.proofs.Common.{length}
use Rattle.access_user.proofs.level.judging.+by_shares.Given as goal

abbrev pub decreases-by_shares : goal.decreases-by_shares
decreases-by_shares l = length l.shares.now
