use Rattle.std.proofs.Common.{length}
use Rattle.access_user.proofs.level.judging.+by_each_criterion.Given as goal

abbrev pub decreases-by_each_criterion : goal.decreases-by_each_criterion
decreases-by_each_criterion l = length l.criteria.now
