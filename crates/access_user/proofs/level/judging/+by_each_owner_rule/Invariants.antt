use Rattle.std.proofs.Common.{length}
use Rattle.access_user.proofs.level.judging.+by_each_owner_rule.Given as goal

abbrev pub decreases-by_each_owner_rule : goal.decreases-by_each_owner_rule
decreases-by_each_owner_rule l = length l.rules.now
