use Rattle.std.proofs.Common.{length}
use Rattle.query_check.proofs.paths.+spelled.Given as goal

abbrev pub decreases-spelled : goal.decreases-spelled
decreases-spelled l = length l.names.now
