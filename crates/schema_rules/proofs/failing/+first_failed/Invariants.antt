use Rattle.std.proofs.Common.{length}
use Rattle.schema_rules.proofs.failing.+first_failed.Given as goal

abbrev pub decreases-first_failed : goal.decreases-first_failed
decreases-first_failed l = length l.rules.now
