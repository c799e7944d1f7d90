use Rattle.std.proofs.Common.{length}
use Rattle.retype_request.proofs.rules.+first_rule_use.Given as goal

abbrev pub decreases-first_rule_use : goal.decreases-first_rule_use
decreases-first_rule_use l = length l.rules.now
