use Rattle.std.proofs.Common.{length}
use Rattle.retype_request.proofs.rules.+first_sharing_use.Given as goal

abbrev pub decreases-first_sharing_use : goal.decreases-first_sharing_use
decreases-first_sharing_use l = length l.rules.now
