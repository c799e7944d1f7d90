use Rattle.std.proofs.Common.{length}
use Rattle.access_user.proofs.steps.+master_from.Given as goal

abbrev pub decreases-master_from : goal.decreases-master_from
decreases-master_from l = length l.fields.now
