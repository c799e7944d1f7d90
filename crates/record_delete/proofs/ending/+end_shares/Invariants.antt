use Rattle.std.proofs.Common.{length}
use Rattle.record_delete.proofs.ending.+end_shares.Given as goal

abbrev pub decreases-end_shares : goal.decreases-end_shares
decreases-end_shares g l = length l.ids.now
