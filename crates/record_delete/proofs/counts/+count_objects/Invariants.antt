use Rattle.std.proofs.Common.{length}
use Rattle.record_delete.proofs.counts.+count_objects.Given as goal

abbrev pub decreases-count_objects : goal.decreases-count_objects
decreases-count_objects g l = length l.layouts.now
