use Rattle.std.proofs.Common.{length}
use Rattle.schema_edit.proofs.relations.+master_of.Given as goal

abbrev pub decreases-master_of : goal.decreases-master_of
decreases-master_of l = length l.layouts.now
