use Rattle.std.proofs.Common.{length}
use Rattle.schema_edit.proofs.relations.+relationship_taken.Given as goal

abbrev pub decreases-relationship_taken : goal.decreases-relationship_taken
decreases-relationship_taken l = length l.layouts.now
