use Rattle.std.proofs.Common.{length}
use Rattle.schema_edit.proofs.relations.+any_gives.Given as goal

abbrev pub decreases-any_gives : goal.decreases-any_gives
decreases-any_gives l = length l.fields.now
