use Rattle.std.proofs.Common.{length}
use Rattle.record_constraints.proofs.targets.+bad_references.Given as goal

abbrev pub decreases-bad_references : goal.decreases-bad_references
decreases-bad_references g l = length l.fields.now
