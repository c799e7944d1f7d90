use Rattle.std.proofs.Common.{length}
use Rattle.api_input.proofs.members.+differ.Given as goal

abbrev pub decreases-differ : goal.decreases-differ
decreases-differ l = length l.members.now
