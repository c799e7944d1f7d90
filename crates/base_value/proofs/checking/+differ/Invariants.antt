use Rattle.std.proofs.Common.{length}
use Rattle.base_value.proofs.checking.+differ.Given as goal

abbrev pub decreases-differ : goal.decreases-differ
decreases-differ l = length l.texts.now
