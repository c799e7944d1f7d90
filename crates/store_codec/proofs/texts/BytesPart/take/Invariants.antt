use Rattle.std.proofs.Common.{◌≡◌, length}
use Rattle.store_codec.specs.Composed.{ordered_at}
use Rattle.store_codec.proofs.PartLoops.{onto}
use Rattle.store_codec.proofs.texts.BytesPart.take.Given as goal

abbrev pub invariant-loop-out : goal.invariant-loop-out
invariant-loop-out l = onto l.out.items (ordered_at l.rest) ≡ ordered_at l.bytes

abbrev pub decreases-loop-out : goal.decreases-loop-out
decreases-loop-out l = length l.rest
