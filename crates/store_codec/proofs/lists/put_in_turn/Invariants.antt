use Rattle.std.proofs.Common.{◌≡◌, ◌++◌, drop}
use Rattle.store_codec.specs.Composed.{in_turn}
use Rattle.store_codec.proofs.lists.put_in_turn.Given as goal

abbrev pub invariant-loop-part : goal.invariant-loop-part
invariant-loop-part g l = l.out.items ++ in_turn g.T.Part.spell (drop l.part-index l.parts) ≡ l.fn.out.items ++ in_turn g.T.Part.spell l.parts
