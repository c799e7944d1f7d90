use Rattle.std.proofs.Common.{◌≡◌, ◌-◌}
use Rattle.store_codec.specs.Composed.{in_turn_at}
use Rattle.store_codec.proofs.PartLoops.{onto}
use Rattle.store_codec.proofs.lists.parts_in_turn.Given as goal

abbrev pub invariant-loop : goal.invariant-loop
invariant-loop g l = onto l.parts.items (in_turn_at g.T.Part.reads (l.count - l.counter) l.rest) ≡ in_turn_at g.T.Part.reads l.count l.bytes
