use Rattle.std.proofs.Common.{◌≡◌, ◌≤◌, ℕ, false, true, IsTrue, List, Some}
use Rattle.std.specs.Io.KnownBytes.{prepend_known}
use Rattle.store_kv.specs.State.{Steps, Tells, TrustedAfter}
use Rattle.model.specs.World.{World}
use Rattle.store_abstraction.specs.Stands.{Stands}
use Rattle.server.specs.Leads.{LeadsFrom}
use Rattle.server.specs.Senses.{Sense, StandsAs}
use Rattle.server.specs.Falls.{Fell, WritesUndone}
use Rattle.server.proofs.Fallen.{Fallen}
use Rattle.server.proofs.Goes.{Goes}
use Rattle.server.proofs.lines.turns.Given as goal

abbrev pub invariant-loop-count : goal.invariant-loop-count
invariant-loop-count g l =
    let state = g.K.Keeper.state in
    let coming = g.C.Clock.coming in
    let input_of = g.W.Wire.input in
    let output_of = g.W.Wire.output in
    record {
      sure : IsTrue l.is_sure → TrustedAfter true (state l.keeper);
      steps : Steps (state l.fn.keeper) (state l.keeper);
      leads : LeadsFrom (state l.fn.keeper) (state l.keeper);
      stays : g.W.Wire.stays l.fn.wire l.wire;
      reads : g.W.Wire.read_faults l.fn.wire ≤ g.W.Wire.read_faults l.wire;
      writes : g.W.Wire.write_faults l.fn.wire ≤ g.W.Wire.write_faults l.wire;
      goes : Tells (state l.fn.keeper) (state l.keeper) → (sense : Sense) (w : World) (moments input : List ℕ) → StandsAs sense (state l.fn.keeper).tables w → coming l.fn.clock ≡ Some moments → prepend_known l.fn.buffer (input_of l.fn.wire) ≡ Some input
          → Goes sense w moments input (state l.fn.keeper) (output_of l.fn.wire) (state l.keeper) (coming l.clock) (prepend_known l.buffer (input_of l.wire)) (output_of l.wire) l.count;
      fallen : Fell (state l.fn.keeper) (state l.keeper) → (w : World) (moments input : List ℕ) → Stands (state l.fn.keeper).tables w → coming l.fn.clock ≡ Some moments → prepend_known l.fn.buffer (input_of l.fn.wire) ≡ Some input
          → Fallen w moments input (state l.fn.keeper) (output_of l.fn.wire) (state l.keeper) (output_of l.wire);
      undone : (state l.fn.keeper).trusted ≡ false → IsTrue (state l.keeper).is_clean → WritesUndone true (output_of l.fn.wire) (output_of l.wire);
    }
