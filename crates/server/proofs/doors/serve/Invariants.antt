use Rattle.std.proofs.Common.{◌≡◌, ◌≤◌, ℕ, List, Some}
use Rattle.base_io.specs.Doors.{DoorState}
use Rattle.store_kv.specs.State.{Steps, Tells}
use Rattle.model.specs.World.{World}
use Rattle.store_abstraction.specs.Stands.{Stands}
use Rattle.server.specs.Falls.{FallsBringing, Fell}
use Rattle.server.specs.Leads.{LeadsFrom}
use Rattle.server.specs.Senses.{Sense, StandsAs}
use Rattle.server.proofs.Brought.{Gone}
use Rattle.server.proofs.doors.serve.Given as goal

abbrev pub invariant-loop-served : goal.invariant-loop-served
invariant-loop-served g l =
    let state = g.K.Keeper.state in
    let coming = g.C.Clock.coming in
    let held = g.D.Door.held in
    let lines_of = g.D.Door.line_faults in
    record {
      steps : Steps (state l.fn.keeper) (state l.keeper);
      leads : LeadsFrom (state l.fn.keeper) (state l.keeper);
      faults : g.D.Door.faults l.fn.door ≤ g.D.Door.faults l.door;
      lines : lines_of l.fn.door ≤ lines_of l.door;
      goes : Tells (state l.fn.keeper) (state l.keeper) → (sense : Sense) (w : World) (d : DoorState) (moments : List ℕ) → StandsAs sense (state l.fn.keeper).tables w → held l.fn.door ≡ Some d → coming l.fn.clock ≡ Some moments
          → Gone sense w moments d l._served (coming l.clock) (held l.door) (lines_of l.fn.door) (lines_of l.door) (state l.fn.keeper) (state l.keeper);
      fallen : Fell (state l.fn.keeper) (state l.keeper) → (w : World) (d : DoorState) (moments : List ℕ) → Stands (state l.fn.keeper).tables w → held l.fn.door ≡ Some d → coming l.fn.clock ≡ Some moments
          → FallsBringing w moments d (held l.door) (state l.keeper);
    }
