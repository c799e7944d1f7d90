-- The connections of a door, served one after the other.
use Rattle.std.specs.Prelude.{◌≡◌, ◌⊎◌, ℕ, ◌<◌, ◌≤◌, Bool, true, false, List, [], ◌++◌, length, Option, Some, Result, Ok, Err}
use Rattle.base_value.specs.Causes.{RoseBy}
use Rattle.base_io.specs.Doors.{DoorState, outputs}
use Rattle.base_io.specs.declared.traits.IoFail.{IoFail}
use Rattle.store_kv.specs.State.{KeeperState}
use Rattle.model.specs.World.{World}
use Rattle.server.specs.Connections.{Connection, AreServed, end_of, exchanges_of, inputs_of, outputs_of, faulted}
use Rattle.server.specs.Exchanges.{LeavesBehind}
use Rattle.server.specs.Senses.{Sense}

-- these connections of a door were served, from d to e, and from the world w and these moments on to `later`
pub record Brings (sense : Sense) (w : World) (moments : List ℕ) (d e : DoorState) (cs : List Connection) (later : List ℕ) (before now : ℕ) (old new : KeeperState) : Type 0 where
  -- the world after them
  pub end : World
  -- they are the first of those that were to come, with their inputs
  pub inputs : d.coming ≡ inputs_of cs ++ e.coming
  -- the door has their outputs, one for each, and no more
  pub outputs_are : outputs e ≡ outputs d ++ outputs_of cs
  pub served : AreServed sense cs w moments end later
  pub kept : LeavesBehind sense end (exchanges_of cs) old new
  -- a read or a write ended at most as many of them as the faults of lines rose
  pub lines : RoseBy (faulted cs) before now

-- some connections of a door were served, as `Ends` says of them, and the door and the clock tell what is left
abbrev pub BringsTo : Sense → World → List ℕ → DoorState → (Ends : List Connection → DoorState → Type 0) → (coming : Option (List ℕ)) → (held : Option DoorState) → (before now : ℕ) → KeeperState → KeeperState → Type 0
BringsTo sense w moments d Ends coming held before now old new =
    (cs : List Connection) × (e : DoorState) × (later : List ℕ) × (held ≡ Some e) × (coming ≡ Some later) × Brings sense w moments d e cs later before now old new × Ends cs e

-- the next one was served, if there was one and the door brought it
abbrev pub NextEnds : Result Bool IoFail → List Connection → DoorState → Type 0
NextEnds (Ok true) cs e = length cs ≡ 1
NextEnds (Ok false) cs e = (length cs ≡ 0) × (e.coming ≡ [])
NextEnds (Err f) cs e = length cs ≡ 0

-- the first `count` were served, or all if there were fewer; or those before the one that the door failed to bring
abbrev pub ManyEnds : (count : ℕ) → Result (Unit {0}) IoFail → List Connection → DoorState → Type 0
ManyEnds count (Ok done) cs e = (length cs ≤ count) × ((length cs ≡ count) ⊎ (e.coming ≡ []))
ManyEnds count (Err f) cs e = length cs < count

-- no read and no write ended it: it was over at its end, a refusal, a reply that closes or out of memory, all written whole
abbrev pub IsUnfaulted : Connection → Type 0
IsUnfaulted c = end_of c ≡ Ok tt
