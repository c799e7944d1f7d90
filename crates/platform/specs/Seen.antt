-- What is seen of all that is handed in to a run, at one moment.
use Rattle.std.specs.Prelude.{ℕ, List, Option}
use Rattle.base_io.specs.Doors.{DoorState}
use Rattle.store_kv.specs.State.{KeeperState}

pub record Seen : Type 1 where
  pub keeper : KeeperState
  -- the door, if it tells what it holds; how often it failed, and how often one of its connections did
  pub door : Option DoorState
  pub door_faults : ℕ
  pub line_faults : ℕ
  -- what the source has left, if it tells, and how many reads failed
  pub left : Option (List ℕ)
  pub read_faults : ℕ
  -- what the sink got, if it tells, and how many writes failed
  pub written : Option (List ℕ)
  pub write_faults : ℕ
  -- the moments that the clock will tell, if it tells them
  pub coming : Option (List ℕ)
