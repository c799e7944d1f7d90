-- Runs of the program, as they are seen from outside.
use Rattle.std.specs.Prelude.{ℕ, List, Option}
use Rattle.base_io.specs.Doors.{DoorState}
use Rattle.commands.specs.Commands.{Command}

-- what is seen at one moment of all that is handed in: how often each failed, and what door, source, sink and clock tell
pub record Around : Type 0 where
  pub keeper_faults : ℕ
  -- the door, if it tells what it holds; how often it failed, and how often one of its connections did
  pub door : Option DoorState
  pub door_faults : ℕ
  pub line_faults : ℕ
  -- what the source has left, if it tells, and how many reads failed
  pub left : Option (List ℕ)
  pub read_faults : ℕ
  -- what the sink got, if it tells, and how many writes failed
  pub written : Option (List ℕ)
  pub write_faults : ℕ
  -- the moments that the clock will tell, if it tells them
  pub coming : Option (List ℕ)

-- one run: the command that its words are, if they are one, what was seen before and after, and its status
pub record Run : Type 0 where
  pub command : Option Command
  pub before : Around
  pub after : Around
  pub status : ℕ
