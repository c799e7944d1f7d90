-- What a run over a file does, by what the file and its log held.
use Rattle.std.specs.Prelude.{◌≡◌, ◌⊎◌, ℕ, Bool, true}
use Rattle.sqlite_wal.specs.Recovery.{Image}
use Rattle.commands.specs.Commands.{Command}
use Rattle.platform.specs.Promise.{Promise}
use Rattle.platform.specs.Seen.{Seen}
use Rattle.store_file.specs.Files.{Finds}
use Rattle.store_kv.specs.State.{KeeperState}

-- the file couldn't be opened: door, source, sink and clock are as they were
pub record IsUntouched {D S W C : Type 0} (door door2 : D) (source source2 : S) (sink sink2 : W) (clock clock2 : C) (status : ℕ) : Type 0 where
  pub status_is : (status ≡ 71) ⊎ (status ≡ 72)
  pub door_same : door2 ≡ door
  pub source_same : source2 ≡ source
  pub sink_same : sink2 ≡ sink
  pub clock_same : clock2 ≡ clock

-- The file was opened, and the command ran: what keepers of type K show, the files that one leaves, what these held, what was seen
-- besides the keeper before and after, the status, and whether the files were closed.
pub record RunsIn {K : Type 0} (state_of : K → KeeperState) (Leaves : KeeperState → Type 0) (image : Image) (command : Command) (before after : KeeperState → Seen) (status : ℕ) (is_closed : Bool) : Type 0 where
  -- the keeper as the file was opened, and after the run
  pub opened : K
  pub ended : K
  pub found : Finds image (state_of opened)
  pub promise : Promise command (before (state_of opened)) (after (state_of ended)) status
  pub left : is_closed ≡ true → Leaves (state_of ended)
