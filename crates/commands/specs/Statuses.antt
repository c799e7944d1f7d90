-- The statuses of a process, what may have been handed in, and what a keeper has.
use Rattle.std.specs.Prelude.{◌≡◌, ◌⊎◌, ℕ, Bool, false, IsTrue, List, Option, Result, Ok, Err}
use Rattle.cmd_load.specs.Batches.{MayTell}
use Rattle.store_kv.specs.State.{KeeperState}
use Rattle.model.specs.World.{World}
use Rattle.store_abstraction.specs.Stands.{Stands}
use Rattle.commands.specs.declared.stop.Stop.{Stop}
use Rattle.commands.specs.declared.stop.Stop.TheVariants.{Damaged, DoorFailed, KeeperFailed, NoMemory, SinkFailed, SourceFailed, UnknownVersion}

-- ---- statuses

abbrev pub stop_status : Stop → ℕ
stop_status NoMemory = 71
stop_status KeeperFailed = 72
stop_status SinkFailed = 73
stop_status SourceFailed = 74
stop_status DoorFailed = 75
stop_status Damaged = 76
stop_status UnknownVersion = 77

abbrev pub status_in : Result ℕ Stop → ℕ
status_in (Ok status) = status
status_in (Err stop) = stop_status stop

-- ---- what is handed in

-- this may be what there was: what is told, if anything is; if it isn't used, it may be anything
abbrev pub MayBe : (used : Bool) → Option (List ℕ) → List ℕ → Type 0
MayBe used told value = (used ≡ false) ⊎ MayTell told value

-- ---- what a keeper has

-- the keeper tells its tables, and they stand for this world
abbrev pub KeepsWorld : World → KeeperState → Type 0
KeepsWorld w k = k.tells × Stands k.tables w

-- it told its tables and was trusted, and is trusted no more, though nothing that it told was wrong
abbrev pub Fell : KeeperState → KeeperState → Type 0
Fell old new = old.tells × IsTrue old.trusted × (new.trusted ≡ false) × IsTrue new.is_clean
