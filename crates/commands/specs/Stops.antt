-- What failures on the way of a command are to it.
use Rattle.std.specs.Prelude.{◌≡◌, ◌≢◌, ◌⊎◌, ℕ, Bool, true, false, if◌then◌else◌, IfOk, Result, Ok, Err}
use Rattle.store_kv.specs.State.{KeeperState}
use Rattle.store_rows.specs.declared.fail.StoreFail.{StoreFail}
use Rattle.store_rows.specs.declared.fail.StoreFail.TheVariants as store
use Rattle.model.specs.World.{World}
use Rattle.store_abstraction.specs.declared.fail.OpenFail.{OpenFail}
use Rattle.store_abstraction.specs.declared.fail.OpenFail.TheVariants as opening
use Rattle.store_kv.specs.Tables.{Tables}
use Rattle.store_abstraction.specs.Stands.{HasKnownVersion, HasUnknownVersion, Stands}
use Rattle.store_abstraction.specs.declared.judged.Judged.{Judged}
use Rattle.store_abstraction.specs.declared.judged.Judged.TheVariants.{Changed, Same}
use Rattle.base_io.specs.declared.traits.IoFail.{IoFail}
use Rattle.commands.specs.Printed.{PrintoutText}
use Rattle.commands.specs.Statuses.{KeepsWorld}
use Rattle.commands.specs.declared.csvq.InputFail.{InputFail}
use Rattle.commands.specs.declared.csvq.InputFail.TheVariants as input
use Rattle.commands.specs.declared.printing.CsvqStop.{CsvqStop}
use Rattle.commands.specs.declared.printing.CsvqStop.TheVariants as csvq
use Rattle.commands.specs.declared.printing.StoreStop.{StoreStop}
use Rattle.commands.specs.declared.printing.StoreStop.TheVariants as storing
use Rattle.commands.specs.declared.stop.Stop.{Stop}
use Rattle.commands.specs.declared.stop.Stop.TheVariants as stop

abbrev pub of_store : StoreFail → Stop
of_store store.Keeper = stop.KeeperFailed
of_store store.Memory = stop.NoMemory
of_store store.Damaged = stop.Damaged

abbrev pub of_opening : OpenFail → Stop
of_opening (opening.Store fail) = of_store fail
of_opening opening.UnknownVersion = stop.UnknownVersion

abbrev pub csvq_stop_of : InputFail → CsvqStop
csvq_stop_of input.Failed = csvq.SourceFailed
csvq_stop_of input.Memory = csvq.NoMemory

abbrev pub of_input : InputFail → Stop
of_input input.Failed = stop.SourceFailed
of_input input.Memory = stop.NoMemory

abbrev pub store_stop_of : OpenFail → StoreStop
store_stop_of (opening.Store store.Keeper) = storing.KeeperFailed
store_stop_of (opening.Store store.Memory) = storing.NoMemory
store_stop_of (opening.Store store.Damaged) = storing.Damaged
store_stop_of opening.UnknownVersion = storing.UnknownVersion

-- ---- the stops of each command that prints, among those of all commands

abbrev pub stop_of_csvq : CsvqStop → Stop
stop_of_csvq csvq.NoMemory = stop.NoMemory
stop_of_csvq csvq.SourceFailed = stop.SourceFailed
stop_of_csvq csvq.SinkFailed = stop.SinkFailed

abbrev pub stop_of_store : StoreStop → Stop
stop_of_store storing.NoMemory = stop.NoMemory
stop_of_store storing.KeeperFailed = stop.KeeperFailed
stop_of_store storing.SinkFailed = stop.SinkFailed
stop_of_store storing.Damaged = stop.Damaged
stop_of_store storing.UnknownVersion = stop.UnknownVersion

-- how a run ends by the end of `csvq`, of a command that prints of the tables, and of the writing of a printout
abbrev pub csvq_end : Result ℕ CsvqStop → Result ℕ Stop
csvq_end (Ok status) = Ok status
csvq_end (Err e) = Err (stop_of_csvq e)

abbrev pub store_end : Result ℕ StoreStop → Result ℕ Stop
store_end (Ok status) = Ok status
store_end (Err e) = Err (stop_of_store e)

abbrev pub printout_end : Result ℕ IoFail → Result ℕ Stop
printout_end (Ok status) = Ok status
printout_end (Err e) = Err stop.SinkFailed

-- an operation by its definition, the opening included: what is returned, and the world that is kept
abbrev pub DoesOpened : {X : Type 0} → (World → X × World) → World → KeeperState → Result X OpenFail → Type 0
DoesOpened does w new (Ok x) = (x ≡ (does w).0) × KeepsWorld (does w).1 new
DoesOpened does w new (Err (opening.Store e)) = (e ≢ store.Damaged) × KeepsWorld w new
DoesOpened does w new (Err opening.UnknownVersion) = ⊥

-- the printout of a refusal
abbrev pub Refuses : Judged PrintoutText → Type 0
Refuses (Same p) = p.status ≡ 65
Refuses (Changed p) = p.status ≡ 65

-- by the version of the tables: with a printout it is known
abbrev pub VersionAs : {X : Type 0} → Tables → Result X OpenFail → Type 0
VersionAs m (Ok x) = HasKnownVersion m
VersionAs m (Err opening.UnknownVersion) = HasUnknownVersion m
VersionAs m (Err (opening.Store store.Damaged)) = (HasUnknownVersion m → ⊥) × ((w : World) → Stands m w → ⊥)
VersionAs m (Err (opening.Store store.Keeper)) = Unit {0}
VersionAs m (Err (opening.Store store.Memory)) = Unit {0}

-- ---- before the status is a number

-- the printout was made: all of it, or a prefix, was written
abbrev pub is_done : {X : Type 0} → Result X Stop → Bool
is_done (Ok x) = true
is_done (Err stop.SinkFailed) = true
is_done (Err _) = false

-- the world behind a command that leaves `next` if its printout was made
abbrev pub behind : {X : Type 0} → World → World → Result X Stop → World
behind w next r = if is_done r then next else w

abbrev pub VersionStops : Tables → Result ℕ Stop → Type 0
VersionStops m (Ok x) = HasKnownVersion m
VersionStops m (Err stop.SinkFailed) = HasKnownVersion m
VersionStops m (Err stop.UnknownVersion) = HasUnknownVersion m
VersionStops m (Err stop.Damaged) = (HasUnknownVersion m → ⊥) × ((w : World) → Stands m w → ⊥)
VersionStops m (Err stop.KeeperFailed) = Unit {0}
VersionStops m (Err stop.NoMemory) = Unit {0}
VersionStops m (Err stop.SourceFailed) = HasKnownVersion m
VersionStops m (Err stop.DoorFailed) = HasKnownVersion m

-- done, or only refused
abbrev pub IsKnownStatus : {E : Type 0} → Result ℕ E → Type 0
IsKnownStatus r = IfOk r (λ status. (status ≡ 0) ⊎ (status ≡ 65))
