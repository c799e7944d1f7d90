-- A load on its way: what is found, read and printed, and how it ends.
use Rattle.std.specs.Prelude.{◌≡◌, ◌≢◌, ◌⊎◌, ℕ, ◌+◌, ◌≤◌, ◌∷◌, ◌++◌, [], length, List, Option, Result, Ok, Err, IsErrOf}
use Rattle.cmd_load.specs.Batches.{AskedRow, MayTell, asked_rows, batch_rows}
use Rattle.cmd_load.specs.Inputs.{AreRows, Cells, PlannedRows, Unread, input_plan}
use Rattle.cmd_load.specs.Targets.{IsTargetFound, IsTarget, LoadObject}
use Rattle.cmd_load.specs.declared.batch.Loading.{Loading}
use Rattle.cmd_load.specs.declared.target.Target.{Target}
use Rattle.cmd_load_plan.specs.declared.plan.LoadPlan.{LoadPlan}
use Rattle.store_kv.specs.State.{KeeperCause, KeeperState, StaysAfter, Steps}
use Rattle.store_kv.specs.Tables.{Tables}
use Rattle.store_rows.specs.declared.fail.StoreFail.{StoreFail}
use Rattle.store_rows.specs.declared.fail.StoreFail.TheVariants as store
use Rattle.model.specs.declared.refusal.Refusal.{Refusal}
use Rattle.model.specs.Callers.{Named, named_by}
use Rattle.model.specs.World.{World}
use Rattle.store_abstraction.specs.declared.fail.OpenFail.{OpenFail}
use Rattle.store_abstraction.specs.declared.fail.OpenFail.TheVariants as opening
use Rattle.store_abstraction.specs.declared.judged.Judged.{Judged}
use Rattle.store_abstraction.specs.declared.judged.Judged.TheVariants.{Changed, Same}
use Rattle.store_abstraction.specs.Stands.{Stands}
use Rattle.commands.specs.Commands.{Command, load, prints}
use Rattle.commands.specs.Deeds.{CutShort, Printed, Prints}
use Rattle.commands.specs.Load.{batches}
use Rattle.commands.specs.Printed.{PrintoutText}
use Rattle.commands.specs.Statuses.{KeepsWorld}
use Rattle.commands.specs.Stops.{is_done}
use Rattle.commands.specs.declared.input.Input.{Input}
use Rattle.commands.specs.declared.load.Load.{Load}
use Rattle.commands.specs.declared.printing.StoreStop.{StoreStop}
use Rattle.commands.specs.declared.printing.StoreStop.TheVariants as storing
use Rattle.commands.specs.declared.stop.Stop.{Stop}
use Rattle.commands.specs.declared.stop.Stop.TheVariants as stop

-- ---- by whom, and which command it is

abbrev pub asker_in : Load → Option Named
asker_in l = named_by l.org.now l.user.now l.secret.now

abbrev pub command_in : Load → Command
command_in l = prints (load l.org.now l.user.now l.secret.now l.object.now)

abbrev pub asker_of : Loading → Option Named
asker_of l = named_by l.org.now l.user.now l.secret.now

-- ---- what is found, and read

-- the object into which a text is loaded, where tables stand for a world
abbrev pub FindsObject : Result LoadObject Refusal → Result (Result Target Refusal) OpenFail → Type 0
FindsObject expected (Ok found) = IsTargetFound expected found
FindsObject expected (Err (opening.Store e)) = e ≢ store.Damaged
FindsObject expected (Err opening.UnknownVersion) = ⊥

-- the plan and the rows, or the refusal
abbrev pub IsInput : Result PlannedRows Refusal → Result Input Refusal → Type 0
IsInput (Ok x) (Ok input) = (input.plan ≡ x.0) × AreRows x.1 input.text
IsInput (Err r) (Err s) = s ≡ r
IsInput (Ok x) (Err s) = ⊥
IsInput (Err r) (Ok input) = ⊥

-- of the bytes that are told, or of some
abbrev pub IsInputOf : Target → Option (List ℕ) → Result Input Refusal → Type 0
IsInputOf target left planned = (bytes : List ℕ) × MayTell left bytes × ((x : LoadObject) → IsTarget x target → IsInput (input_plan x bytes) planned)

-- ---- what is printed

-- lines as a printout
abbrev pub printout_of_lines : List ℕ → PrintoutText
printout_of_lines lines = record { text = lines; status = 0 }

abbrev pub printout_judged : Result (Judged (List ℕ)) StoreFail → Result (Judged PrintoutText) StoreFail
printout_judged (Ok (Same lines)) = Ok (Same (printout_of_lines lines))
printout_judged (Ok (Changed lines)) = Ok (Changed (printout_of_lines lines))
printout_judged (Err e) = Err e

-- what is printed by the moments that the clock may tell, and the world that is kept
abbrev pub PrintsBy : ((moments : List ℕ) → Printed) → World → (coming old new : Option (List ℕ)) → Result ℕ Stop → KeeperState → Type 0
PrintsBy p w coming old new r k =
    (moments : List ℕ) × MayTell coming moments × (end : World) × Prints w (p moments) old new r end × KeepsWorld end k

-- what a crash may leave once the keeper fell
abbrev pub FallsBy : ((moments : List ℕ) → Printed) → World → (coming old new : Option (List ℕ)) → KeeperState → Type 0
FallsBy p w coming old new k =
    (moments : List ℕ) × MayTell coming moments
    × ((m : Tables) → k.may_leave m → (end : World) × CutShort w (p moments) old new end × Stands m end)

-- rows that were read, and those that weren't: there are no more batches than rows
abbrev pub read_printed : Option Named → LoadPlan → List AskedRow → Unread → (moments : List ℕ) → World → Printed
read_printed named p rows unread moments w =
    record { deeds = batches (length rows + length unread.left) named p (rows ++ asked_rows unread.number unread.left moments) w; status = 0 }

-- a whole batch, or all that was left
abbrev pub IsFull : List AskedRow → List Cells → Type 0
IsFull rows left = (length rows ≡ batch_rows) ⊎ ((length rows ≤ batch_rows) × (left ≡ []))

-- ---- how it ends

abbrev pub later_stop : StoreStop → Stop
later_stop storing.NoMemory = stop.NoMemory
later_stop storing.KeeperFailed = stop.KeeperFailed
later_stop storing.SinkFailed = stop.SinkFailed
later_stop storing.Damaged = stop.Damaged
later_stop storing.UnknownVersion = stop.Damaged

pub record LoadEnds (old new : KeeperState) (r : Result ℕ Stop) : Type 0 where
  pub steps : Steps old new
  -- with all that was written done, as long as the keeper is clean
  pub trusted : StaysAfter (is_done r) old new
  pub cause : KeeperCause old new (IsErrOf r stop.KeeperFailed)

-- once rows are loaded; before that a refusal is written, or it is out of memory
abbrev pub rows_statuses : List ℕ
rows_statuses = 0 ∷ 71 ∷ 72 ∷ 73 ∷ 76 ∷ []

abbrev pub refusal_statuses : List ℕ
refusal_statuses = 65 ∷ 71 ∷ 73 ∷ []
