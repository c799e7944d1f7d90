-- What `load` prints, and the worlds that it leaves: a heading, and then a deed for each batch of rows.
use Rattle.std.specs.Prelude.{ℕ, zero, suc, List, [], ◌∷◌, length, take, drop, Option, Result, Ok, Err}
use Rattle.cmd_load.specs.Batches.{AskedRow, asked_rows, batch_rows, rows_loaded}
use Rattle.cmd_load.specs.Inputs.{Cells, PlannedRows, input_plan}
use Rattle.cmd_load.specs.Targets.{LoadObject, named_object}
use Rattle.cmd_load_plan.specs.Rows.{heading_line}
use Rattle.cmd_load_plan.specs.declared.plan.LoadPlan.{LoadPlan}
use Rattle.model.specs.declared.refusal.Refusal.{Refusal}
use Rattle.model.specs.Callers.{Named}
use Rattle.model.specs.World.{World}
use Rattle.commands.specs.Deeds.{Deed, Printed, one_deed}
use Rattle.commands.specs.Printed.{PrintoutText, refused}

-- ---- which text is loaded, by which plan

abbrev pub planned_for : (bytes : List ℕ) → Result LoadObject Refusal → Result PlannedRows Refusal
planned_for bytes (Ok x) = input_plan x bytes
planned_for bytes (Err r) = Err r

-- who asks is found first, then the object, and then the text is judged
abbrev pub load_planned : Option Named → (object bytes : List ℕ) → World → Result PlannedRows Refusal
load_planned named object bytes w = planned_for bytes (named_object named object w)

-- ---- its rows

-- the printout of rows: their lines, and the world behind them
abbrev pub batch_does : Option Named → LoadPlan → List AskedRow → World → PrintoutText × World
batch_does named p rows w = let x = rows_loaded named p rows w in (record { text = x.0; status = 0 }, x.1)

abbrev pub batch_deed : Option Named → LoadPlan → List AskedRow → World → Deed
batch_deed named p rows w = let x = rows_loaded named p rows w in record { text = x.0; world = x.1 }

-- rows in batches, at most so many: each is a deed
unfoldable pub batches : (most : ℕ) → Option Named → LoadPlan → List AskedRow → World → List Deed
batches zero named p rows w = []
batches (suc n) named p [] w = []
batches (suc n) named p (r ∷ rows) w =
    let d = batch_deed named p (take batch_rows (r ∷ rows)) w in d ∷ batches n named p (drop batch_rows (r ∷ rows)) d.world

-- rows from this number on: there are no more batches than rows
abbrev pub rows_printed : Option Named → LoadPlan → (number : ℕ) → List Cells → (moments : List ℕ) → World → Printed
rows_printed named p n rows moments w = record { deeds = batches (length rows) named p (asked_rows n rows moments) w; status = 0 }

-- the heading's line, and rows
abbrev pub behind_heading : World → Printed → Printed
behind_heading w p = record { deeds = record { text = heading_line; world = w } ∷ p.deeds; status = p.status }

-- ---- all of it

abbrev pub planned_printed : Option Named → (moments : List ℕ) → World → Result PlannedRows Refusal → Printed
planned_printed named moments w (Ok x) = behind_heading w (rows_printed named x.0 1 x.1 moments w)
planned_printed named moments w (Err r) = one_deed (refused r) w

-- rows are numbered from 1
abbrev pub load_printed : Option Named → (object bytes moments : List ℕ) → World → Printed
load_printed named object bytes moments w = planned_printed named moments w (load_planned named object bytes w)
