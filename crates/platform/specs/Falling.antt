-- A run in which the keeper falls: what was done before, and what a crash leaves from then on.
use Rattle.std.specs.Prelude.{◌≡◌, ◌⊎◌, ℕ, true, List, Some}
use Rattle.base_io.specs.Doors.{DoorState}
use Rattle.store_kv.specs.State.{KeeperState}
use Rattle.store_kv.specs.Tables.{Tables}
use Rattle.model.specs.World.{World}
use Rattle.server.specs.Falls.{Falls, FallsBringing}
use Rattle.server.specs.Leads.{StandsReached}
use Rattle.store_abstraction.specs.Stands.{Stands}
use Rattle.commands.specs.Commands.{Command, Printing, answers, is_opening, prints, printed, serves, uses}
use Rattle.commands.specs.Deeds.{CutShort}
use Rattle.platform.specs.Run.{MayBe}
use Rattle.platform.specs.Seen.{Seen}

-- it fell in the opening: nothing was served, and a crash leaves the world as it was
pub record FallsOpening (w : World) (new : KeeperState) (status : ℕ) : Type 0 where
  pub opening : is_opening status ≡ true
  pub crash : (t : Tables) → new.may_leave t → Stands t w

-- where input and moments are told
abbrev pub FallsTold : Command → World → Seen → Seen → (status : ℕ) → Type 0
FallsTold (prints p) w a b status = Unit {0}
FallsTold answers w a b status =
    (input moments : List ℕ) → a.left ≡ Some input → a.coming ≡ Some moments
    → FallsOpening w b.keeper status ⊎ Falls w moments input a.written b.written b.keeper
FallsTold (serves count) w a b status =
    (d : DoorState) (moments : List ℕ) → a.door ≡ Some d → a.coming ≡ Some moments
    → FallsOpening w b.keeper status ⊎ FallsBringing w moments d b.door b.keeper

-- a crash leaves what was printed, and at most the next deed besides
abbrev pub CrashPrints : Printing → World → Seen → Seen → Type 0
CrashPrints p w a b =
    (bytes moments : List ℕ) × MayBe (uses p).source a.left bytes × MayBe (uses p).dated a.coming moments
    × ((m : Tables) → b.keeper.may_leave m → (end : World) × CutShort w (printed p w bytes moments) a.written b.written end × Stands m end)

-- or a world to which messages lead
abbrev pub CrashLeaves : Command → World → Seen → Seen → Type 0
CrashLeaves (prints p) w a b = CrashPrints p w a b
CrashLeaves answers w a b = (m : Tables) → b.keeper.may_leave m → StandsReached w m
CrashLeaves (serves count) w a b = (m : Tables) → b.keeper.may_leave m → StandsReached w m

-- from the world w, and what is seen before and after
pub record Doubts (c : Command) (w : World) (a b : Seen) (status : ℕ) : Type 0 where
  pub crash : CrashLeaves c w a b
  -- all that was answered lasts, and one request at most is in doubt
  pub told : FallsTold c w a b status
