-- What a run does, from what is seen before and after it.
use Rattle.std.specs.Prelude.{◌≡◌, ◌⊎◌, ℕ, Bool, true, false, List, Option, Result}
use Rattle.std.specs.Io.KnownBytes.{IsAtEnd}
use Rattle.base_io.specs.Moments.{AskedOnce}
use Rattle.store_kv.specs.State.{KeeperState, Tells}
use Rattle.store_kv.specs.Tables.{Tables}
use Rattle.model.specs.World.{World}
use Rattle.server.specs.Senses.{Sense, of_all}
use Rattle.store_abstraction.specs.Stands.{HasKnownVersion, HasUnknownVersion, Stands}
use Rattle.commands.specs.Commands.{Asks, Command, answers, each, never, once, prints, printed, serves, uses, uses_of}
use Rattle.commands.specs.Deeds.{Prints}
pub use Rattle.commands.specs.Statuses.{KeepsWorld, MayBe, status_in, stop_status}
use Rattle.platform.specs.Seen.{Seen}
use Rattle.platform.specs.Serving.{RunsAnswer, RunsServe}
use Rattle.commands.specs.declared.stop.Stop.{Stop}

-- ---- what is handed in

-- the tables that the keeper tells stand for this world; of a command that doesn't open it, any world may be taken
abbrev pub IsWorldOf : Command → KeeperState → KeeperState → World → Type 0
IsWorldOf command old new w = ((uses_of command).keeper ≡ false) ⊎ (Tells old new × Stands old.tables w)

-- ---- what a run does

-- the keeper tells its tables, and they stand for this world, of a command that may not use it
abbrev pub KeepsIf : Bool → World → KeeperState → Type 0
KeepsIf false w k = Unit {0}
KeepsIf true w k = KeepsWorld w k

-- from the world w, and what is seen before and after, with this result
abbrev pub Runs : Command → World → Seen → Seen → Result ℕ Stop → Type 0
Runs (prints p) w a b r =
    (bytes moments : List ℕ) × MayBe (uses p).source a.left bytes × MayBe (uses p).dated a.coming moments
    × (end : World) × Prints w (printed p w bytes moments) a.written b.written r end × KeepsIf (uses p).keeper end b.keeper
Runs answers w a b r = RunsAnswer of_all w a b r
Runs (serves count) w a b r = RunsServe of_all count w a b r

-- the same of a command that serves, over tables that stand for this world in this sense
abbrev pub ServesAs : Sense → Command → World → Seen → Seen → Result ℕ Stop → Type 0
ServesAs sense (prints p) w a b r = Unit {0}
ServesAs sense answers w a b r = RunsAnswer sense w a b r
ServesAs sense (serves count) w a b r = RunsServe sense count w a b r

-- ---- the version, by the status

pub record VersionEnds (m : Tables) (status : ℕ) : Type 0 where
  -- of statuses behind the opening the version is known
  pub known : (status ≡ 0) ⊎ ((status ≡ 65) ⊎ ((status ≡ 73) ⊎ ((status ≡ 74) ⊎ (status ≡ 75)))) → HasKnownVersion m
  -- 77 tells of an unknown one
  pub unknown : status ≡ 77 → HasUnknownVersion m
  -- such is told, unless the keeper fails or memory runs out before
  pub told : HasUnknownVersion m → (status ≡ 77) ⊎ ((status ≡ 71) ⊎ (status ≡ 72))
  -- 76 never tells of tables that stand for a world
  pub damaged : status ≡ 76 → (w : World) → Stands m w → ⊥

-- ---- what a command that prints reads

-- how often the clock was asked
abbrev pub AskedSo : Asks → Option (List ℕ) → Option (List ℕ) → Type 0
AskedSo never old new = Unit {0}
AskedSo once old new = AskedOnce old new
AskedSo each old new = Unit {0}

pub record HasRead (c : Command) (a b : Seen) (status : ℕ) : Type 0 where
  -- where the command is done, an input that it uses was read to its end
  pub whole : (uses_of c).source ≡ true → status ≡ 0 → IsAtEnd b.left
  pub asked : AskedSo (uses_of c).clock a.coming b.coming
