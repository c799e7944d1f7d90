-- What `run` promises.
use Rattle.std.specs.Prelude.{◌≡◌, ◌⊎◌, ℕ, ◌≤◌, Bool, true, false, IsTrue, Option, Some, None, Result}
use Rattle.base_value.specs.Causes.{Cause}
use Rattle.store_kv.specs.State.{KeeperCause, Shows, Steps, Tells}
use Rattle.model.specs.World.{World}
use Rattle.server.specs.Falls.{Fell}
use Rattle.server.specs.Leads.{StandsReached}
use Rattle.server.specs.Senses.{StandsBut, all_but}
use Rattle.store_abstraction.specs.Stands.{HasKnownVersion, Stands}
use Rattle.commands.specs.Commands.{Command, Used, has_status, is_serving, may_change, uses_of}
use Rattle.platform.specs.Falling.{Doubts}
use Rattle.platform.specs.Run.{HasRead, IsWorldOf, Runs, ServesAs, VersionEnds, status_in}
use Rattle.platform.specs.Seen.{Seen}
use Rattle.commands.specs.declared.stop.Stop.{Stop}

-- 64 exactly if the words are no command; else one of the command's own
abbrev pub IsStatus : Option Command → ℕ → Type 0
IsStatus None status = status ≡ 64
IsStatus (Some command) status = has_status command status ≡ true

-- what isn't used is as it was: keeper, door, source, sink and clock, before and after
pub record IsUnused {K D S W C : Type 0} (u : Used) (keeper keeper2 : K) (door door2 : D) (source source2 : S) (sink sink2 : W) (clock clock2 : C) : Type 0 where
  pub keeper_same : u.keeper ≡ false → keeper2 ≡ keeper
  pub door_same : u.door ≡ false → door2 ≡ door
  pub source_same : u.source ≡ false → source2 ≡ source
  pub sink_same : u.sink ≡ false → sink2 ≡ sink
  pub clock_same : u.clock ≡ false → clock2 ≡ clock

-- why a run failed
pub record Causes (c : Command) (a b : Seen) (status : ℕ) : Type 0 where
  -- counts never fall, and a keeper stays trusted while it counts no fault
  pub steps : Steps a.keeper b.keeper
  pub lines : a.line_faults ≤ b.line_faults
  -- 72 to 75 come only of the object that counted a fault
  pub keeper : KeeperCause a.keeper b.keeper (status ≡ 72)
  pub sink : Cause a.write_faults b.write_faults (status ≡ 73)
  pub source : Cause a.read_faults b.read_faults (status ≡ 74)
  pub door : Cause a.door_faults b.door_faults (status ≡ 75)
  -- what was printed of the tables lasts: the keeper is trusted, as long as it is clean
  pub acknowledged : is_serving c ≡ false → (uses_of c).keeper ≡ true → (status ≡ 0) ⊎ (status ≡ 65)
      → IsTrue b.keeper.is_clean → IsTrue b.keeper.trusted

-- of a command that ended with this status, by what was seen before and after
pub record Promise (c : Command) (a b : Seen) (status : ℕ) : Type 0 where
  -- what is printed, served and kept: over a keeper that tells, is trusted to the end, and whose tables stand for w
  pub does : (w : World) → IsWorldOf c a.keeper b.keeper w → (r : Result ℕ Stop) × (status ≡ status_in r) × Runs c w a b r
  -- isolation: where the rows of some organisations may be anything, all others are served as by definition all the same
  pub isolated : is_serving c ≡ true → Tells a.keeper b.keeper → HasKnownVersion a.keeper.tables → (apart : ℕ → Bool) (w : World)
      → StandsBut apart a.keeper.tables w → (r : Result ℕ Stop) × (status ≡ status_in r) × ServesAs (all_but apart) c w a b r
  -- if input, door or clock aren't told: the world that is left is one to which messages lead
  pub leads : is_serving c ≡ true → Tells a.keeper b.keeper → (w : World) → Stands a.keeper.tables w
      → b.keeper.tells × StandsReached w b.keeper.tables
  -- if the keeper fell: what was acknowledged lasts, and one request at most is in doubt
  pub fell : Fell a.keeper b.keeper → (w : World) → Stands a.keeper.tables w → Doubts c w a b status
  -- by the status, the tables are as they were, whatever they stand for
  pub kept : Tells a.keeper b.keeper → may_change c status ≡ false → Shows b.keeper a.keeper.tables
  -- what 76 and 77 tell
  pub version : (uses_of c).keeper ≡ true → Tells a.keeper b.keeper → VersionEnds a.keeper.tables status
  -- whose fault it was
  pub causes : Causes c a b status
  -- what a command that prints has read
  pub reads : is_serving c ≡ false → HasRead c a b status
