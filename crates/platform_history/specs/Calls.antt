-- Calls of `run` over keepers, one after the other, with a crash after each: every one begins over a keeper that is trusted and
-- tells its tables, and these are some that a crash after the call before may leave.
use Rattle.std.specs.Prelude.{◌≡◌, false, IsTrue, List, [], ◌∷◌, IfSome}
use Rattle.store_kv.specs.State.{KeeperState}
use Rattle.store_kv.specs.Tables.{Tables}
use Rattle.commands.specs.Commands.{used_by}
use Rattle.platform.specs.Promise.{IsStatus, Promise}
use Rattle.platform.specs.Seen.{Seen}
use Rattle.platform_history.specs.Runs.{Around, Run}

-- a run, and the keeper before and after it
pub record Call (K : Type 0) : Type 0 where
  pub run : Run
  pub keeper : K
  pub next : K

-- all that is seen at one moment
abbrev pub seen : KeeperState → Around → Seen
seen k a = record {
  keeper = k;
  door = a.door;
  door_faults = a.door_faults;
  line_faults = a.line_faults;
  left = a.left;
  read_faults = a.read_faults;
  written = a.written;
  write_faults = a.write_faults;
  coming = a.coming;
}

module _ {K : Type 0} (state : K → KeeperState) where
  -- what `run` promises of this call
  pub record IsMade (c : Call K) : Type 0 where
    pub status : IsStatus c.run.command c.run.status
    pub promise : IfSome c.run.command (λ command. Promise command (seen (state c.keeper) c.run.before) (seen (state c.next) c.run.after) c.run.status)
    pub unused : (used_by c.run.command c.run.status).keeper ≡ false → c.next ≡ c.keeper
    pub faults_before : c.run.before.keeper_faults ≡ (state c.keeper).faults
    pub faults_after : c.run.after.keeper_faults ≡ (state c.next).faults

  -- some keeper left these tables, and then the calls were made, each to its end; at last a crash leaves some
  abbrev pub AreCalls : (Tables → Type 0) → List (Call K) → Type 0
  AreCalls Left [] = (m : Tables) × Left m
  AreCalls Left (c ∷ cs) =
      Left (state c.keeper).tables × (state c.keeper).tells × IsTrue (state c.keeper).trusted × IsTrue (state c.next).is_clean
      × IsMade c × AreCalls (state c.next).may_leave cs

  -- the calls were made over one keeper, in turn, which is trusted, clean and tells after each
  abbrev pub AreInTurn : K → List (Call K) → Type 0
  AreInTurn k [] = Unit {0}
  AreInTurn k (c ∷ cs) =
      (c.keeper ≡ k) × IsMade c × (state c.next).tells × IsTrue (state c.next).trusted × IsTrue (state c.next).is_clean × AreInTurn c.next cs

abbrev pub runs_of : {K : Type 0} → List (Call K) → List Run
runs_of [] = []
runs_of (c ∷ cs) = c.run ∷ runs_of cs
