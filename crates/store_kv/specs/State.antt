-- What a keeper shows, and what its calls do to it.
use Rattle.std.specs.Prelude.{◌≡◌, ◌⊎◌, ℕ, zero, suc, ◌+◌, ◌≤◌, Bool, false, if◌then◌else◌, ◌==◌, length, Result, Ok, Err, IsTrue, Vec, Option, Some, None}
use Rattle.base_value.specs.Causes.{up_to_last, Rose}
use Rattle.store_kv.specs.declared.keeper.KeepFail.{KeepFail}
use Rattle.store_kv.specs.Tables.{Tables}

-- what contracts see of a keeper
pub record KeeperState : Type 1 where
  -- it tells its tables; else they say nothing
  pub tells : Type 0
  pub tables : Tables
  -- the tables that a crash at this moment may leave, if the keeper tells its own
  pub may_leave : Tables → Type 0
  -- the keeper is still trusted: false from a fault on after which it tells nothing more
  pub trusted : Bool
  -- false once what it told may have been wrong
  pub is_clean : Bool
  -- the faults that it counted
  pub faults : ℕ
  -- no call ever fails
  pub never_fails : Bool
  -- the rows that it showed, by table, and those that it wrote
  pub shown : ℕ → ℕ
  pub written : ℕ

-- a crash now leaves nothing that it might not have left before
abbrev pub LeavesNoMore : KeeperState → KeeperState → Type 0
LeavesNoMore old new = IsTrue new.is_clean → (m : Tables) → new.may_leave m → old.may_leave m

-- what every call keeps: the count of faults never falls, a keeper that is trusted or clean after the call was so before,
-- a clean keeper loses its trust only in a call that counts a fault, and once it is trusted no more no call lets a crash leave more
pub record Steps (old new : KeeperState) : Type 0 where
  pub counts : old.faults ≤ new.faults
  pub stood : IsTrue new.trusted → IsTrue old.trusted
  pub was_clean : IsTrue new.is_clean → IsTrue old.is_clean
  pub closes : IsTrue old.trusted → IsTrue new.is_clean → IsTrue new.trusted ⊎ Rose old.faults new.faults
  pub sure : IsTrue old.never_fails → IsTrue new.never_fails × (new.faults ≡ old.faults) × (IsTrue old.trusted → IsTrue new.trusted)
  pub shut : old.trusted ≡ false → LeavesNoMore old new

-- it told its tables, and it is still trusted
abbrev pub Tells : KeeperState → KeeperState → Type 0
Tells old new = old.tells × IsTrue new.trusted

-- it still tells, and its tables are these
abbrev pub Shows : KeeperState → Tables → Type 0
Shows new m = new.tells × (new.tables ≡ m)

-- if the call was done, the keeper is trusted after it, as long as it is clean
abbrev pub TrustedAfter : Bool → KeeperState → Type 0
TrustedAfter done new = IsTrue done → IsTrue new.is_clean → IsTrue new.trusted

-- the same of a keeper that was trusted before: a draft may take what it returns from its own changes
abbrev pub StaysAfter : Bool → KeeperState → KeeperState → Type 0
StaysAfter done old new = IsTrue old.trusted → TrustedAfter done new

-- a crash leaves the tables, and nothing else
pub record IsSettled (s : KeeperState) : Type 0 where
  pub leaves : s.may_leave s.tables
  pub only : (m : Tables) → s.may_leave m → m ≡ s.tables

-- a call that reads: the tables and the count of rows written stay the same, and a crash leaves no more
pub record Reads (old new : KeeperState) : Type 0 where
  pub steps : Steps old new
  pub same : Tells old new → Shows new old.tables
  pub crash : LeavesNoMore old new
  pub written : new.written ≡ old.written

-- what `failed` says is so only where the count of faults rose, and never of a keeper that never fails
pub record KeeperCause (old new : KeeperState) (failed : Type 0) : Type 0 where
  pub rose : failed → Rose old.faults new.faults
  pub never : IsTrue old.never_fails → failed → ⊥

-- the count of faults stays the same, unless the call failed
abbrev pub Quiet : KeeperState → KeeperState → Type 0 → Type 0
Quiet old new failed = (failed → ⊥) → new.faults ≡ old.faults

-- the counts of rows shown, once so many more of this table were
abbrev pub more_shown : ℕ → ℕ → (ℕ → ℕ) → ℕ → ℕ
more_shown table zero shown = shown
more_shown table (suc n) shown = λ t. if t == table then up_to_last (shown t + suc n) else shown t

-- the count of rows written, once so many more were
abbrev pub more_written : ℕ → ℕ → ℕ
more_written zero written = written
more_written (suc n) written = up_to_last (written + suc n)

-- the rows that a `get` showed
abbrev pub shown_by_get : {X : Type 0} → Result (Option X) KeepFail → ℕ
shown_by_get (Ok (Some x)) = 1
shown_by_get (Ok None) = 0
shown_by_get (Err e) = 0

-- the rows that a `scan` showed
abbrev pub shown_by_scan : {X A : Type 0} → Result (Vec X A) KeepFail → ℕ
shown_by_scan (Ok rows) = length rows.items
shown_by_scan (Err e) = 0

-- the table of data rows
abbrev pub data_table : ℕ
data_table = 7

-- of so many rows of a table, those that are data rows
abbrev pub data_rows : ℕ → ℕ → ℕ
data_rows table n = if data_table == table then n else 0

-- at most so many data rows were shown
abbrev pub ShowsMost : ℕ → KeeperState → KeeperState → Type 0
ShowsMost most old new = new.shown data_table ≤ old.shown data_table + most

-- at most so many rows of this table were shown, and none of another
abbrev pub ShownMost : ℕ → ℕ → KeeperState → KeeperState → Type 0
ShownMost table most old new = (t : ℕ) → new.shown t ≤ old.shown t + (if t == table then most else 0)

-- the rows that a scan returned, or its limit if it failed
abbrev pub seen : {X A E : Type 0} → ℕ → Result (Vec X A) E → ℕ
seen limit (Ok rows) = length rows.items
seen limit (Err e) = limit
