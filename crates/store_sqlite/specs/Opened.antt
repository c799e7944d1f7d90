-- What a keeper shows that may have no connection yet.
use Rattle.std.proofs.Common.{◌≡◌, ◌↔◌, ℕ, true, false, Option, Some, None, IsTrue, refl}
use Rattle.sqlite.specs.Tree.{Trees}
use Rattle.sqlite.specs.Held.{Held, state}
use Rattle.sqlite.specs.Store.{Ghosts}
use Rattle.store_kv.specs.Tables.{Tables, no_rows}
use Rattle.store_kv.specs.State.{KeeperState, IsSettled}
use Rattle.store_sqlite.specs.Kept.{IsReady, map_in}

-- without a connection: no rows, if that is told at all, and a crash leaves none
abbrev pub unopened_state : Type 0 → ℕ → KeeperState
unopened_state tells refusals = record {
  tells = tells;
  tables = no_rows;
  may_leave = λ m. m ≡ no_rows;
  trusted = true;
  is_clean = true;
  faults = refusals;
  never_fails = false;
  shown = λ _. 0;
  written = 0;
}

module _ {C : Type 0} (state_of : C → KeeperState) where
  -- what it shows with a connection is what is shown of that
  abbrev pub opened_state : Type 0 → ℕ → Option C → KeeperState
  opened_state tells refusals None = unopened_state tells refusals
  opened_state tells refusals (Some c) = state_of c

  -- the trait's law: while it tells and is trusted, a crash leaves its tables and nothing else
  pub opened_settled : ((c : C) → (state_of c).tells → IsTrue (state_of c).trusted → IsSettled (state_of c))
      → (tells : Type 0) (refusals : ℕ) (c : Option C)
      → (opened_state tells refusals c).tells → IsTrue (opened_state tells refusals c).trusted
      → IsSettled (opened_state tells refusals c)
  opened_settled law tells refusals None told stands = record { leaves = refl; only = λ m same. same }
  opened_settled law tells refusals (Some c) told stands = law c told stands

-- a keeper that isn't opened: it tells that it has no rows, if its opener tells, and has counted nothing
pub record IsUnopened (tells : Type 0) (s : KeeperState) : Type 0 where
  pub told : tells ↔ s.tells
  pub tables : s.tables ≡ no_rows
  pub stands : IsTrue s.trusted
  pub is_clean : IsTrue s.is_clean
  pub faults : s.faults ≡ 0
  pub shown : (table : ℕ) → s.shown table ≡ 0
  pub written : s.written ≡ 0

-- a keeper over this connection: it tells its tables while that is open and its database ready
pub record IsOver {S : Type 0} (g : Ghosts S) (c : Held S) (s : KeeperState) : Type 0 where
  pub told : s.tells ↔ (IsTrue (state g c).is_open × IsReady (state g c))
  pub tables : s.tables ≡ map_in (state g c).now.trees
  pub leaves : (m : Tables) → s.may_leave m ↔ ((db : Trees) × (state g c).may_leave db × (m ≡ map_in db))
  pub stands : s.trusted ≡ (state g c).is_open
  pub is_clean : s.is_clean ≡ (state g c).is_clean
