-- A keeper that gets its connection and makes the table in one call.
use Rattle.std.proofs.Common.{◌≡◌, inl, inr, ℕ, List, Option, Some, None, false, IsTrue, true≢false, refl, sym, subst, ◌∙◌, arith}
use Rattle.store_kv.specs.Tables.{no_rows}
use Rattle.store_kv.specs.State.{KeeperState, Steps, Tells, Shows, LeavesNoMore, IsSettled}
use Rattle.sqlite.specs.Tree.{Trees}
use Rattle.sqlite.specs.Store.{Ghosts}
use Rattle.sqlite.specs.State.{HasCleanDisk}
use Rattle.sqlite.specs.Held.{Held, state}
use Rattle.sqlite_trees.proofs.Doubt.{no_doubt}
use Rattle.store_sqlite.specs.Kept.{IsBlank, keeper_state, map_in}
use Rattle.store_sqlite.specs.Laws.{settled_by}
use Rattle.store_sqlite.specs.Opened.{unopened_state, opened_state}
use Rattle.store_sqlite.proofs.Blank.{map_blank, sound_blank}
use Rattle.store_sqlite.proofs.Shown.{clean_if_open, doubt_free}

module _ (tells : Type 0) (refusals : ℕ) (b a : KeeperState) (steps : Steps b a) (counted : refusals ≡ b.faults) (opens : IsTrue b.is_clean → IsTrue b.trusted) (clean_if_stands : IsTrue b.trusted → IsTrue b.is_clean)
    (blank : tells → IsTrue b.is_clean → b.tells × (b.tables ≡ no_rows)) where
  pub begun_steps : Steps (unopened_state tells refusals) a
  begun_steps = record {
    counts = omega (arith, counted, steps.counts);
    stood = λ _. refl;
    was_clean = λ _. refl;
    closes = λ _ clean. elim (steps.closes (opens (steps.was_clean clean)) clean) [ inl still ↦ inl still | inr fault ↦ inr (omega (arith, fault, counted)) ];
    sure = λ h. absurd (true≢false (sym h));
    shut = λ fell. absurd (true≢false fell);
  }

  pub begun_same : (Tells b a → Shows a b.tables) → Tells (unopened_state tells refusals) a → Shows a no_rows
  begun_same same told =
      let is = blank told.0 (clean_if_stands (steps.stood told.1)) in
      let shows = same (is.0, told.1) in
      (shows.0, shows.1 ∙ is.1)

  pub begun_crash : (b.tells → LeavesNoMore b a) → (b.tells → IsTrue b.trusted → IsSettled b) → tells → LeavesNoMore (unopened_state tells refusals) a
  begun_crash crash law told clean m left =
      let was = steps.was_clean clean in
      let is = blank told was in
      (law is.0 (opens was)).only m (crash is.0 clean m left) ∙ is.1

module _ {C : Type 0} (state_of : C → KeeperState) (tells : Type 0) (refusals : ℕ) (o : Option C) where
  pub of_none : (P : KeeperState → Type 0) → o ≡ None → P (unopened_state tells refusals) → P (opened_state state_of tells refusals o)
  of_none P is h = subst (λ x. P (opened_state state_of tells refusals x)) (sym is) h

  pub of_some : (P : KeeperState → Type 0) (c : C) → o ≡ Some c → P (state_of c) → P (opened_state state_of tells refusals o)
  of_some P c is h = subst (λ x. P (opened_state state_of tells refusals x)) (sym is) h

module _ {S : Type 0} (g : Ghosts S) (dirty : (s : S) → (g.view s).is_clean ≡ false → (g.view s).is_open ≡ false) (only : (s : S) (db : Trees) → IsTrue (g.view s).is_open → g.recovers s db → db ≡ (g.view s).committed)
    (stays : (s : S) → IsTrue (g.view s).is_open → g.recovers s (g.view s).committed) (tells : Type 0) (first r : ℕ) (rs : List ℕ) (w : ℕ) (conn c : Held S) (same : c ≡ conn) (count : r ≡ first)
    (opens : HasCleanDisk (state g conn) → IsTrue (state g conn).is_open) (blank : tells → HasCleanDisk (state g conn) → IsBlank (state g conn)) (a : KeeperState) (steps : Steps (keeper_state g c r rs w) a) where
  stands_at : IsTrue (state g c).is_clean → IsTrue (state g c).is_open
  stands_at clean = subst (λ (h : Held S). HasCleanDisk (state g h) → IsTrue (state g h).is_open) (sym same) opens (no_doubt _ clean)

  shows_at : tells → IsTrue (state g c).is_clean → (keeper_state g c r rs w).tells × ((keeper_state g c r rs w).tables ≡ no_rows)
  shows_at told clean =
      let it = subst (λ (h : Held S). HasCleanDisk (state g h) → IsBlank (state g h)) (sym same) (blank told) (no_doubt _ clean) in
      ((stands_at clean, inr it), map_blank (state g c).now.trees (sound_blank (state g c) it))

  clean_at : IsTrue (state g c).is_open → IsTrue (state g c).is_clean
  clean_at shown = doubt_free _ (clean_if_open g dirty c shown)

  counted : first ≡ r
  counted = sym count

  pub start_steps : Steps (unopened_state tells first) a
  start_steps = begun_steps tells first (keeper_state g c r rs w) a steps counted stands_at clean_at shows_at

  pub start_same : (Tells (keeper_state g c r rs w) a → Shows a (map_in (state g c).now.trees)) → Tells (unopened_state tells first) a → Shows a no_rows
  start_same shows = begun_same tells first (keeper_state g c r rs w) a steps counted stands_at clean_at shows_at shows

  pub start_crash : ((keeper_state g c r rs w).tells → LeavesNoMore (keeper_state g c r rs w) a) → tells → LeavesNoMore (unopened_state tells first) a
  start_crash crash = begun_crash tells first (keeper_state g c r rs w) a steps counted stands_at clean_at shows_at crash (settled_by g c only stays r rs w)
