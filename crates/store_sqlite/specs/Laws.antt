-- The trait's law for a keeper over an open connection.
use Rattle.std.proofs.Common.{◌≡◌, inl, inr, ℕ, List, IsTrue, sym, ap, ◌∙◌}
use Rattle.sqlite.specs.Tree.{Trees}
use Rattle.sqlite.specs.Store.{Ghosts}
use Rattle.sqlite.specs.Effect.{Database}
use Rattle.sqlite.specs.State.{State}
use Rattle.sqlite.specs.Held.{Held, state}
use Rattle.store_kv.specs.State.{IsSettled}
use Rattle.store_sqlite.specs.Kept.{IsReady, keeper_state, map_in}

-- nothing is pending
pub nothing_pends : (s : State) → IsReady s → s.now ≡ s.committed
nothing_pends s (inl it) = it.settled
nothing_pends s (inr it) = it.settled

-- While the connection is open, a crash leaves the last commit: both premises are laws of its store.
module _ {S : Type 0} (g : Ghosts S) (c : Held S)
    (only : (s : S) (db : Trees) → IsTrue (g.view s).is_open → g.recovers s db → db ≡ (g.view s).committed)
    (stays : (s : S) → IsTrue (g.view s).is_open → g.recovers s (g.view s).committed)
    (r : ℕ) (shown : List ℕ) (w : ℕ) where
  pub settled_by : (keeper_state g c r shown w).tells → IsTrue (keeper_state g c r shown w).trusted
      → IsSettled (keeper_state g c r shown w)
  settled_by told stands =
      let last : map_in (state g c).now.trees ≡ map_in (state g c).committed.trees
      = ap (λ (d : Database). map_in d.trees) (nothing_pends (state g c) told.1) in
      record {
        leaves = ((g.view c.store).committed, stays c.store stands, last);
        only = λ m left. left.2 ∙ ap map_in (only c.store left.0 stands left.1) ∙ sym last;
      }
