-- Rows of one table that calls are shown.
use Rattle.std.proofs.Common.{◌≡◌, ◌⊎◌, inl, inr, ℕ, ◌+◌, ◌-◌, ◌≤◌, ◌==◌, true, false, cond, sym, subst, arith}
use Rattle.std.specs.Cmp.{unsigned_Decides}
use Rattle.std.proofs.lemmas.Bool.{cases_Bool}
use Rattle.store_kv.specs.State.{KeeperState, ShownMost}

-- two calls that show rows of one table show rows of that alone
pub alone_on : (table most : ℕ) (a b c : KeeperState) → ShownMost table (b.shown table - a.shown table) a b → ShownMost table most b c → ShownMost table (c.shown table - a.shown table) a c
alone_on table most a b c s r t = by (cases_Bool (t == table)) (s t) (r t)
  where
    by : ((t == table) ≡ true) ⊎ ((t == table) ≡ false) → b.shown t ≤ a.shown t + cond (t == table) (b.shown table - a.shown table) 0 → c.shown t ≤ b.shown t + cond (t == table) most 0
        → c.shown t ≤ a.shown t + cond (t == table) (c.shown table - a.shown table) 0
    by (inl here) first later = rw here (subst (λ (u : ℕ). c.shown u ≤ a.shown u + (c.shown table - a.shown table)) (sym ((unsigned_Decides t table).0 here)) (omega arith))
    by (inr other) first later =
        let x : b.shown t ≤ a.shown t + 0 = rw other at first in
        let y : c.shown t ≤ b.shown t + 0 = rw other at later in
        rw other (omega (arith, x, y))
