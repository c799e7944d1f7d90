use Rattle.std.proofs.Common.{◌≡◌, ◌≤◌, ◌-◌, ◌++◌}
use Rattle.store_kv.specs.inner.Merging.{front}
use Rattle.store_kv.proofs.rows.held_in.Given as goal

abbrev pub invariant-loop-place : goal.invariant-loop-place
invariant-loop-place l = (l.held.items ++ front (l.most - l.shown) l.place-iterator ≡ front l.most l.initial.place-iterator) × (l.shown ≤ l.most)
