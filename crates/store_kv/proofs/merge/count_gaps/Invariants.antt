use Rattle.std.proofs.Common.{◌≡◌, ◌≤◌, take}
use Rattle.store_kv.specs.inner.Merging.{gaps}
use Rattle.store_kv.proofs.merge.count_gaps.Given as goal

abbrev pub invariant-loop-entry : goal.invariant-loop-entry
invariant-loop-entry l = (l.count ≡ gaps (take l.entry-index l.held)) × (l.count ≤ l.entry-index)
