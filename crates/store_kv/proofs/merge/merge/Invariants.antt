use Rattle.std.proofs.Common.{◌≡◌, ◌≤◌, ◌+◌, ◌-◌, ◌++◌, length, drop}
use Rattle.store_kv.specs.inner.Merging.{merged}
use Rattle.store_kv.proofs.merge.merge.Given as goal

abbrev pub invariant-turns : goal.invariant-turns
invariant-turns l = (l.out.items ++ merged l.rows.items (drop l.at l.held) ≡ merged l.initial.rows.items l.held) × (length l.out.items ≤ l.limit) × (l.at ≤ length l.held)

abbrev pub decreases-turns : goal.decreases-turns
decreases-turns l = length l.rows.items + (length l.held - l.at)
