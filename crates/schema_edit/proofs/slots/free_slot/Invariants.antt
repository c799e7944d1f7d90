use Rattle.std.proofs.Common.{◌≡◌, ◌<◌, ◌≤◌, ◌-◌, ℕ, false}
use Rattle.store_abstraction.specs.Records.{has_free}
use Rattle.schema_edit.proofs.slots.free_slot.Given as goal

abbrev pub invariant-loop-slot : goal.invariant-loop-slot
invariant-loop-slot l = (l.slot ≤ 47) × ((s : ℕ) → s < l.slot → has_free l.layout s ≡ false)

abbrev pub decreases-loop-slot : goal.decreases-loop-slot
decreases-loop-slot l = 47 - l.slot
