use Rattle.std.proofs.Common.{◌≡◌, ◌++◌, map}
use Rattle.std.specs.List.{AllByRecursion}
use Rattle.store_edit.specs.Rows.{spelled}
use Rattle.store_rows.specs.Keys.{FitsKey}
use Rattle.record_index.specs.Removed.{values_removed}
use Rattle.record_index.proofs.removed.remove_slots.Given as goal

abbrev pub invariant-loop-slot : goal.invariant-loop-slot
invariant-loop-slot l = record {
  changes : l.changes.items ≡ l.fn.changes.items ++ map spelled (values_removed l.layout l.kept l.old l.slot);
  fits : AllByRecursion (λ c. FitsKey c.0) (values_removed l.layout l.kept l.old l.slot);
}
