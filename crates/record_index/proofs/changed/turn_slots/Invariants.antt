use Rattle.std.proofs.Common.{◌≡◌, ◌++◌, map}
use Rattle.std.specs.List.{AllByRecursion}
use Rattle.store_edit.specs.Rows.{spelled}
use Rattle.store_rows.specs.Keys.{FitsKey}
use Rattle.record_index.specs.Turned.{values_turned}
use Rattle.record_index.proofs.changed.turn_slots.Given as goal

abbrev pub invariant-loop-slot : goal.invariant-loop-slot
invariant-loop-slot l = record {
  changes : l.changes.items ≡ l.fn.changes.items ++ map spelled (values_turned l.layout l.old l.new l.slot);
  fits : AllByRecursion (λ c. FitsKey c.0) (values_turned l.layout l.old l.new l.slot);
}
