use Rattle.std.proofs.Common.{◌≡◌, ◌++◌, map}
use Rattle.std.specs.List.{AllByRecursion}
use Rattle.store_edit.specs.Rows.{spelled}
use Rattle.store_rows.specs.Keys.{FitsKey}
use Rattle.record_index.specs.Made.{values_made}
use Rattle.record_index.proofs.made.put_values.Given as goal

abbrev pub invariant-loop-slot : goal.invariant-loop-slot
invariant-loop-slot l = record {
  changes : l.changes.items ≡ l.fn.changes.items ++ map spelled (values_made l.layout l.item l.slot);
  fits : AllByRecursion (λ c. FitsKey c.0) (values_made l.layout l.item l.slot);
}
