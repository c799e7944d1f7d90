use Rattle.std.proofs.Common.{◌≡◌, ◌++◌, map, take}
use Rattle.std.specs.List.{AllByRecursion}
use Rattle.store_edit.specs.Rows.{spelled}
use Rattle.store_rows.specs.Keys.{FitsKey}
use Rattle.record_target.specs.Shares.{shares_removed}
use Rattle.record_target.proofs.shares.remove_shares.Given as goal

abbrev pub invariant-loop-row : goal.invariant-loop-row
invariant-loop-row l = record {
  changes : l.changes.items ≡ l.fn.changes.items ++ map spelled (shares_removed l.org l.id (take l.row-index l.rows));
  fits : AllByRecursion (λ c. FitsKey c.0) (shares_removed l.org l.id (take l.row-index l.rows));
}
