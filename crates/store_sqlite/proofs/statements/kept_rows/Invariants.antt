use Rattle.std.proofs.Common.{◌≡◌, map, take}
use Rattle.store_sqlite.specs.inner.Steps.{kept_row}
use Rattle.store_sqlite.proofs.statements.kept_rows.Given as goal

abbrev pub invariant-loop-row : goal.invariant-loop-row
invariant-loop-row l = l.all.items ≡ map kept_row (take l.row-index l.rows)
