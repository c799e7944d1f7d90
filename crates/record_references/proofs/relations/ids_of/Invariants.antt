use Rattle.std.proofs.Common.{◌≡◌, take}
use Rattle.record_references.specs.inner.Rows.{ids_in}
use Rattle.record_references.proofs.relations.ids_of.Given as goal

abbrev pub invariant-loop-row : goal.invariant-loop-row
invariant-loop-row l = l.ids.items ≡ ids_in (take l.row-index l.rows)
