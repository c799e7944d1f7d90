use Rattle.std.proofs.Common.{◌≡◌, ◌++◌, Some, drop, map}
use Rattle.query_csv.specs.inner.Rows.{cell_text}
use Rattle.model.specs.declared.record.Record.{Record}
use Rattle.query_csv.proofs.form.cells_of.Given as goal

abbrev pub invariant-loop-spot : goal.invariant-loop-spot
invariant-loop-spot g l =
    (r : Record) → g.V.HasValues.its_record l.item ≡ Some r
    → l.cells.items ++ map (cell_text l.parents r) (drop l.spot-index l.spots) ≡ map (cell_text l.parents r) l.spots
