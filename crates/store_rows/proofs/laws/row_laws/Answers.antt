use Rattle.store_rows.proofs.RowLaws.{one_row, found_row}
use Rattle.store_rows.proofs.laws.row_laws.Goals as goal

pub returns : goal.returns
returns g c = record {
  one = one_row g.R.RowForm.form c.shape_laws.ensures.again;
  found = found_row g.R.RowForm.form c.shape_laws.ensures.again;
}
