use Rattle.std.proofs.Common.{◌≡◌, ◌++◌, IsTrue, length, map}
use Rattle.std.specs.List.{list_all}
use Rattle.record_read.specs.Decoding.{kinds_in}
use Rattle.store_edit.specs.Rows.{spelled}
use Rattle.model.specs.SoundRecords.{all_valid}
use Rattle.retype_step.specs.backfill.Progress.{records_move}
use Rattle.retype_step.proofs.Loops.{AllFit}
use Rattle.retype_step.proofs.backfill.pages.move_records.Given as goal

abbrev pub invariant-page : goal.invariant-page
invariant-page l = record {
  changes : l.fn.changes.items ++ map spelled (records_move l.layout l.come l.fn.rows l.fn.items) ≡ l.changes.items ++ map spelled (records_move l.layout l.come l.more_rows l.more_items);
  fits : AllFit (records_move l.layout l.come l.more_rows l.more_items) → AllFit (records_move l.layout l.come l.fn.rows l.fn.items);
  values : IsTrue (list_all (λ r. all_valid (kinds_in l.layout.fields) r.values) l.more_items);
}

abbrev pub decreases-page : goal.decreases-page
decreases-page l = length l.more_rows
