use Rattle.std.proofs.Common.{◌≡◌, ◌++◌, OnOk, map, subst}
use Rattle.std.specs.List.{AllByRecursion}
use Rattle.store_edit.specs.Rows.{spelled}
use Rattle.store_rows.specs.Keys.{FitsKey}
use Rattle.retype_step.specs.backfill.Progress.{records_move}
use Rattle.retype_step.proofs.backfill.pages.page_changes.Goals as goal
use Rattle.store_abstraction.specs.declared.layout.Layout.{Layout}

pub move_records-requires-clause-come : goal.move_records-requires-clause-come
move_records-requires-clause-come c = (c.args.cursor, c.in_ok-come.ensures)

pub returns-clause-changes : goal.returns-clause-changes
returns-clause-changes c =
    subst (λ (m : Layout). OnOk c.move_records.result (c.move_records.new.changes.items ≡ c.args.changes.now.items ++ map spelled (records_move c.args.layout.now m c.args.rows.now c.args.items.now)))
    c.in_ok-come.ensures c.move_records.ensures.changes

pub returns-clause-fits : goal.returns-clause-fits
returns-clause-fits c =
    subst (λ (m : Layout). OnOk c.move_records.result (AllByRecursion (λ x. FitsKey x.0) (records_move c.args.layout.now m c.args.rows.now c.args.items.now)))
    c.in_ok-come.ensures c.move_records.ensures.fits
