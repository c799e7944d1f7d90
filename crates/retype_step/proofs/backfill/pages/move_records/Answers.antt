use Rattle.std.proofs.lemmas.Option.{MatchOption-at_none, MatchOption-at_some}
use Rattle.retype_step.proofs.Loops.{all_valid_in, ended, ended_fit, no_length, no_lengths, page_fits, page_moves, values_after}
use Rattle.retype_step.proofs.backfill.pages.move_records.Goals as goal

pub returns-in_default-split_first-clause-changes : goal.returns-in_default-split_first-clause-changes
returns-in_default-split_first-clause-changes c =
    ended c.args.layout.now c.args.come.now c.page.more_rows.now c.page.more_items.now _ _
    (no_lengths c.args.layout.now c.args.come.now c.page.more_rows.now c.page.more_items.now (MatchOption-at_none _ _ c.in_default-split_first.is c.split_first-in-Some.ensures.cases))
    c.page.invariant.changes

pub returns-in_default-split_first-clause-fits : goal.returns-in_default-split_first-clause-fits
returns-in_default-split_first-clause-fits c =
    c.page.invariant.fits
    (ended_fit c.args.layout.now c.args.come.now c.page.more_rows.now c.page.more_items.now
    (no_lengths c.args.layout.now c.args.come.now c.page.more_rows.now c.page.more_items.now (MatchOption-at_none _ _ c.in_default-split_first.is c.split_first-in-Some.ensures.cases)))

pub page-preserved : goal.page-preserved
page-preserved c =
    let rows = MatchOption-at_some _ _ _ c.in-Some.is c.split_first.ensures.cases in
    let items = MatchOption-at_some _ _ _ c.in-Some-split_first.is c.split_first-in-Some.ensures.cases in
    record {
      changes = page_moves c.args.layout.now c.args.come.now c.page.more_rows.now c.in-Some.kept.now c.in-Some.rows_after.now c.page.more_items.now c.in-Some-split_first.item.now c.in-Some-split_first.items_after.now
          _ _ _ rows.0 items.0 c.page.invariant.changes c.in_ok-move_record.ensures.changes;
      fits = λ rest. c.page.invariant.fits
          (page_fits c.args.layout.now c.args.come.now c.page.more_rows.now c.in-Some.kept.now c.in-Some.rows_after.now c.page.more_items.now c.in-Some-split_first.item.now c.in-Some-split_first.items_after.now
          rows.0 items.0 c.in_ok-move_record.ensures.fits rest);
      values = values_after (all_valid_in c.args.layout.now) c.page.more_items.now c.in-Some-split_first.item.now c.in-Some-split_first.items_after.now items.0 c.page.invariant.values;
    }

pub returns-clause-changes : goal.returns-clause-changes
returns-clause-changes c =
    ended c.args.layout.now c.args.come.now c.page.more_rows.now c.page.more_items.now _ _
    (no_length c.args.layout.now c.args.come.now c.page.more_rows.now c.page.more_items.now (MatchOption-at_none _ _ c.in_default.is c.split_first.ensures.cases))
    c.page.invariant.changes

pub returns-clause-fits : goal.returns-clause-fits
returns-clause-fits c =
    c.page.invariant.fits
    (ended_fit c.args.layout.now c.args.come.now c.page.more_rows.now c.page.more_items.now
    (no_length c.args.layout.now c.args.come.now c.page.more_rows.now c.page.more_items.now (MatchOption-at_none _ _ c.in_default.is c.split_first.ensures.cases)))
