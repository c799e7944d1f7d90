use Rattle.std.proofs.lemmas.Result.{on_ok_weaker}
use Rattle.record_index.proofs.Values.{made_fits, made_go_on}
use Rattle.record_index.proofs.made.new_record_changes.Goals as goal

pub returns-clause-changes : goal.returns-clause-changes
returns-clause-changes c =
    on_ok_weaker c.put_values.result
    (made_go_on c.args.layout.now c.args.item.now c.in_ok-row.row c.args.changes.now.items c.put_row.new.changes.items c.put_values.new.changes.items c.in_ok-row.ensures.row c.in_ok-put_row.ensures)
    c.put_values.ensures.changes

pub returns-clause-fits : goal.returns-clause-fits
returns-clause-fits c =
    on_ok_weaker c.put_values.result
    (made_fits c.args.layout.now c.args.item.now c.in_ok-row.row c.in_ok-row.ensures.row (c.in_ok-row.ensures.fits c.requires.types c.requires.values tt))
    c.put_values.ensures.fits
