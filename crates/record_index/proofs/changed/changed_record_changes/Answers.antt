use Rattle.std.proofs.lemmas.Result.{on_ok_weaker}
use Rattle.record_index.proofs.TurnedValues.{changed_fits, changed_go_on}
use Rattle.record_index.proofs.changed.changed_record_changes.Goals as goal

pub returns-clause-changes : goal.returns-clause-changes
returns-clause-changes c =
    on_ok_weaker c.turn_slots.result
    (changed_go_on c.args.layout.now c.args.kept.now c.args.old.now c.args.new.now c.in_ok-row.row c.args.changes.now.items c.put_row.new.changes.items c.turn_slots.new.changes.items c.in_ok-row.ensures.row c.in_ok-put_row.ensures)
    c.turn_slots.ensures.changes

pub returns-clause-fits : goal.returns-clause-fits
returns-clause-fits c =
    on_ok_weaker c.turn_slots.result
    (changed_fits c.args.layout.now c.args.kept.now c.args.old.now c.args.new.now c.in_ok-row.row c.in_ok-row.ensures.row c.in_ok-row.ensures.fits)
    c.turn_slots.ensures.fits
