use Rattle.std.proofs.lemmas.Result.{on_ok_weaker}
use Rattle.record_index.proofs.RemovedValues.{gone_fits, gone_go_on}
use Rattle.record_index.proofs.removed.removed_record_changes.Goals as goal

pub returns-clause-changes : goal.returns-clause-changes
returns-clause-changes c =
    on_ok_weaker c.remove_slots.result
    (gone_go_on c.args.layout.now c.args.kept.now c.args.old.now c.args.changes.now.items c.remove_data.new.changes.items c.remove_slots.new.changes.items c.in_ok-remove_data.ensures.changes)
    c.remove_slots.ensures.changes

pub returns-clause-fits : goal.returns-clause-fits
returns-clause-fits c =
    on_ok_weaker c.remove_slots.result
    (gone_fits c.args.layout.now c.args.kept.now c.args.old.now c.in_ok-remove_data.ensures.fits)
    c.remove_slots.ensures.fits
