use Rattle.record_index.proofs.RemovedValues.{removed_begin, removed_fits_begin, removed_fits_on, removed_go_on}
use Rattle.record_index.proofs.removed.remove_slots.Goals as goal

pub loop-slot-init : goal.loop-slot-init
loop-slot-init c = record {
  changes = removed_begin c.args.layout.now c.args.kept.now c.args.old.now c.args.changes.now.items;
  fits = removed_fits_begin c.args.layout.now c.args.kept.now c.args.old.now;
}

pub loop-slot-preserved : goal.loop-slot-preserved
loop-slot-preserved c = record {
  changes = removed_go_on c.args.layout.now c.args.kept.now c.args.old.now c.loop-slot.slot c.args.changes.now.items c.loop-slot.changes.items c.remove_slot.new.changes.items c.loop-slot.invariant.changes c.in_ok-remove_slot.ensures.changes;
  fits = removed_fits_on c.args.layout.now c.args.kept.now c.args.old.now c.loop-slot.slot c.loop-slot.invariant.fits c.in_ok-remove_slot.ensures.fits;
}
