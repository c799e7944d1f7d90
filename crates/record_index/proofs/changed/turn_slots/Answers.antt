use Rattle.record_index.proofs.TurnedValues.{turned_begin, turned_fits_begin, turned_fits_on, turned_go_on}
use Rattle.record_index.proofs.changed.turn_slots.Goals as goal

pub loop-slot-init : goal.loop-slot-init
loop-slot-init c = record {
  changes = turned_begin c.args.layout.now c.args.old.now c.args.new.now c.args.changes.now.items;
  fits = turned_fits_begin c.args.layout.now c.args.old.now c.args.new.now;
}

pub loop-slot-preserved : goal.loop-slot-preserved
loop-slot-preserved c = record {
  changes = turned_go_on c.args.layout.now c.args.old.now c.args.new.now c.loop-slot.slot c.args.changes.now.items c.loop-slot.changes.items c.turn_slot.new.changes.items c.loop-slot.invariant.changes c.in_ok-turn_slot.ensures.changes;
  fits = turned_fits_on c.args.layout.now c.args.old.now c.args.new.now c.loop-slot.slot c.loop-slot.invariant.fits c.in_ok-turn_slot.ensures.fits;
}
