use Rattle.record_index.proofs.Values.{fits_begin, fits_go_on, values_begin, values_go_on}
use Rattle.record_index.proofs.made.put_values.Goals as goal

pub loop-slot-init : goal.loop-slot-init
loop-slot-init c = record {
  changes = values_begin c.args.layout.now c.args.item.now c.args.changes.now.items;
  fits = fits_begin c.args.layout.now c.args.item.now;
}

pub loop-slot-preserved : goal.loop-slot-preserved
loop-slot-preserved c = record {
  changes = values_go_on c.args.layout.now c.args.item.now c.loop-slot.slot c.args.changes.now.items c.loop-slot.changes.items c.put_value.new.changes.items c.loop-slot.invariant.changes c.in_ok-put_value.ensures.changes;
  fits = fits_go_on c.args.layout.now c.args.item.now c.loop-slot.slot c.loop-slot.invariant.fits c.in_ok-put_value.ensures.fits;
}
