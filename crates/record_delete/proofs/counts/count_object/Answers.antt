use Rattle.record_delete.proofs.CountRows.{adds_object}
use Rattle.record_delete.proofs.counts.count_object.Goals as goal

pub returns-clause-own : goal.returns-clause-own
returns-clause-own g c = adds_object c.args.org c.args.object c.count_among-gone.result c.in_ok-row.row c.args.changes.now.items c.put_object.new.changes.items c.put_object.ensures.fits c.in_ok-put_object.ensures.added
