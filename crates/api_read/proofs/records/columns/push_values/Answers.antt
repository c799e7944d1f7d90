use Rattle.api_read.proofs.ColumnsNamed.{value_pushed}
use Rattle.api_read.proofs.records.columns.push_values.Goals as goal

pub loop-number-preserved : goal.loop-number-preserved
loop-number-preserved c = value_pushed c.args.sites.now c.loop-number.sites c.push.new.self c.loop-number.number c.loop-number.invariant c.in_ok-push.ensures.ok
