use Rattle.api_output.proofs.Written.{counted, on_ok}
use Rattle.api_output.proofs.parts.write_count.Goals as goal

pub returns : goal.returns
returns c = on_ok c.number.result _ _ (λ e. counted c.args.writer.now c.number.new.self c.units.result c.args.count c.ranges.count.fits c.units.ensures e) c.number.ensures.ok
