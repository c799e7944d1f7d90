use Rattle.record_input.proofs.Ended.{gives_ended}
use Rattle.record_input.proofs.given.read_given.Goals as goal

pub returns : goal.returns
returns c types =
    gives_ended c.args.layout.now c.args.given.now c.args.old.now c.read_all.result c.ended.result c.ended.ensures (c.read_all.ensures types)
