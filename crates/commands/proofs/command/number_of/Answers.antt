use Rattle.commands.proofs.Counts.{counted}
use Rattle.commands.proofs.command.number_of.Goals as goal

pub returns : goal.returns
returns c = counted c.args.least c.args.most c.args.word.now c.read_number.result c.read_number.ensures.number c.read_number.ensures.value
