use Rattle.std.proofs.Common.{arith}
use Rattle.std.proofs.lemmas.Int.{ints}
use Rattle.cmd_load_row.proofs.Editing.{moment_small}
use Rattle.cmd_load_row.proofs.edits.moment.Goals as goal

pub overflow_cast-result : goal.overflow_cast-result
overflow_cast-result c = let few = moment_small c.args.now c.requires in omega (arith, few)

pub returns : goal.returns
returns c = let few = moment_small c.args.now c.requires in omega (arith, ints, few)
