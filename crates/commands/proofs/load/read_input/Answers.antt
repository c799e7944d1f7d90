use Rattle.std.proofs.Common.{rules}
use Rattle.commands.proofs.Inputs.{too_long_input}
use Rattle.commands.proofs.Planned.{too_large_input}
use Rattle.commands.proofs.load.read_input.Goals as goal

pub returns-in-Err-TooLong-clause-input : goal.returns-in-Err-TooLong-clause-input
returns-in-Err-TooLong-clause-input g c =
    let input = too_long_input 67108864 (g.S.Source.left c.args.source.now) (c.in-Err-TooLong.ensures.too_long (search rules)) in
    (input.0, input.1, λ x is. too_large_input x input.0 input.2)
