use Rattle.std.proofs.Common.{◌∙◌, rules}
use Rattle.commands.proofs.Inputs.{too_long_input, too_long_printout}
use Rattle.commands.proofs.csvq.printout_of_query.Goals as goal

pub returns-in_ok-printout_of_refusal-in-Err-TooLong-clause-printout : goal.returns-in_ok-printout_of_refusal-in-Err-TooLong-clause-printout
returns-in_ok-printout_of_refusal-in-Err-TooLong-clause-printout g c =
    let input = too_long_input 67108864 (g.S.Source.left c.args.source.now) (c.in-Err-TooLong.ensures.too_long (search rules)) in
    (input.0, input.1, c.in_ok-printout_of_refusal-in-Err-TooLong.ensures ∙ too_long_printout c.args.query.now c.args.now input.0 input.2)
