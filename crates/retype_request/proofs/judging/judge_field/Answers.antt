use Rattle.std.proofs.Common.{◌∙◌, sym}
use Rattle.retype_request.proofs.Reading.{its_field}
use Rattle.retype_request.proofs.judging.judge_field.Goals as goal

pub returns-in-Some-clause-passes : goal.returns-in-Some-clause-passes
returns-in-Some-clause-passes g c told q t s is =
    its_field c.args.layout.now t c.args.to.now c.args.name.now c.in-Some.field c.judge_named.result (sym c.in_ok-field.ensures ∙ c.in-Some.is) (c.judge_named.ensures.passes told q t s is)
