use Rattle.access_user.proofs.Judged.{makes_up}
use Rattle.access_user.proofs.climbing.+own_at_end.Goals as goal

pub returns : goal.returns
returns t c = makes_up c.args.rights.now c.args.layout.now c.args.steps.now c.in-Some.rest.now c.in-Some.step.now c.in-Some.ensures.cases.0 c.own_at_end.result c.own_at_end.ensures
