use Rattle.std.proofs.Common.{◌∙◌}
use Rattle.query_check.proofs.Reaching.{refused_alike}
use Rattle.query_plan.proofs.Within.{if_ok}
use Rattle.query_check.proofs.refusals.query_refusal.Goals as goal

pub returns : goal.returns
returns c =
    if_ok c.refusal_in.result (λ r e org q t laid reaches. e ∙ refused_alike org q t c.args.layouts.now c.args.layout.now c.args.query.now laid reaches) c.refusal_in.ensures
