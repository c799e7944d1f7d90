use Rattle.std.proofs.Common.{◌∙◌}
use Rattle.access_user.proofs.Opened.{open_seen}
use Rattle.access_user.proofs.everyone.EveryoneSight.may_read.Goals as goal

pub returns-clause-tells : goal.returns-clause-tells
returns-clause-tells g c told q t u r stands at all among is =
    let holds = c.is_open.ensures.value ∙ all in
    holds ∙ open_seen t u c.args.layout.now r q (λ o there same. c.is_open.ensures.readable t u o r holds there same) stands.sound at all among
