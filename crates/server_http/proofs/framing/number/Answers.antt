use Rattle.std.proofs.Common.{◌∙◌, ap, ◌+◌, ◌*◌, min}
use Rattle.server_http.proofs.Numbers.{number_more}
use Rattle.server_http.proofs.framing.number.Goals as goal

pub loop-digit-preserved : goal.loop-digit-preserved
loop-digit-preserved c =
    c.min-value.ensures ∙ ap (λ d. min (c.loop-digit.value * 10 + d) 4194305) c.saturating_sub.ensures
    ∙ number_more c.args.digits.now c.loop-digit.digit-index c.loop-digit.value c.loop-digit-test.true c.requires c.loop-digit.invariant
