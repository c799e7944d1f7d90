use Rattle.std.proofs.Common.{◌≡◌, ◌∙◌, List, ℕ, subst}
use Rattle.std.specs.Prelude.{IfOk}
use Rattle.model.specs.Bodies.{refusal_body}
use Rattle.model.specs.Refusals.{status_of}
use Rattle.server.proofs.Forms.{refusal_known, same_reply}
use Rattle.server.proofs.replies.refusal_bytes.Goals as goal

pub reply_bytes-requires-clause-known : goal.reply_bytes-requires-clause-known
reply_bytes-requires-clause-known c = refusal_known c.status.result c.status.ensures.known

pub returns : goal.returns
returns c =
    subst (λ (b : List ℕ). IfOk c.reply_bytes.result (λ bytes. bytes ≡ b))
    (same_reply c.status.result (status_of c.args.refusal.now) c.as_slice.result.now (refusal_body c.args.refusal.now) c.args.close c.status.ensures.value (c.as_slice.ensures ∙ c.in_ok-body.ensures))
    c.reply_bytes.ensures
