use Rattle.std.proofs.Common.{◌≡◌, ◌∙◌, List, ℕ, subst}
use Rattle.std.specs.Prelude.{IfOk}
use Rattle.model.specs.Bodies.{refusal_body}
use Rattle.model.specs.Refusals.{status_of}
use Rattle.server.proofs.Forms.{refusal_known, same_reply_to}
use Rattle.server.proofs.replies.refusal_bytes_to.Goals as goal

pub bytes_to-requires-clause-known : goal.bytes_to-requires-clause-known
bytes_to-requires-clause-known c = refusal_known c.status.result c.status.ensures.known

pub returns : goal.returns
returns c =
    subst (λ (b : List ℕ). IfOk c.bytes_to.result (λ bytes. bytes ≡ b))
    (same_reply_to c.args.message.now.method c.status.result (status_of c.args.refusal.now) c.as_slice.result.now (refusal_body c.args.refusal.now) c.args.message.now.close c.status.ensures.value (c.as_slice.ensures ∙ c.in_ok-body.ensures))
    c.bytes_to.ensures
