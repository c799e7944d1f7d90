use Rattle.std.proofs.Common.{◌≡◌, subst, true}
use Rattle.std.specs.Prelude.{IfOk}
use Rattle.model.specs.declared.refusal.Refusal.{Refusal}
use Rattle.server.specs.Requests.{refusal_bytes}
use Rattle.server.proofs.replies.last_reply.Goals as goal

pub returns : goal.returns
returns c = subst (λ (r : Refusal). IfOk c.refusal_bytes.result (λ bytes. bytes ≡ refusal_bytes r true)) c.refusal_of.ensures c.refusal_bytes.ensures
