use Rattle.std.proofs.Common.{◌∙◌, ap, sym}
use Rattle.api_edit.proofs.Replied.{someone, with_status}
use Rattle.api_edit.proofs.replies.upserted_reply.Goals as goal

pub returns : goal.returns
returns c = ap (with_status c.in_ok-body.body) c.upserted_status.ensures ∙ sym (c.in_ok-body.ensures someone)
