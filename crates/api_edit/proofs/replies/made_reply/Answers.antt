use Rattle.std.proofs.Common.{sym}
use Rattle.api_edit.proofs.Replied.{someone}
use Rattle.api_edit.proofs.replies.made_reply.Goals as goal

pub returns : goal.returns
returns c = sym (c.in_ok-made_body.ensures someone)
