use Rattle.std.proofs.Common.{◌∙◌, sym}
use Rattle.server_http.specs.Reply.{is_head}
use Rattle.server_http.proofs.Replies.{without_body}
use Rattle.server_http.proofs.reply.part_to.Goals as goal

pub returns-then-is_head : goal.returns-then-is_head
returns-then-is_head c head body is has =
    without_body (is_head c.args.method.now) (sym c.is_head.ensures ∙ c.if-is_head.true) c.args.whole.now head body c.args.size is has
