use Rattle.std.proofs.Common.{length, refl}
use Rattle.server_http.specs.Reply.{store_failed, reply_head}
use Rattle.server_http.proofs.reply.unavailable_to.Goals as goal

pub returns : goal.returns
returns c = c.part_to.ensures (reply_head 503 (length store_failed) c.args.close) store_failed c.unavailable.ensures refl
