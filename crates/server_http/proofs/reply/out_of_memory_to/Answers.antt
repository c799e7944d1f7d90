use Rattle.std.proofs.Common.{length, refl}
use Rattle.server_http.specs.Reply.{no_memory, reply_head}
use Rattle.server_http.proofs.reply.out_of_memory_to.Goals as goal

pub returns : goal.returns
returns c = c.part_to.ensures (reply_head 507 (length no_memory) c.args.close) no_memory c.out_of_memory.ensures refl
