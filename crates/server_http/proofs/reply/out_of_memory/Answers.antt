use Rattle.std.proofs.Common.{rules}
use Rattle.std.specs.Fmt.{digits}
use Rattle.server_http.proofs.reply.out_of_memory.Goals as goal

pub returns-then-close : goal.returns-then-close
unfolding digits
returns-then-close c = search rules

pub returns-else-close : goal.returns-else-close
unfolding digits
returns-else-close c = search rules
