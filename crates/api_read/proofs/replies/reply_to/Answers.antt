use Rattle.std.proofs.Common.{Result, subst}
use Rattle.base_json.specs.declared.tree.Json.{Json}
use Rattle.base_json_tree.specs.Words.{body}
use Rattle.store_abstraction.specs.declared.fail.EditFail.{EditFail}
use Rattle.api_read.specs.Tells.{TellsSo}
use Rattle.api_read.proofs.Replied.{as_told}
use Rattle.api_read.proofs.replies.reply_to.Goals as goal

pub returns-in-Ok-print-clause-value : goal.returns-in-Ok-print-clause-value
returns-in-Ok-print-clause-value c = λ a telling so.
    as_told a telling c.in-Ok.value c.body_reply.result (subst (λ (r : Result Json EditFail). TellsSo telling r) c.in-Ok.is so)
    (c.body_reply.ensures.value a (body c.in-Ok.value) c.in-Ok-print.ensures)
