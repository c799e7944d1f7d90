use Rattle.std.proofs.Common.{◌∙◌}
use Rattle.std.proofs.lemmas.Result.{IfOk-weaker}
use Rattle.std.proofs.lemmas.Str.{IsUtf8-from_ascii, chars-IsAscii}
use Rattle.record_read.proofs.encoding.ascii_text.Goals as goal

pub utf8_text-requires : goal.utf8_text-requires
utf8_text-requires c = IsUtf8-from_ascii c.args.bytes.now c.requires

pub returns : goal.returns
returns c = IfOk-weaker c.utf8_text.result _ _ (λ text e. e ∙ chars-IsAscii c.args.bytes.now c.requires) c.utf8_text.ensures
