use Rattle.std.proofs.Common.{◌∙◌, sym, ap}
use Rattle.std.proofs.lemmas.List.{take_all}
use Rattle.std.proofs.lemmas.Str.{IsUtf8-string_bytes, chars_from_encodes}
use Rattle.std.specs.Str.{encode_utf8_all}
use Rattle.std.specs.String.{string_bytes}
use Rattle.base_lemmas.proofs.Lists.{encodes-push}
use Rattle.api_read.proofs.describe.texts.text_of.Goals as goal

pub loop-c-preserved : goal.loop-c-preserved
loop-c-preserved c =
    c.in_ok-push.ensures.bytes
    ∙ encodes-push (string_bytes c.loop-c.string) c.args.chars.now c.loop-c.c-index c.c-item.result c.loop-c.invariant c.loop-c-test.true (sym c.c-item.is)

pub returns : goal.returns
returns c =
    let all = ap encode_utf8_all (take_all c.loop-c.c-index c.args.chars.now c.loop-c-test.false) in
    c.from_string.ensures
    ∙ sym (chars_from_encodes c.args.chars.now (string_bytes c.loop-c.string) (IsUtf8-string_bytes c.loop-c.string) (sym all ∙ sym c.loop-c.invariant))
