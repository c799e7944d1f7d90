use Rattle.std.proofs.Common.{◌∙◌, Some, ap}
use Rattle.model_reads.proofs.Decoded.{decoded, no_text_part, text_part}
use Rattle.model_reads.proofs.part.value_part.Goals as goal

pub returns-in-Ok : goal.returns-in-Ok
returns-in-Ok c =
    let bytes = decoded _ _ c.as_slice.result.now c.args.part.now _ _ _ c.as_slice.ensures.value c.in_ok-append_to.ensures.ok c.new-bytes.ensures.items c.percent_decode.ensures.bytes c.as_bytes.ensures.value c.as_str.ensures.bytes in
    let cases = c.in-Ok.ensures.cases in
    ap Some c.in_ok-from_str-in-Ok.ensures ∙ text_part c.args.part.now c.as_slice.result.now c.in-Ok.text.now bytes cases.0 cases.1

pub returns : goal.returns
returns c =
    let bytes = decoded _ _ c.as_slice.result.now c.args.part.now _ _ _ c.as_slice.ensures.value c.in_ok-append_to.ensures.ok c.new-bytes.ensures.items c.percent_decode.ensures.bytes c.as_bytes.ensures.value c.as_str.ensures.bytes in
    no_text_part c.args.part.now c.as_slice.result.now bytes c.in-Err.ensures.cases.0
