use Rattle.std.proofs.Common.{◌≡◌, ◌∙◌, ◌++◌, List, ℕ, ap, subst, sym}
use Rattle.std.specs.Char.{encode_utf8}
use Rattle.std.specs.Str.{IsUtf8, chars, encode_utf8_all}
use Rattle.std.specs.String.{string_bytes}
use Rattle.std.proofs.lemmas.List.{take_all}
use Rattle.std.proofs.lemmas.Result.{IfOk-weaker}
use Rattle.base_lemmas.proofs.Results.{IfOk-same as if_ok}
use Rattle.store_abstraction.specs.Metadata.{lower_bytes}
use Rattle.base_value.specs.Texts.{lower}
use Rattle.schema_edit.proofs.RuleTexts.{lower_more}
use Rattle.schema_edit.proofs.edits.reading.lower_bytes.Goals as goal

pub loop-c-preserved : goal.loop-c-preserved
loop-c-preserved c =
    c.in_ok-push.ensures.bytes
    ∙ ap (λ (x : ℕ). string_bytes c.loop-c.lower ++ encode_utf8 x) c.to_ascii_lowercase.ensures.value
    ∙ lower_more (string_bytes c.loop-c.lower) c.as_slice-c-items.result.now c.loop-c.c-index c.c-item.result c.loop-c.invariant c.loop-c-test.true (sym c.c-item.is)

pub returns-clause-same : goal.returns-clause-same
returns-clause-same c =
    if_ok c.bytes_of.result c.as_str.result.now (lower_bytes (chars c.args.name.now))
    (c.as_str.ensures.value
    ∙ c.loop-c.invariant
    ∙ ap (λ (cs : List ℕ). encode_utf8_all (lower cs)) (take_all c.loop-c.c-index c.as_slice-c-items.result.now c.loop-c-test.false ∙ c.as_slice-c-items.ensures.value ∙ c.in_ok-all.ensures.value))
    c.bytes_of.ensures.same

pub returns-clause-utf8 : goal.returns-clause-utf8
returns-clause-utf8 c =
    IfOk-weaker c.bytes_of.result (λ b. b ≡ c.as_str.result.now) IsUtf8 (λ b same. subst IsUtf8 (sym same) c.as_str.utf8) c.bytes_of.ensures.same
