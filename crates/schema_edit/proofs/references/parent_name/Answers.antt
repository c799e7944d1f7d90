use Rattle.std.proofs.Common.{◌≡◌, ◌∙◌, ◌-◌, ℕ, length, take, refl, sym, ap}
use Rattle.std.specs.Str.{chars, encode_utf8_all}
use Rattle.std.specs.String.{string_bytes}
use Rattle.std.proofs.lemmas.List.{take_all}
use Rattle.std.proofs.lemmas.Str.{IsUtf8-string_bytes}
use Rattle.base_lemmas.proofs.Lists.{encodes-push as one_more}
use Rattle.schema_edit.proofs.Texts.{parent_is}
use Rattle.schema_edit.proofs.references.parent_name.Goals as goal

pub loop-c-preserved : goal.loop-c-preserved
loop-c-preserved c =
    c.in_ok-push.ensures.bytes
    ∙ one_more (string_bytes c.loop-c.name) (take c.saturating_sub.result c.deref.result.now) c.loop-c.c-index c.c-item.result c.loop-c.invariant c.loop-c-test.true (sym c.c-item.is)

pub returns : goal.returns
returns c =
    let field = chars c.args.field.now in
    let all : c.deref.result.now ≡ field = c.deref.ensures.value ∙ c.in_ok-all.ensures.value in
    let count : c.saturating_sub.result ≡ length field - 3 = c.saturating_sub.ensures ∙ ap (λ (n : ℕ). n - 3) (c.len.ensures ∙ sym c.deref.ensures.len ∙ ap length all) in
    let kept : take c.saturating_sub.result c.deref.result.now ≡ take (length field - 3) field = ap (λ (n : ℕ). take n c.deref.result.now) count ∙ ap (take (length field - 3)) all in
    let whole = ap encode_utf8_all (take_all c.loop-c.c-index (take c.saturating_sub.result c.deref.result.now) c.loop-c-test.false) in
    c.from_string.ensures
    ∙ ap chars c.in_ok-push_str.ensures.bytes
    ∙ parent_is field (take c.saturating_sub.result c.deref.result.now) (string_bytes c.loop-c.name) _ kept (IsUtf8-string_bytes c.loop-c.name) (c.loop-c.invariant ∙ whole) refl
