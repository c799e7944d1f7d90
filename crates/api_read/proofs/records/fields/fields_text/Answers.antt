use Rattle.std.proofs.Common.{◌≡◌, ◌∙◌, List, ℕ, Some, ap, sym, true}
use Rattle.std.proofs.lemmas.Result.{IfOk-at_ok}
use Rattle.std.specs.Cow.{cow_str_bytes}
use Rattle.std.specs.Prelude.{bytes_eq, codes}
use Rattle.std.specs.Str.{chars}
use Rattle.form_urlencoded.specs.Form.{DecodesTo}
use Rattle.form_urlencoded.specs.Parse.{pairs_left}
use Rattle.model_reads.specs.RecordJson.{fields_text}
use Rattle.api_read.proofs.ColumnsPairs.{find-found, find-none, pair_text}
use Rattle.api_read.proofs.records.fields.fields_text.Goals as goal

pub returns-then-eq : goal.returns-then-eq
unfolding fields_text
returns-then-eq c =
    let (name, value, left, decodes) = c.in-Some.ensures.steps.0 in
    let both = IfOk-at_ok (λ pair. DecodesTo name (cow_str_bytes pair.0) × DecodesTo value (cow_str_bytes pair.1)) c.in_ok-name.was decodes in
    let same : bytes_eq (cow_str_bytes c.in_ok-name.name) (codes "fields") ≡ true =
    ap (λ k. bytes_eq k (codes "fields")) (sym c.as_str-in-loop-pair.ensures.value) ∙ sym c.eq.ensures ∙ c.if-eq.true in
    let found = find-found name value (cow_str_bytes c.in_ok-name.name) (cow_str_bytes c.in_ok-name.value)
    (pairs_left c.loop-pair.pair-iterator) (pairs_left c.next.new.self) left both.0 both.1 same in
    ap (λ (x : List ℕ). Some x) (c.from_string.ensures ∙ ap chars c.in_ok-text.ensures.ok) ∙ sym found ∙ ap pair_text c.loop-pair.invariant

pub returns : goal.returns
unfolding fields_text
returns c = sym (find-none (pairs_left c.loop-pair.pair-iterator) c.in-None.ensures.steps.0) ∙ ap pair_text c.loop-pair.invariant
