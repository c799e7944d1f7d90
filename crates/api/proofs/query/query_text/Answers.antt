use Rattle.std.proofs.Common.{◌≡◌, ap, sym, ◌∙◌}
use Rattle.std.proofs.lemmas.Result.{IfOk-at_ok, IfOk-weaker}
use Rattle.std.specs.Cow.{cow_str_bytes}
use Rattle.std.specs.Prelude.{bytes_eq, codes, true}
use Rattle.form_urlencoded.specs.Form.{DecodesTo}
use Rattle.form_urlencoded.specs.Parse.{pairs_left}
use Rattle.model.specs.Step.{pair_text, query_text}
use Rattle.api.proofs.Queries.{find-found, find-none}
use Rattle.api.proofs.query.query_text.Goals as goal

pub returns-then-eq : goal.returns-then-eq
unfolding query_text
returns-then-eq c =
    let (name, value, left, decodes) = c.in-Some.ensures.steps.0 in
    let both = IfOk-at_ok (λ pair. DecodesTo name (cow_str_bytes pair.0) × DecodesTo value (cow_str_bytes pair.1)) c.in_ok-name.was decodes in
    let same : bytes_eq (cow_str_bytes c.in_ok-name.name) (codes "q") ≡ true =
    ap (λ k. bytes_eq k (codes "q")) (sym c.as_str-in-loop-pair.ensures.value) ∙ sym c.eq.ensures ∙ c.if-eq.true in
    let found = find-found name value (cow_str_bytes c.in_ok-name.name) (cow_str_bytes c.in_ok-name.value)
    (pairs_left c.loop-pair.pair-iterator) (pairs_left c.next.new.self) left both.0 both.1 same in
    IfOk-weaker c.into_owned.result _ _ (λ s e. e ∙ sym found ∙ ap pair_text c.loop-pair.invariant) c.into_owned.ensures.ok

pub returns : goal.returns
unfolding query_text
returns c =
    c.new.ensures.bytes ∙ sym (find-none (pairs_left c.loop-pair.pair-iterator) c.in-None.ensures.steps.0)
    ∙ ap pair_text c.loop-pair.invariant
