use Rattle.std.proofs.Common.{◌∷◌, [], Some, arith, rules, sym, ◌∙◌, ap, append-nil}
use Rattle.std.specs.Str.{chars}
use Rattle.std.specs.String.{string_bytes}
use Rattle.std.proofs.lemmas.Str.{chars-nil, IsUtf8-string_bytes}
use Rattle.std.proofs.lemmas.Result.{err_from_is_err_and}
use Rattle.base_json.specs.Reading.{character_turn, content}
use Rattle.base_json.specs.Turns.{turn_by}
use Rattle.base_json.proofs.Repeats.{turn_fails, turn_ends, turn_goes, with_front-nil}
use Rattle.base_json.proofs.Shrinks.{character_takes}
use Rattle.base_json.proofs.Fails.{fails, chars_pushed}
use Rattle.base_json.proofs.quoted.content.Goals as goal

pub turns-init : goal.turns-init
turns-init c = record { utf8 = search rules; same = rw (c.new-content.ensures.bytes, chars-nil) (with_front-nil _); shorter = omega arith }

pub returns-in_err-next-clause-value : goal.returns-in_err-next-clause-value
unfolding content
returns-in_err-next-clause-value c =
    let p = err_from_is_err_and c.from_residual.result c.from_residual.ensures.1 in
    rw (p.1, p.2) (fails c.in_err-next.field-0.0 _ _
    (λ none. turn_fails character_turn character_takes (chars (string_bytes c.turns.content)) (chars c.turns.rest.now) _ none c.turns.invariant.same)
    c.in_err-next.ensures.value)

pub turns-preserved : goal.turns-preserved
turns-preserved c =
    let turn = c.in_ok-next.ensures.value ∙ ap (λ next. Some (turn_by next (chars c.in_ok-next.after.now))) c.in-Some.is in
    let text = chars_pushed (string_bytes c.turns.content) (string_bytes c.push.new.self) c.in-Some.c (IsUtf8-string_bytes c.turns.content) (IsUtf8-string_bytes c.push.new.self) c.in_ok-push-in-Some.ensures.bytes in
    record {
      utf8 = search rules;
      same = rw text (turn_goes character_turn character_takes (chars (string_bytes c.turns.content)) (chars c.turns.rest.now) (chars c.in_ok-next.after.now) (c.in-Some.c ∷ []) _ turn c.turns.invariant.same);
      shorter = omega (arith, c.in_ok-next.ensures.shorter, c.turns.invariant.shorter);
    }

pub returns-in-None-clause-value : goal.returns-in-None-clause-value
unfolding content
returns-in-None-clause-value c =
    let turn = c.in_ok-next.ensures.value ∙ ap (λ next. Some (turn_by next (chars c.in_ok-next.after.now))) c.in-None.is in
    turn_ends character_turn character_takes (chars (string_bytes c.turns.content)) (chars c.turns.rest.now) (chars c.in_ok-next.after.now) [] _ turn c.turns.invariant.same
    ∙ ap (λ cs. Some (cs, (chars c.in_ok-next.after.now))) (append-nil (chars (string_bytes c.turns.content)) ∙ sym c.from_string.ensures)
