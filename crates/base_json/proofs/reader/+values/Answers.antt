use Rattle.std.proofs.Common.{◌∷◌, [], Some, arith, rules, refl, sym, ◌∙◌, ap}
use Rattle.std.proofs.lemmas.Result.{err_from_is_err_and}
use Rattle.std.specs.Str.{chars}
use Rattle.base_json.specs.Reading.{item_turn, element, pair, value}
use Rattle.base_json.proofs.Repeats.{turn_fails, turn_ends, turn_goes}
use Rattle.base_json.proofs.Shorter.{item_takes, element_shrinks, pair_shrinks, value_shrinks}
use Rattle.base_json.proofs.Levels.{value_is, lists_is, objects_is}
use Rattle.base_json.proofs.Fails.{fails}
use Rattle.base_json.proofs.reader.+values.Goals as goal

pub items-returns-in_err-item-clause-value : goal.items-returns-in_err-item-clause-value
items-returns-in_err-item-clause-value t c =
    let p = err_from_is_err_and c.from_residual.result c.from_residual.ensures.1 in
    rw (p.1, p.2) (fails c.in_err-item.field-0.0 _ _
    (λ none. turn_fails (item_turn (element (value c.args.levels)) 93) (item_takes (element (value c.args.levels)) 93 (element_shrinks (value c.args.levels) (value_shrinks c.args.levels))) c.turns.items (chars c.turns.rest.now) _ none c.turns.invariant.same)
    c.in_err-item.ensures.value)

pub items-returns-then-not-more-clause-value : goal.items-returns-then-not-more-clause-value
items-returns-then-not-more-clause-value t c =
    let turn = c.in_ok-item.ensures.value ∙ ap (λ more. Some (c.in_ok-item.item ∷ [], more, (chars c.in_ok-item.after.now))) c.if-not-more.true in
    turn_ends (item_turn (element (value c.args.levels)) 93) (item_takes (element (value c.args.levels)) 93 (element_shrinks (value c.args.levels) (value_shrinks c.args.levels))) c.turns.items (chars c.turns.rest.now) (chars c.in_ok-item.after.now) (c.in_ok-item.item ∷ []) _ turn c.turns.invariant.same
    ∙ ap (λ xs. Some (xs, (chars c.in_ok-item.after.now))) (sym c.in_ok-push.ensures.ok)

pub items-turns-preserved : goal.items-turns-preserved
items-turns-preserved t c =
    let turn = c.in_ok-item.ensures.value ∙ ap (λ more. Some (c.in_ok-item.item ∷ [], more, (chars c.in_ok-item.after.now))) c.if-not-more.false in
    record {
      utf8 = search rules;
      same = rw c.in_ok-push.ensures.ok (turn_goes (item_turn (element (value c.args.levels)) 93) (item_takes (element (value c.args.levels)) 93 (element_shrinks (value c.args.levels) (value_shrinks c.args.levels))) c.turns.items (chars c.turns.rest.now) (chars c.in_ok-item.after.now) (c.in_ok-item.item ∷ []) _ turn c.turns.invariant.same);
      shorter = omega (arith, c.in_ok-item.ensures.shorter, c.turns.invariant.shorter);
    }

pub members-returns-in_err-member-clause-value : goal.members-returns-in_err-member-clause-value
members-returns-in_err-member-clause-value t c =
    let p = err_from_is_err_and c.from_residual.result c.from_residual.ensures.1 in
    rw (p.1, p.2) (fails c.in_err-member.field-0.0 _ _
    (λ none. turn_fails (item_turn (pair (value c.args.levels)) 125) (item_takes (pair (value c.args.levels)) 125 (pair_shrinks (value c.args.levels) (value_shrinks c.args.levels))) c.turns.members (chars c.turns.rest.now) _ none c.turns.invariant.same)
    c.in_err-member.ensures.value)

pub members-returns-then-not-more-clause-value : goal.members-returns-then-not-more-clause-value
members-returns-then-not-more-clause-value t c =
    let turn = c.in_ok-member.ensures.value ∙ ap (λ more. Some (c.in_ok-member.member ∷ [], more, (chars c.in_ok-member.after.now))) c.if-not-more.true in
    turn_ends (item_turn (pair (value c.args.levels)) 125) (item_takes (pair (value c.args.levels)) 125 (pair_shrinks (value c.args.levels) (value_shrinks c.args.levels))) c.turns.members (chars c.turns.rest.now) (chars c.in_ok-member.after.now) (c.in_ok-member.member ∷ []) _ turn c.turns.invariant.same
    ∙ ap (λ xs. Some (xs, (chars c.in_ok-member.after.now))) (sym c.in_ok-push.ensures.ok)

pub members-turns-preserved : goal.members-turns-preserved
members-turns-preserved t c =
    let turn = c.in_ok-member.ensures.value ∙ ap (λ more. Some (c.in_ok-member.member ∷ [], more, (chars c.in_ok-member.after.now))) c.if-not-more.false in
    record {
      utf8 = search rules;
      same = rw c.in_ok-push.ensures.ok (turn_goes (item_turn (pair (value c.args.levels)) 125) (item_takes (pair (value c.args.levels)) 125 (pair_shrinks (value c.args.levels) (value_shrinks c.args.levels))) c.turns.members (chars c.turns.rest.now) (chars c.in_ok-member.after.now) (c.in_ok-member.member ∷ []) _ turn c.turns.invariant.same);
      shorter = omega (arith, c.in_ok-member.ensures.shorter, c.turns.invariant.shorter);
    }

pub list-returns-in-Some-clause-value : goal.list-returns-in-Some-clause-value
list-returns-in-Some-clause-value t c =
    rw (lists_is c.args.levels (chars c.args.text.now) c.if-levels-eq0.false, ← c.after_spaces.ensures.value, c.in-Some.ensures.value, c.new.ensures) refl

pub list-returns-in-None-clause-value : goal.list-returns-in-None-clause-value
list-returns-in-None-clause-value t c =
    rw (lists_is c.args.levels (chars c.args.text.now) c.if-levels-eq0.false, ← c.after_spaces.ensures.value, c.in-None.ensures.value) c.items.ensures.value

pub object-returns-in-Some-clause-value : goal.object-returns-in-Some-clause-value
object-returns-in-Some-clause-value t c =
    rw (objects_is c.args.levels (chars c.args.text.now) c.if-levels-eq0.false, ← c.after_spaces.ensures.value, c.in-Some.ensures.value, c.new.ensures) refl

pub object-returns-in-None-clause-value : goal.object-returns-in-None-clause-value
object-returns-in-None-clause-value t c =
    rw (objects_is c.args.levels (chars c.args.text.now) c.if-levels-eq0.false, ← c.after_spaces.ensures.value, c.in-None.ensures.value) c.members.ensures.value

pub value-returns-clause-value : goal.value-returns-clause-value
value-returns-clause-value t c = rw (← value_is c.args.levels (chars c.args.text.now)) c.value_here.ensures.value
