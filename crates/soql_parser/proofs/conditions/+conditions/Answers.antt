use Rattle.std.proofs.Common.{rules, arith, ◌≢◌, ◌∷◌, [], sym, ◌∙◌}
use Rattle.std.proofs.lemmas.Result.{err_from_is_err_and}
use Rattle.base_grammar.specs.Reader.{with_front, after}
use Rattle.base_grammar.proofs.Lists.{any-ends, any-turn, any_fails, fails_by}
use Rattle.soql.specs.grammar.Readers.{more_units, unit}
use Rattle.soql.specs.grammar.Signs.{kind, number}
use Rattle.soql_parser.proofs.Lists.{another_takes, unit-suc, unit-zero}
use Rattle.soql_parser.proofs.conditions.+conditions.Goals as goal

pub more_units-returns-in_err-found-clause-value : goal.more_units-returns-in_err-found-clause-value
unfolding more_units
more_units-returns-in_err-found-clause-value t c =
    let p = err_from_is_err_and c.from_residual.result c.from_residual.ensures.1 in
    let e = c.in_err-found.field-0.0 in
    let failed = any_fails kind ((number c.args.word) ∷ []) (after kind (number c.args.word) (unit c.args.levels)) (another_takes (number c.args.word) c.args.levels) c.units.all c.units.rest.now e (search rules) c.in_err-found.ensures.value in
    rw (p.1, p.2) (fails_by e (with_front c.units.all (more_units (unit c.args.levels) (number c.args.word) c.units.rest.now)) (with_front c.args.all (more_units (unit c.args.levels) (number c.args.word) c.args.signs.now)) c.units.invariant.same failed)

pub more_units-units-preserved : goal.more_units-units-preserved
unfolding more_units
more_units-units-preserved t c =
    let turn = any-turn kind ((number c.args.word) ∷ []) (after kind (number c.args.word) (unit c.args.levels)) (another_takes (number c.args.word) c.args.levels) c.units.all c.units.rest.now c.in_ok-found.more.now c.in_ok-found.found (search rules) (search rules) in
    record { same = rw c.in_ok-push.ensures.ok (sym turn ∙ c.units.invariant.same); shorter = omega (arith, c.in_ok-found.ensures.shorter, c.units.invariant.shorter) }

pub more_units-returns-clause-value : goal.more_units-returns-clause-value
unfolding more_units
more_units-returns-clause-value t c =
    sym c.units.invariant.same ∙ any-ends kind ((number c.args.word) ∷ []) (after kind (number c.args.word) (unit c.args.levels)) (another_takes (number c.args.word) c.args.levels) c.units.all c.units.rest.now (search rules)

pub unit-returns-then-levels-eq0-clause-value : goal.unit-returns-then-levels-eq0-clause-value
unit-returns-then-levels-eq0-clause-value t c =
    rw (← unit-zero c.args.levels c.args.signs.now c.if-levels-eq0.true) c.of_path.ensures.value

pub unit-returns-clause-value : goal.unit-returns-clause-value
unit-returns-clause-value t c =
    let some : c.args.levels ≢ 0 = omega arith in
    rw (← unit-suc c.args.levels c.args.signs.now some) c.inner.ensures.value
