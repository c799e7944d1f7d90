use Rattle.std.proofs.Common.{rules, arith, ◌≢◌, ◌∷◌, [], sym, ◌∙◌}
use Rattle.std.proofs.lemmas.Result.{err_from_is_err_and}
use Rattle.base_grammar.specs.Reader.{with_front, after}
use Rattle.base_grammar.proofs.Lists.{any-ends, any-turn, any_fails, fails_by}
use Rattle.formula.specs.grammar.Reading.{more_formulas, nested}
use Rattle.formula.specs.grammar.Signs.{kind}
use Rattle.formula_parser.proofs.Lists.{another_takes, nested-suc, nested-zero}
use Rattle.formula_parser.proofs.reader.+formulas.Goals as goal

pub more_formulas-returns-in_err-found-clause-value : goal.more_formulas-returns-in_err-found-clause-value
unfolding more_formulas
more_formulas-returns-in_err-found-clause-value t c =
    let p = err_from_is_err_and c.from_residual.result c.from_residual.ensures.1 in
    let e = c.in_err-found.field-0.0 in
    let failed = any_fails kind (16 ∷ []) (after kind 16 (nested c.args.levels)) (another_takes c.args.levels) c.formulas.all c.formulas.rest.now e (search rules) c.in_err-found.ensures.value in
    rw (p.1, p.2) (fails_by e (with_front c.formulas.all (more_formulas (nested c.args.levels) c.formulas.rest.now)) (with_front c.args.all (more_formulas (nested c.args.levels) c.args.signs.now)) c.formulas.invariant.same failed)

pub more_formulas-formulas-preserved : goal.more_formulas-formulas-preserved
unfolding more_formulas
more_formulas-formulas-preserved t c =
    let turn = any-turn kind (16 ∷ []) (after kind 16 (nested c.args.levels)) (another_takes c.args.levels) c.formulas.all c.formulas.rest.now c.in_ok-found.more.now c.in_ok-found.found (search rules) (search rules) in
    record { same = rw c.in_ok-push.ensures.ok (sym turn ∙ c.formulas.invariant.same); shorter = omega (arith, c.in_ok-found.ensures.shorter, c.formulas.invariant.shorter) }

pub more_formulas-returns-clause-value : goal.more_formulas-returns-clause-value
unfolding more_formulas
more_formulas-returns-clause-value t c =
    sym c.formulas.invariant.same ∙ any-ends kind (16 ∷ []) (after kind 16 (nested c.args.levels)) (another_takes c.args.levels) c.formulas.all c.formulas.rest.now (search rules)

pub nested-returns-then-levels-eq0-clause-value : goal.nested-returns-then-levels-eq0-clause-value
nested-returns-then-levels-eq0-clause-value t c =
    rw (← nested-zero c.args.levels c.args.signs.now c.if-levels-eq0.true) c.plain.ensures.value

pub nested-returns-clause-value : goal.nested-returns-clause-value
nested-returns-clause-value t c =
    let some : c.args.levels ≢ 0 = omega arith in
    rw (← nested-suc c.args.levels c.args.signs.now some) c.formula_over.ensures.value
