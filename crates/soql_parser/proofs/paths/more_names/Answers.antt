use Rattle.std.proofs.Common.{rules, arith, ◌<◌, ◌∷◌, [], sym, ◌∙◌}
use Rattle.std.proofs.lemmas.Result.{err_from_is_err_and}
use Rattle.base_grammar.specs.Reader.{with_front, after}
use Rattle.base_grammar.proofs.Lists.{list-ends, list-full, list-turn, list_fails, fails_by}
use Rattle.soql.specs.grammar.Readers.{more_names, name}
use Rattle.soql.specs.grammar.Signs.{kind}
use Rattle.soql_parser.proofs.Lists.{name_takes}
use Rattle.soql_parser.proofs.paths.more_names.Goals as goal

pub returns-then-left-eq0-clause-value : goal.returns-then-left-eq0-clause-value
unfolding more_names
returns-then-left-eq0-clause-value c =
    let none = c.if-left-eq0.true in
    sym c.items.invariant.same ∙ (rw none (list-full kind (29 ∷ []) (after kind 29 name) name_takes c.items.all c.items.rest.now (search rules)))

pub returns-in_err-found-clause-value : goal.returns-in_err-found-clause-value
unfolding more_names
returns-in_err-found-clause-value c =
    let p = err_from_is_err_and c.from_residual.result c.from_residual.ensures.1 in
    let e = c.in_err-found.field-0.0 in
    let pos : 0 < c.items.left = omega arith in
    let failed = list_fails kind (29 ∷ []) (after kind 29 name) name_takes c.items.left c.items.all c.items.rest.now e (search rules) pos c.in_err-found.ensures.value in
    rw (p.1, p.2) (fails_by e (with_front c.items.all (more_names c.items.left c.items.rest.now)) (with_front c.args.all (more_names 5 c.args.signs.now)) c.items.invariant.same failed)

pub items-preserved : goal.items-preserved
unfolding more_names
items-preserved c =
    let pos : 0 < c.items.left = omega arith in
    let turn = list-turn kind (29 ∷ []) (after kind 29 name) name_takes c.items.left c.items.all c.items.rest.now c.in_ok-found.more.now c.in_ok-found.found (search rules) pos (search rules) in
    record { same = rw c.in_ok-push.ensures.ok (sym turn ∙ c.items.invariant.same); shorter = omega (arith, c.in_ok-found.ensures.shorter, c.items.invariant.shorter) }

pub returns-clause-value : goal.returns-clause-value
unfolding more_names
returns-clause-value c = sym c.items.invariant.same ∙ list-ends kind (29 ∷ []) (after kind 29 name) name_takes c.items.left c.items.all c.items.rest.now (search rules)
