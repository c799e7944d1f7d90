use Rattle.std.proofs.Common.{rules, arith, ◌∷◌, [], sym, ◌∙◌}
use Rattle.std.proofs.lemmas.Result.{err_from_is_err_and}
use Rattle.base_grammar.specs.Reader.{with_front, after}
use Rattle.base_grammar.proofs.Lists.{any-ends, any-turn, any_fails, fails_by}
use Rattle.soql.specs.grammar.Readers.{more_paths, path}
use Rattle.soql.specs.grammar.Signs.{kind}
use Rattle.soql_parser.proofs.Lists.{path_takes}
use Rattle.soql_parser.proofs.items.more_paths.Goals as goal

pub returns-in_err-found-clause-value : goal.returns-in_err-found-clause-value
unfolding more_paths
returns-in_err-found-clause-value c =
    let p = err_from_is_err_and c.from_residual.result c.from_residual.ensures.1 in
    let e = c.in_err-found.field-0.0 in
    let failed = any_fails kind (28 ∷ []) (after kind 28 path) path_takes c.items.all c.items.rest.now e (search rules) c.in_err-found.ensures.value in
    rw (p.1, p.2) (fails_by e (with_front c.items.all (more_paths c.items.rest.now)) (with_front c.args.all (more_paths c.args.signs.now)) c.items.invariant.same failed)

pub items-preserved : goal.items-preserved
unfolding more_paths
items-preserved c =
    let turn = any-turn kind (28 ∷ []) (after kind 28 path) path_takes c.items.all c.items.rest.now c.in_ok-found.more.now c.in_ok-found.found (search rules) (search rules) in
    record { same = rw c.in_ok-push.ensures.ok (sym turn ∙ c.items.invariant.same); shorter = omega (arith, c.in_ok-found.ensures.shorter, c.items.invariant.shorter) }

pub returns-clause-value : goal.returns-clause-value
unfolding more_paths
returns-clause-value c = sym c.items.invariant.same ∙ any-ends kind (28 ∷ []) (after kind 28 path) path_takes c.items.all c.items.rest.now (search rules)
