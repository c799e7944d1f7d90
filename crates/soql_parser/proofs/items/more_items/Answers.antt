use Rattle.std.proofs.Common.{rules, arith, ap, sym, ◌∙◌, ◌∷◌, [], ◌++◌}
use Rattle.std.proofs.lemmas.Result.{err_from_is_err_and}
use Rattle.base_grammar.specs.Reader.{with_front}
use Rattle.base_grammar.proofs.Lists.{fails_by}
use Rattle.soql.specs.grammar.Readers.{more_items}
use Rattle.soql_parser.proofs.Lists.{items-ends, items-turn, items_fails}
use Rattle.soql_parser.proofs.items.more_items.Goals as goal

pub returns-in_err-found-clause-value : goal.returns-in_err-found-clause-value
returns-in_err-found-clause-value c =
    let p = err_from_is_err_and c.from_residual.result c.from_residual.ensures.1 in
    let e = c.in_err-found.field-0.0 in
    let failed = items_fails c.items.left c.items.all c.items.rest.now e (search rules) c.in_err-found.ensures.value in
    rw (p.1, p.2) (fails_by e (with_front c.items.all (more_items c.items.left c.items.rest.now)) (with_front c.args.all (more_items c.args.children c.args.signs.now)) c.items.invariant.same failed)

pub items-preserved : goal.items-preserved
items-preserved c =
    let turn = items-turn c.items.left c.items.all c.items.rest.now c.in_ok-found.more.now c.in_ok-found.found (search rules) (search rules) in
    let next = ap (λ n. with_front (c.items.all ++ c.in_ok-found.found ∷ []) (more_items n c.in_ok-found.more.now)) c.left_behind-left.ensures in
    record { same = rw c.in_ok-push.ensures.ok (next ∙ sym turn ∙ c.items.invariant.same); shorter = omega (arith, c.in_ok-found.ensures.shorter, c.items.invariant.shorter) }

pub returns-clause-value : goal.returns-clause-value
returns-clause-value c = sym c.items.invariant.same ∙ items-ends c.items.left c.items.all c.items.rest.now (search rules)
