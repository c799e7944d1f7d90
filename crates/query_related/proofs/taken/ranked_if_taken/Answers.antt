use Rattle.std.proofs.Common.{refl, subst, sym}
use Rattle.base_lemmas.proofs.Results.{err_from_IsErrAnd as returned}
use Rattle.query_plan.specs.Checks.{takes}
use Rattle.query_plan.specs.Given.{GivesJust}
use Rattle.query_plan.specs.order.Ranks.{rank_by}
use Rattle.query_related.specs.inner.Taken.{ranked_if}
use Rattle.query_related.proofs.Taking.{given_err}
use Rattle.query_related.proofs.taken.ranked_if_taken.Goals as goal

pub returns-in_err-check_holds : goal.returns-in_err-check_holds
returns-in_err-check_holds c =
    let fail = c.in_err-check_holds.field-0.0 in
    let far = c.args.parents in
    subst (GivesJust (ranked_if c.args.choice.now far c.args.item)) (sym (returned c.from_residual.result fail c.from_residual.ensures.1))
    (given_err (takes c.args.choice.now.check c.as_slice.result.now c.args.item) (ranked_if c.args.choice.now far c.args.item) fail (c.in_err-check_holds.ensures c.args.item refl))

pub returns-in_err-rank : goal.returns-in_err-rank
returns-in_err-rank c =
    let fail = c.in_err-rank.field-0.0 in
    let far = c.args.parents in
    subst (GivesJust (ranked_if c.args.choice.now far c.args.item)) (sym (returned c.from_residual-in_err-rank.result fail c.from_residual-in_err-rank.ensures.1))
    (given_err (rank_by c.as_slice-2.result.now c.as_slice-3.result.now c.args.item) (ranked_if c.args.choice.now far c.args.item) fail (c.in_err-rank.ensures c.args.item refl))
