use Rattle.std.proofs.Common.{subst, sym}
use Rattle.base_lemmas.proofs.Results.{err_from_IsErrAnd as returned}
use Rattle.query_plan.specs.Plans.{children_by}
use Rattle.store_kv.specs.Draft.{tables_of}
use Rattle.access_traits.specs.Rights.{Whose}
use Rattle.query_related.specs.Children.{FindsOfTarget}
use Rattle.query_related.proofs.Subqueries.{chosen, untaken}
use Rattle.query_related.proofs.found.found_children.Goals as goal

pub returns-in_err-taken-clause-finds : goal.returns-in_err-taken-clause-finds
returns-in_err-taken-clause-finds g c told =
    let state = g.K.Keeper.state in
    let a = c.args.draft.now in
    let b = c.those_referring.new.draft in
    let d = c.taken_children.new.draft in
    let layouts = c.args.layouts.now in
    let whose : Whose = g.R.Rights.whose c.args.rights.now in
    let p = c.args.plan.now in
    let id = c.args.target.now in
    let fail = c.in_err-taken.field-0.0 in
    let tell = c.draft_laws.ensures.both _ _ a b d c.in_ok-records.ensures.calls.reads c.in_err-taken.ensures.calls.reads told in
    subst (λ r. FindsOfTarget layouts whose id (λ w s. children_by w s p) (tables_of state a) r) (sym (returned c.from_residual-in_err-taken.result fail c.from_residual-in_err-taken.ensures.1))
    (untaken layouts whose p id (tables_of state a) c.in_ok-records.records (c.in_ok-records.ensures.finds tell.0) (tables_of state b) tell.2 c.taken_children.result fail c.in_err-taken.was (c.taken_children.ensures.finds tell.1))

pub returns-clause-finds : goal.returns-clause-finds
returns-clause-finds g c told =
    let state = g.K.Keeper.state in
    let a = c.args.draft.now in
    let b = c.those_referring.new.draft in
    let d = c.taken_children.new.draft in
    let layouts = c.args.layouts.now in
    let whose : Whose = g.R.Rights.whose c.args.rights.now in
    let p = c.args.plan.now in
    let id = c.args.target.now in
    let tell = c.draft_laws.ensures.both _ _ a b d c.in_ok-records.ensures.calls.reads c.in_ok-taken.ensures.calls.reads told in
    chosen layouts whose p id (tables_of state a) c.in_ok-records.records (c.in_ok-records.ensures.finds tell.0) (tables_of state b) tell.2
    c.record_laws.ensures.rise c.rank_laws.ensures.order c.in_ok-taken.taken (c.in_ok-taken.ensures.finds tell.1) c.in_ok-children.children c.in_ok-children.ensures
