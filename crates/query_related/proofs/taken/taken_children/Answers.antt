use Rattle.std.proofs.Common.{◌+◌, ◌*◌, List, length, refl, subst, sym}
use Rattle.base_lemmas.proofs.Results.{err_from_IsErrAnd as returned}
use Rattle.store_rows.specs.declared.fail.StoreFail.TheVariants.{Memory}
use Rattle.access_traits.specs.Rights.{Whose}
use Rattle.store_abstraction.specs.Calls.{Calls, done, ended, ended_by, stopped}
use Rattle.query_related.specs.inner.Taken.{RankedChild}
use Rattle.query_related.proofs.Taking.{UnderWay, begins, failed, goes_on, not_fallen, wider, within}
use Rattle.query_related.proofs.taken.taken_children.Goals as goal

pub records-init : goal.records-init
records-init g c =
    let state = g.K.Keeper.state in
    let a = c.args.draft.now in
    let layouts = c.args.layouts.now in
    let whose : Whose = g.R.Rights.whose c.args.rights.now in
    let choice = c.args.choice.now in
    let records = c.args.records in
    let each = 5 * length choice.branches in
    subst (λ (xs : List RankedChild). UnderWay state layouts whose choice records each a records xs a) (sym c.new-gathered.ensures.items)
    (begins state layouts whose choice records each a (c.call_laws.ensures.none done a refl))

pub records-preserved : goal.records-preserved
records-preserved g c =
    let state = g.K.Keeper.state in
    let a = c.args.draft.now in
    let b = c.records.draft in
    let d = c.ranked_child.new.draft in
    let layouts = c.args.layouts.now in
    let whose : Whose = g.R.Rights.whose c.args.rights.now in
    let choice = c.args.choice.now in
    let records = c.args.records in
    let each = 5 * length choice.branches in
    goes_on state layouts whose choice records each a c.draft_laws.ensures.both c.call_laws.ensures.then c.records.records c.pop.new.self c.in-Some.item c.in-Some.ensures c.records.gathered.items b c.records.invariant
    d c.in_ok-found.found c.in_ok-found.ensures.finds c.in_ok-found.ensures.calls c.add_found.new.gathered.items c.in_ok-add_found.ensures

pub returns-in_err-found-clause-finds : goal.returns-in_err-found-clause-finds
returns-in_err-found-clause-finds g c told =
    let state = g.K.Keeper.state in
    let a = c.args.draft.now in
    let b = c.records.draft in
    let d = c.ranked_child.new.draft in
    let layouts = c.args.layouts.now in
    let whose : Whose = g.R.Rights.whose c.args.rights.now in
    let choice = c.args.choice.now in
    let records = c.args.records in
    let each = 5 * length choice.branches in
    let fail = c.in_err-found.field-0.0 in
    failed state layouts whose choice records each a c.draft_laws.ensures.both c.call_laws.ensures.then c.records.records c.pop.new.self c.in-Some.item c.in-Some.ensures c.records.gathered.items b c.records.invariant
    c.from_residual.result d fail (returned c.from_residual.result fail c.from_residual.ensures.1) c.in_err-found.ensures.finds c.in_err-found.ensures.calls told

pub returns-in_err-found-clause-calls : goal.returns-in_err-found-clause-calls
returns-in_err-found-clause-calls g c =
    let state = g.K.Keeper.state in
    let a = c.args.draft.now in
    let b = c.records.draft in
    let d = c.ranked_child.new.draft in
    let layouts = c.args.layouts.now in
    let whose : Whose = g.R.Rights.whose c.args.rights.now in
    let choice = c.args.choice.now in
    let records = c.args.records in
    let each = 5 * length choice.branches in
    let fail = c.in_err-found.field-0.0 in
    let u = c.records.invariant in
    subst (λ r. Calls state (length records * each) (ended r) a d) (sym (returned c.from_residual.result fail c.from_residual.ensures.1))
    (wider state c.draft_laws.ensures.reads_most (length u.seen * each + each) (length records * each) (ended_by fail) a d
    (within state layouts whose choice records each a c.draft_laws.ensures.both c.call_laws.ensures.then c.records.records c.pop.new.self c.in-Some.item c.in-Some.ensures c.records.gathered.items b u)
    (c.call_laws.ensures.then (length u.seen * each) each (ended_by fail) a b d u.calls c.in_err-found.ensures.calls))

pub returns-in_err-add_found-clause-calls : goal.returns-in_err-add_found-clause-calls
returns-in_err-add_found-clause-calls g c =
    let state = g.K.Keeper.state in
    let a = c.args.draft.now in
    let b = c.records.draft in
    let d = c.ranked_child.new.draft in
    let layouts = c.args.layouts.now in
    let whose : Whose = g.R.Rights.whose c.args.rights.now in
    let choice = c.args.choice.now in
    let records = c.args.records in
    let each = 5 * length choice.branches in
    let u = c.records.invariant in
    let result = c.from_residual-in_err-add_found.result in
    let all = wider state c.draft_laws.ensures.reads_most (length u.seen * each + each) (length records * each) done a d
    (within state layouts whose choice records each a c.draft_laws.ensures.both c.call_laws.ensures.then c.records.records c.pop.new.self c.in-Some.item c.in-Some.ensures c.records.gathered.items b u)
    (c.call_laws.ensures.then (length u.seen * each) each done a b d u.calls c.in_ok-found.ensures.calls) in
    subst (λ r. Calls state (length records * each) (ended r) a d) (sym (returned result Memory c.from_residual-in_err-add_found.ensures.1))
    (c.call_laws.ensures.weaker (length records * each) stopped a d not_fallen all)
