use Rattle.std.proofs.Common.{subst}
use Rattle.std.specs.Prelude.{Ok}
use Rattle.query_plan.specs.Plans.{children_by}
use Rattle.query_plan.specs.declared.plan.ChildPlan.{ChildPlan}
use Rattle.store_kv.specs.Draft.{tables_of}
use Rattle.access_traits.specs.Rights.{Whose}
use Rattle.store_abstraction.specs.Calls.{Calls, done}
use Rattle.query_related.specs.Children.{FindsOfTarget, subquery_shown}
use Rattle.query_related.proofs.Subqueries.{ends, goes_on}
use Rattle.query_related.proofs.found.all_children.Goals as goal

pub loop-plan-preserved : goal.loop-plan-preserved
loop-plan-preserved g c =
    let state = g.K.Keeper.state in
    let b = c.loop-plan.draft in
    let d = c.found_children.new.draft in
    let layouts = c.args.layouts.now in
    let whose : Whose = g.R.Rights.whose c.args.rights.now in
    let id = c.args.target.now in
    let found = c.in_ok-found.found in
    goes_on state layouts whose id c.args.plans.now c.args.draft.now c.draft_laws.ensures.both c.call_laws.ensures.then c.loop-plan.plan-index c.loop-plan.all b c.loop-plan.invariant c.plan-item.result c.loop-plan-test.true
    d found (λ told. subst (λ (p : ChildPlan). FindsOfTarget layouts whose id (λ w r. children_by w r p) (tables_of state b) (Ok found)) c.plan-item.is (c.in_ok-found.ensures.finds told))
    (subst (λ (p : ChildPlan). Calls state (subquery_shown p) done b d) c.plan-item.is c.in_ok-found.ensures.calls) c.push.new.self c.in_ok-push.ensures.ok

pub returns-clause-finds : goal.returns-clause-finds
returns-clause-finds g c told =
    ends g.K.Keeper.state c.args.layouts.now (g.R.Rights.whose c.args.rights.now) c.args.target.now c.args.plans.now c.args.draft.now c.loop-plan.plan-index c.loop-plan-test.false c.loop-plan.all c.loop-plan.draft c.loop-plan.invariant told
