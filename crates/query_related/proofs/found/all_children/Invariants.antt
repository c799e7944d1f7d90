use Rattle.query_related.proofs.Subqueries.{UnderWay}
use Rattle.query_related.proofs.found.all_children.Given as goal

abbrev pub invariant-loop-plan : goal.invariant-loop-plan
invariant-loop-plan g l = UnderWay g.K.Keeper.state l.fn.layouts (g.R.Rights.whose l.fn.rights) l.fn.target l.fn.plans l.fn.draft l.plan-index l.all l.draft
