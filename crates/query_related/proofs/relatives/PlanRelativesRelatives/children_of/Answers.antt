use Rattle.std.proofs.Common.{map}
use Rattle.query_plan.specs.Plans.{children_by}
use Rattle.query_exec.specs.Seen.{seen_record}
use Rattle.store_kv.specs.Draft.{tables_of}
use Rattle.query_related.proofs.Relating.{target_seen}
use Rattle.query_related.proofs.relatives.PlanRelativesRelatives.children_of.Goals as goal

pub returns-clause-finds : goal.returns-clause-finds
returns-clause-finds g c told =
    target_seen c.args._layout.now c.args.self.now.layouts.now (g.R.Rights.whose c.args.self.now.rights.now) (seen_record c.args.item.now) (λ a r. map (children_by a r) c.args.self.now.children.now)
    (tables_of g.K.Keeper.state c.args.draft.now) c.id-target.result c.id-target.ensures c.all_children.result (c.all_children.ensures.finds told)
