use Rattle.store_kv.specs.Draft.{tables_of}
use Rattle.query_plan.specs.paths.Branches.{branch_records}
use Rattle.query_exec.specs.Seen.{seen_record}
use Rattle.std.proofs.Common.{[]}
use Rattle.query_related.proofs.Relating.{row_seen}
use Rattle.query_related.proofs.relatives.PlanRelativesRelatives.parents_of.Goals as goal

pub returns-clause-finds : goal.returns-clause-finds
returns-clause-finds g c told =
    row_seen c.args._layout.now c.args.self.now.layouts.now (g.R.Rights.whose c.args.self.now.rights.now) (seen_record c.args.item.now) (λ a r. branch_records a r [] c.args.self.now.branches.now)
    (tables_of g.K.Keeper.state c.args.draft.now) c.records_of_branches.result (c.records_of_branches.ensures.finds told)
