use Rattle.std.proofs.Common.{◌≡◌, ◌*◌, [], drop}
use Rattle.store_kv.specs.Draft.{DraftTells, tables_of}
use Rattle.store_abstraction.specs.Calls.{Calls, done}
use Rattle.query_plan.specs.paths.Branches.{branch_records}
use Rattle.query_related.specs.parents.Branches.{OfRow}
use Rattle.query_related.proofs.parents.branches.records_of_branches.Given as goal

abbrev pub invariant-loop-branch : goal.invariant-loop-branch
invariant-loop-branch g l = record {
  calls : Calls g.K.Keeper.state (5 * l.branch-index) done l.fn.draft l.draft;
  found : DraftTells g.K.Keeper.state l.fn.draft l.draft → OfRow l.fn.layouts (g.R.Rights.whose l.fn.rights) (g.V.HasValues.its_record l.fn.item) (tables_of g.K.Keeper.state l.fn.draft)
      (λ a r. branch_records a r l.records (drop l.branch-index l.branches) ≡ branch_records a r [] l.branches);
}
