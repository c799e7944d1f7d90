use Rattle.std.proofs.Common.{Some, take}
use Rattle.store_kv.specs.Draft.{DraftTells, tables_of}
use Rattle.model.specs.Tenant.{Tenant}
use Rattle.store_abstraction.specs.Calls.{Calls, done}
use Rattle.store_abstraction.specs.Local.{StandsIn}
use Rattle.store_abstraction.specs.Plan.{OrgPlan}
use Rattle.cmd_load_row.specs.inner.Parents.{AllFound}
use Rattle.cmd_load_row.proofs.parents.parents_by.Given as goal

abbrev pub invariant-loop-x : goal.invariant-loop-x
invariant-loop-x g l = record {
  calls : Calls g.K.Keeper.state 0 done l.fn.draft l.draft;
  found : DraftTells g.K.Keeper.state l.fn.draft l.draft → (q : OrgPlan) (t : Tenant) → StandsIn l.layout.org q (tables_of g.K.Keeper.state l.fn.draft) (Some t) → AllFound t l.layout l.parents (take l.x-index l.given);
}
