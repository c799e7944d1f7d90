use Rattle.std.proofs.Common.{◌≡◌, Option}
use Rattle.store_kv.specs.Draft.{DraftTells, tables_of}
use Rattle.model.specs.Tenant.{Tenant}
use Rattle.store_abstraction.specs.Calls.{Calls, done}
use Rattle.store_abstraction.specs.inner.LayoutRows.{layouts_by}
use Rattle.store_abstraction.specs.Local.{StandsIn}
use Rattle.store_abstraction.specs.Plan.{OrgPlan}
use Rattle.store_abstraction.proofs.layout_reads.layouts_of_rows.Given as goal

abbrev pub invariant-loop-row : goal.invariant-loop-row
invariant-loop-row g l = record {
  calls : Calls g.K.Keeper.state 0 done l.fn.draft l.draft;
  found : DraftTells g.K.Keeper.state l.fn.draft l.draft → (q : OrgPlan) (t : Option Tenant) → StandsIn l.fn.org q (tables_of g.K.Keeper.state l.fn.draft) t → l.all ≡ layouts_by l.fn.org l.yielded l.fn.change q t;
}
