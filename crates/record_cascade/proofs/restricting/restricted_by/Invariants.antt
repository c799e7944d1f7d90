use Rattle.std.proofs.Common.{◌≡◌, Some, length}
use Rattle.store_kv.specs.Draft.{DraftTells, tables_of}
use Rattle.model.specs.Tenant.{Tenant}
use Rattle.store_abstraction.specs.Calls.{Calls, done}
use Rattle.store_abstraction.specs.Local.{StandsIn}
use Rattle.store_abstraction.specs.Plan.{OrgPlan}
use Rattle.record_cascade.specs.inner.Holding.{restricted_of}
use Rattle.record_cascade.specs.inner.Masters.{AreItsLayouts}
use Rattle.record_cascade.proofs.restricting.restricted_by.Given as goal

-- the objects so far refuse nothing
abbrev pub invariant-layouts : goal.invariant-layouts
invariant-layouts g l = record {
  calls : Calls g.K.Keeper.state 0 done l.fn.draft l.draft;
  found : DraftTells g.K.Keeper.state l.fn.draft l.draft → (q : OrgPlan) (t : Tenant) → StandsIn l.fn.org q (tables_of g.K.Keeper.state l.fn.draft) (Some t) → AreItsLayouts l.fn.org q t l.fn.layouts
      → AreItsLayouts l.fn.org q t l.rest × (restricted_of l.rest l.fn.gone.keys t ≡ restricted_of l.fn.layouts l.fn.gone.keys t);
}

abbrev pub decreases-layouts : goal.decreases-layouts
decreases-layouts g l = length l.rest
