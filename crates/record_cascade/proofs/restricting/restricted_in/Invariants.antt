use Rattle.std.proofs.Common.{◌≡◌, ◌+◌, Some, length}
use Rattle.store_kv.specs.Draft.{DraftTells, tables_of}
use Rattle.model.specs.Tenant.{Tenant}
use Rattle.store_abstraction.specs.Calls.{Calls, done}
use Rattle.store_abstraction.specs.Layouts.{IsLayout}
use Rattle.store_abstraction.specs.Local.{StandsIn}
use Rattle.store_abstraction.specs.Plan.{OrgPlan}
use Rattle.record_cascade.specs.inner.Holding.{restricted_from, restricted_in}
use Rattle.record_cascade.proofs.restricting.restricted_in.Given as goal

-- the fields so far refuse nothing
abbrev pub invariant-fields : goal.invariant-fields
invariant-fields g l = record {
  calls : Calls g.K.Keeper.state 0 done l.fn.draft l.draft;
  place : l.number + length l.rest ≡ length l.fn.layout.fields;
  found : DraftTells g.K.Keeper.state l.fn.draft l.draft → (q : OrgPlan) (t : Tenant) → StandsIn l.fn.layout.org q (tables_of g.K.Keeper.state l.fn.draft) (Some t) → IsLayout q t l.fn.layout
      → restricted_from l.fn.layout l.number l.rest l.fn.gone.keys t ≡ restricted_in l.fn.gone.keys t l.fn.layout;
}

abbrev pub decreases-fields : goal.decreases-fields
decreases-fields g l = length l.rest
