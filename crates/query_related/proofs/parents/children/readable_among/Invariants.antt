use Rattle.std.proofs.Common.{◌≡◌, ◌*◌, Some, take}
use Rattle.store_kv.specs.Draft.{DraftTells, tables_of}
use Rattle.model.specs.Tenant.{Tenant, User}
use Rattle.store_abstraction.specs.Calls.{Calls, done}
use Rattle.store_abstraction.specs.Layouts.{IsLayout}
use Rattle.store_abstraction.specs.Local.{StandsIn}
use Rattle.store_abstraction.specs.Plan.{OrgPlan}
use Rattle.query_related.specs.parents.inner.Reading.{readable_among}
use Rattle.query_related.proofs.parents.children.readable_among.Given as goal

abbrev pub invariant-loop-id : goal.invariant-loop-id
invariant-loop-id g l = record {
  calls : Calls g.K.Keeper.state (5 * l.id-index) done l.fn.draft l.draft;
  found : DraftTells g.K.Keeper.state l.fn.draft l.draft → (q : OrgPlan) (t : Tenant) (u : User)
      → StandsIn l.fn.layout.org q (tables_of g.K.Keeper.state l.fn.draft) (Some t) → IsLayout q t l.fn.layout → g.R.Rights.whose l.fn.rights t u
      → l.records ≡ readable_among t u l.fn.layout.object (take l.id-index l.ids);
}
