use Rattle.std.proofs.Common.{◌≡◌, ◌++◌, Some, length}
use Rattle.std.specs.List.{flat_map}
use Rattle.store_kv.specs.Draft.{DraftTells, tables_of}
use Rattle.model.specs.Tenant.{Tenant}
use Rattle.record_references.specs.Referring.{all_referring}
use Rattle.store_abstraction.specs.Calls.{Calls, done}
use Rattle.store_abstraction.specs.Layouts.{IsLayout}
use Rattle.store_abstraction.specs.Local.{StandsIn}
use Rattle.store_abstraction.specs.Plan.{OrgPlan}
use Rattle.record_cascade.proofs.taking.referring_to.Given as goal

abbrev pub invariant-ids : goal.invariant-ids
invariant-ids g l = record {
  calls : Calls g.K.Keeper.state 0 done l.fn.draft l.draft;
  found : DraftTells g.K.Keeper.state l.fn.draft l.draft → (q : OrgPlan) (t : Tenant) → StandsIn l.fn.layout.org q (tables_of g.K.Keeper.state l.fn.draft) (Some t) → IsLayout q t l.fn.layout
      → l.all.items ++ flat_map (λ id. all_referring l.fn.layout.object l.fn.number id t) l.rest ≡ flat_map (λ id. all_referring l.fn.layout.object l.fn.number id t) l.fn.ids;
}

abbrev pub decreases-ids : goal.decreases-ids
decreases-ids g l = length l.rest
