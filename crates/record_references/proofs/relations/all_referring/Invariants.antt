use Rattle.store_kv.specs.Draft.{DraftTells, tables_of}
use Rattle.model.specs.Tenant.{Tenant}
use Rattle.std.specs.Prelude.{Some}
use Rattle.store_abstraction.specs.Calls.{Calls, done}
use Rattle.store_abstraction.specs.Layouts.{IsLayout}
use Rattle.store_abstraction.specs.Local.{StandsIn}
use Rattle.store_abstraction.specs.Plan.{OrgPlan}
use Rattle.record_references.specs.Referring.{all_referring}
use Rattle.record_references.proofs.Fronts.{Follows}
use Rattle.record_references.proofs.relations.all_referring.Given as goal

abbrev pub invariant-pages : goal.invariant-pages
invariant-pages g l = record {
  calls : Calls g.K.Keeper.state 0 done l.fn.draft l.draft;
  front : DraftTells g.K.Keeper.state l.fn.draft l.draft → (q : OrgPlan) (t : Tenant) → StandsIn l.fn.layout.org q (tables_of g.K.Keeper.state l.fn.draft) (Some t) → IsLayout q t l.fn.layout
      → Follows l.all.items (all_referring l.fn.layout.object l.fn.number l.fn.target t);
}
