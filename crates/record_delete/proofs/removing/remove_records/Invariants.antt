use Rattle.std.proofs.Common.{◌≡◌, ◌*◌, Some, take}
use Rattle.std.specs.Prelude.{Ok}
use Rattle.std.specs.List.{AllByRecursion}
use Rattle.store_kv.specs.Draft.{DraftTells, tables_of}
use Rattle.model.specs.Tenant.{Tenant}
use Rattle.store_abstraction.specs.Calls.{Calls, done}
use Rattle.store_abstraction.specs.Layouts.{own_layouts}
use Rattle.store_abstraction.specs.Local.{StandsIn}
use Rattle.store_abstraction.specs.Plan.{OrgPlan}
use Rattle.record_index.specs.diff.Touched.{touched_changes}
use Rattle.record_delete.specs.inner.Adding.{Adds, AddsThese}
use Rattle.record_delete.proofs.Doing.{IsGone}
use Rattle.record_delete.proofs.removing.remove_records.Given as goal

abbrev pub invariant-loop-id : goal.invariant-loop-id
invariant-loop-id g l = record {
  calls : Calls g.K.Keeper.state l.id-index done l.fn.draft l.draft;
  own : Adds l.org (145 * l.id-index) l.id-index l.fn.changes.items l.changes.items;
  adds : DraftTells g.K.Keeper.state l.fn.draft l.draft → (q : OrgPlan) (t u : Tenant) → StandsIn l.org q (tables_of g.K.Keeper.state l.fn.draft) (Some t) → own_layouts l.org q (Some t) ≡ l.layouts
      → AllByRecursion (IsGone t u) l.ids → AddsThese {X = Unit {0}} (touched_changes l.org q q t u (take l.id-index l.ids)) l.fn.changes.items l.changes.items (Ok tt);
}
