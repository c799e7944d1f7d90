use Rattle.std.proofs.Common.{◌≡◌, ℕ, List, Some, take}
use Rattle.std.specs.Prelude.{Ok}
use Rattle.std.specs.List.{AllByRecursion}
use Rattle.store_kv.specs.Draft.{DraftTells, tables_of}
use Rattle.model.specs.declared.record.Record.{Record}
use Rattle.model.specs.Deletes.{has_id, without}
use Rattle.model.specs.Tenant.{Tenant}
use Rattle.store_abstraction.specs.Calls.{Calls, done}
use Rattle.store_abstraction.specs.Layouts.{own_layouts}
use Rattle.store_abstraction.specs.Local.{StandsIn}
use Rattle.store_abstraction.specs.Plan.{OrgPlan}
use Rattle.record_index.specs.diff.Touched.{has, touched_changes}
use Rattle.record_delete.specs.inner.Adding.{AddsThese, Clears}
use Rattle.record_delete.proofs.Doing.{LosesOne}
use Rattle.record_delete.proofs.clearing.clear_records.Given as goal

abbrev pub invariant-loop-id : goal.invariant-loop-id
invariant-loop-id g l = record {
  calls : Calls g.K.Keeper.state l.id-index done l.fn.draft l.draft;
  own : Clears l.org l.id-index l.fn.changes.items l.changes.items;
  adds : DraftTells g.K.Keeper.state l.fn.draft l.draft → (q : OrgPlan) (t : Tenant) (rs : List Record) → StandsIn l.org q (tables_of g.K.Keeper.state l.fn.draft) (Some t) → own_layouts l.org q (Some t) ≡ l.layouts
      → ((i : List ℕ) → has l.gone i ≡ has_id rs i) → AllByRecursion (LosesOne t rs) l.ids
      → AddsThese {X = Unit {0}} (touched_changes l.org q q t (without l.now rs t) (take l.id-index l.ids)) l.fn.changes.items l.changes.items (Ok tt);
}
