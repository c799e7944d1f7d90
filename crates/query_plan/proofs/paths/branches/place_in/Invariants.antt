use Rattle.std.proofs.Common.{◌≡◌, ℕ, ◌+◌, ◌≤◌, Some, drop, length}
use Rattle.model.specs.Sound.{IsSound}
use Rattle.model.specs.Tenant.{Tenant}
use Rattle.store_abstraction.specs.Layouts.{IsLayout, own_layouts}
use Rattle.store_abstraction.specs.Plan.{OrgPlan}
use Rattle.query_plan.specs.paths.Branches.{AreApart, AddsBranches, IsAmong}
use Rattle.query_plan.proofs.Places.{HasReached}
use Rattle.query_plan.proofs.paths.branches.place_in.Given as goal

abbrev pub invariant-names : goal.invariant-names
invariant-names l = record {
  reached : (org : ℕ) (q : OrgPlan) (t : Tenant) → l.layouts ≡ own_layouts org q (Some t) → IsLayout q t l.layout → IsSound t
      → HasReached q t l.layout.object l.names l.branches.items l.at l.end (drop l.name-index l.names);
  among : IsAmong l.branches.items l.at;
  grown : AddsBranches l.initial.branches.items l.branches.items;
  once : AreApart l.initial.branches.items → AreApart l.branches.items;
  few : length l.branches.items ≤ length l.initial.branches.items + l.name-index;
}
