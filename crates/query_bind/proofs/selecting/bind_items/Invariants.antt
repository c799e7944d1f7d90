use Rattle.std.proofs.Common.{◌≡◌, ◌+◌, ◌≤◌, drop, length, take}
use Rattle.std.specs.List.{sum_by}
use Rattle.model.specs.Shown.{item_children_shown}
use Rattle.query_plan.specs.Plans.{child_shown}
use Rattle.query_plan.specs.paths.Branches.{AddsBranches}
use Rattle.query_bind.specs.Cells.{paths_in}
use Rattle.query_bind.proofs.Picked.{SelectedSoFar}
use Rattle.query_bind.proofs.selecting.bind_items.Given as goal

abbrev pub invariant-loop-item : goal.invariant-loop-item
invariant-loop-item l = record {
  grown : AddsBranches l.initial.branches.items l.branches.items;
  left : drop l.count l.paths ≡ paths_in (drop l.item-index l.items);
  within : l.count ≤ length l.paths;
  few : sum_by child_shown l.children.items + sum_by item_children_shown (drop l.item-index l.items) ≤ sum_by item_children_shown l.items;
  so_far : SelectedSoFar l.layouts l.layout l.day l.items (take l.count l.paths) l.branches.items l.shown.items l.children.items (drop l.item-index l.items);
}
