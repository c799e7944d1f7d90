use Rattle.model.specs.Shown.{path_steps}
use Rattle.query_plan.specs.paths.Branches.{AddsBranches}
use Rattle.query_bind.proofs.Counted.{IsFewSoFar}
use Rattle.query_bind.specs.inner.Cells.{BindsCell}
use Rattle.query_bind.proofs.Keyed.{SoFar}
use Rattle.query_bind.proofs.cells.bind_paths.Given as goal

abbrev pub invariant-loop-path : goal.invariant-loop-path
invariant-loop-path l = record {
  grown : AddsBranches l.initial.branches.items l.branches.items;
  so_far : SoFar (BindsCell l.layouts l.layout) l.branches.items l.paths l.path-index l.bound.items;
  few : IsFewSoFar path_steps l.initial.branches.items l.branches.items l.paths l.path-index;
}
