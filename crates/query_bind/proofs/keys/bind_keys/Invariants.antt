use Rattle.soql.specs.declared.query.OrderKey.{OrderKey}
use Rattle.model.specs.Shown.{path_steps}
use Rattle.query_plan.specs.paths.Branches.{AddsBranches}
use Rattle.query_bind.proofs.Counted.{IsFewSoFar}
use Rattle.query_bind.specs.inner.Ends.{BindsKey}
use Rattle.query_bind.proofs.Keyed.{SoFar}
use Rattle.query_bind.proofs.keys.bind_keys.Given as goal

abbrev pub invariant-loop-key : goal.invariant-loop-key
invariant-loop-key l = record {
  grown : AddsBranches l.initial.branches.items l.branches.items;
  so_far : SoFar (BindsKey l.layouts l.layout) l.branches.items l.keys l.key-index l.bound.items;
  few : IsFewSoFar (λ (k : OrderKey). path_steps k.path) l.initial.branches.items l.branches.items l.keys l.key-index;
}
