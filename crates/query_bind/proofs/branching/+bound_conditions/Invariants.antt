use Rattle.query_plan.specs.paths.Branches.{AddsBranches}
use Rattle.query_bind.specs.inner.Tails.{BindsCondition}
use Rattle.query_bind.proofs.Counted.{IsFewSoFar, steps_in}
use Rattle.query_bind.proofs.Keyed.{SoFar}
use Rattle.query_bind.proofs.branching.+bound_conditions.Given as goal

abbrev pub invariant-bind_conditions-loop-cond : goal.invariant-bind_conditions-loop-cond
invariant-bind_conditions-loop-cond l = record {
  grown : AddsBranches l.initial.branches.items l.branches.items;
  so_far : SoFar (BindsCondition l.layouts l.layout l.day) l.branches.items l.conds l.cond-index l.checks.items;
  few : IsFewSoFar steps_in l.initial.branches.items l.branches.items l.conds l.cond-index;
}
