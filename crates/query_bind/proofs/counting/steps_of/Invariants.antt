use Rattle.std.proofs.Common.{◌+◌, ◌≤◌, drop}
use Rattle.std.specs.List.{sum_by}
use Rattle.model.specs.Shown.{path_steps}
use Rattle.query_bind.proofs.counting.steps_of.Given as goal

abbrev pub invariant-loop-path : goal.invariant-loop-path
invariant-loop-path l = l.steps + sum_by path_steps (drop l.path-index l.paths) ≤ sum_by path_steps l.paths
