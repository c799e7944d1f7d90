use Rattle.std.proofs.Common.{◌+◌, ◌*◌}
use Rattle.query_plan.specs.paths.Branches.{AddsBranches, IsAmong}
use Rattle.query_bind.proofs.Showing.{ShownSoFar}
use Rattle.query_bind.proofs.members.+members.Given as goal

abbrev pub decreases-bind_parent : goal.decreases-bind_parent
decreases-bind_parent l = 3 * l.depth

abbrev pub decreases-bind_member : goal.decreases-bind_member
decreases-bind_member l = 3 * l.depth + 1

abbrev pub decreases-bind_members : goal.decreases-bind_members
decreases-bind_members l = 3 * l.depth + 2

abbrev pub invariant-bind_members-loop-number : goal.invariant-bind_members-loop-number
invariant-bind_members-loop-number l = record {
  grown : AddsBranches l.initial.branches.items l.branches.items;
  among : IsAmong l.branches.items l.from.branch;
  so_far : ShownSoFar l.layouts l.from l.depth l.paths l.number l.branches.items l.members.items;
}
