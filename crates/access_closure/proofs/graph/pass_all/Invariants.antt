use Rattle.std.proofs.Common.{count_by, not}
use Rattle.access_closure.specs.inner.Reached.{Works}
use Rattle.access_closure.proofs.graph.pass_all.Given as goal

abbrev pub invariant-passes : goal.invariant-passes
invariant-passes l = Works l.edges l.fn.flags.items l.flags.items

abbrev pub decreases-passes : goal.decreases-passes
decreases-passes l = count_by not l.flags.items
