use Rattle.access_closure.specs.inner.Reached.{Works}
use Rattle.access_closure.proofs.graph.follow_all.Given as goal

abbrev pub invariant-edges : goal.invariant-edges
invariant-edges l = Works l.edges l.fn.flags.items l.flags.items

abbrev pub decreases-edges : goal.decreases-edges
decreases-edges l = l.left
