use Rattle.access_closure.specs.inner.Reached.{Works}
use Rattle.access_closure.proofs.graph.spread.Given as goal

abbrev pub invariant-nodes : goal.invariant-nodes
invariant-nodes l = Works l.edges l.fn.flags.items l.flags.items

abbrev pub decreases-nodes : goal.decreases-nodes
decreases-nodes l = l.left
