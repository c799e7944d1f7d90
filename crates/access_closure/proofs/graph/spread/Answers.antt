use Rattle.access_closure.proofs.Spreading.{works_after, works_begun}
use Rattle.access_closure.proofs.graph.spread.Goals as goal

pub nodes-init : goal.nodes-init
nodes-init c = works_begun c.args.edges.now c.args.flags.now.items

pub nodes-preserved : goal.nodes-preserved
nodes-preserved c = works_after c.args.edges.now c.args.flags.now.items c.nodes.flags.items c.follow_all.new.flags.items c.nodes.invariant c.in_ok-follow_all.ensures
