use Rattle.access_closure.proofs.Spreading.{closes_after}
use Rattle.access_closure.proofs.graph.reach.Goals as goal

pub returns : goal.returns
returns c = closes_after c.args.edges.now c.args.flags.now.items c.spread.new.flags.items c.pass_all.new.flags.items c.in_ok-spread.ensures c.pass_all.ensures
