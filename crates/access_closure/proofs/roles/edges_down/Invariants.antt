use Rattle.std.proofs.Common.{◌≡◌, map, take}
use Rattle.access_closure.specs.inner.Chosen.{edge_back}
use Rattle.access_closure.proofs.roles.edges_down.Given as goal

abbrev pub invariant-loop-edge : goal.invariant-loop-edge
invariant-loop-edge l = l.edges.items ≡ map edge_back (take l.edge-index l.up)
