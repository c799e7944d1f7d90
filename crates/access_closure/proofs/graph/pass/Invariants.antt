use Rattle.std.proofs.Common.{◌≡◌, ◌||◌, drop}
use Rattle.access_closure.specs.inner.Reached.{any_moves, passed}
use Rattle.access_closure.proofs.graph.pass.Given as goal

abbrev pub invariant-loop-edge : goal.invariant-loop-edge
invariant-loop-edge l =
    (passed l.flags.items (drop l.edge-index l.edges) ≡ passed l.initial.flags.items l.edges)
    × ((l.moved || any_moves l.flags.items (drop l.edge-index l.edges)) ≡ any_moves l.initial.flags.items l.edges)
