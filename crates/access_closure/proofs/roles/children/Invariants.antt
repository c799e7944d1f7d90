use Rattle.std.proofs.Common.{◌≡◌, drop}
use Rattle.access_closure.specs.inner.Chosen.{with_sources}
use Rattle.access_closure.proofs.roles.children.Given as goal

abbrev pub invariant-loop-edge : goal.invariant-loop-edge
invariant-loop-edge l = with_sources l.role l.flags.items (drop l.edge-index l.up) ≡ with_sources l.role l.initial.flags.items l.up
