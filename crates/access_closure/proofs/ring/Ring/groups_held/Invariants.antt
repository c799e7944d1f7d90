use Rattle.std.proofs.Common.{◌≡◌, map, take}
use Rattle.std.specs.List.{list_any}
use Rattle.access_closure.specs.Held.{is_held_directly}
use Rattle.access_closure.specs.inner.Order.{AreInOrder}
use Rattle.access_closure.proofs.ring.Ring.groups_held.Given as goal

abbrev pub invariant-loop-group : goal.invariant-loop-group
invariant-loop-group l = AreInOrder l.people → l.flags.items ≡ map (λ g. list_any (is_held_directly l.people l.self) g.members) (take l.group-index l.people.groups.items)
