use Rattle.std.proofs.Common.{◌≡◌, drop}
use Rattle.std.specs.List.{list_any}
use Rattle.access_closure.specs.Held.{is_held_directly}
use Rattle.access_closure.specs.inner.Order.{AreInOrder}
use Rattle.access_closure.proofs.ring.Ring.holds_one_of.Given as goal

abbrev pub invariant-loop-member : goal.invariant-loop-member
invariant-loop-member l = AreInOrder l.people → list_any (is_held_directly l.people l.self) (drop l.member-index l.members) ≡ list_any (is_held_directly l.people l.self) l.members
