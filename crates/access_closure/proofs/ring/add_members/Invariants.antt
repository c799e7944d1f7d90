use Rattle.std.proofs.Common.{◌≡◌, ◌++◌, drop, T}
use Rattle.model.specs.SoundPeople.{ids_rise}
use Rattle.access_closure.specs.Places.{group_row_id}
use Rattle.access_closure.specs.inner.Rings.{member_edges}
use Rattle.access_closure.proofs.ring.add_members.Given as goal

abbrev pub invariant-loop-member : goal.invariant-loop-member
invariant-loop-member l =
    T (ids_rise group_row_id l.groups)
    → l.edges.items ++ member_edges l.groups l.place (drop l.member-index l.members) ≡ l.fn.edges.items ++ member_edges l.groups l.place l.members
