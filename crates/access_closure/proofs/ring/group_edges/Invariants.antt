use Rattle.std.proofs.Common.{◌≡◌, ◌++◌, drop, T}
use Rattle.model.specs.SoundPeople.{ids_rise}
use Rattle.access_closure.specs.Places.{group_row_id}
use Rattle.access_closure.specs.inner.Rings.{group_edges}
use Rattle.access_closure.proofs.ring.group_edges.Given as goal

abbrev pub invariant-loop-group : goal.invariant-loop-group
invariant-loop-group l =
    (l.place ≡ l.group-index)
    × (T (ids_rise group_row_id l.groups) → l.edges.items ++ group_edges l.groups l.place (drop l.group-index l.groups) ≡ group_edges l.groups 0 l.groups)
