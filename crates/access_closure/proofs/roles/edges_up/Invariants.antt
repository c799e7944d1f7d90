use Rattle.std.proofs.Common.{◌≡◌, ◌++◌, drop, T}
use Rattle.model.specs.SoundPeople.{ids_rise}
use Rattle.access_closure.specs.Places.{role_row_id}
use Rattle.access_closure.specs.inner.Chosen.{edges_up}
use Rattle.access_closure.proofs.roles.edges_up.Given as goal

abbrev pub invariant-loop-role : goal.invariant-loop-role
invariant-loop-role l =
    (l.place ≡ l.role-index)
    × (T (ids_rise role_row_id l.roles) → l.edges.items ++ edges_up l.roles l.place (drop l.role-index l.roles) ≡ edges_up l.roles 0 l.roles)
