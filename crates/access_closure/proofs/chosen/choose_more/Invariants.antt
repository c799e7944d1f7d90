use Rattle.std.proofs.Common.{◌≡◌, drop, T}
use Rattle.model.specs.SoundPeople.{ids_rise}
use Rattle.access_closure.specs.Places.{role_row_id}
use Rattle.access_closure.specs.inner.Chosen.{roles_with, users_with}
use Rattle.access_closure.proofs.chosen.choose_more.Given as goal

abbrev pub invariant-loop-row : goal.invariant-loop-row
invariant-loop-row l =
    (l.place ≡ l.row-index)
    × (T (ids_rise role_row_id l.roles) → users_with l.roles l.below l.place (drop l.row-index l.users) l.chosen.users.items ≡ users_with l.roles l.below 0 l.users l.fn.chosen.users.items)
    × (T (ids_rise role_row_id l.roles) → roles_with l.roles l.below (drop l.row-index l.users) l.chosen.roles.items ≡ roles_with l.roles l.below l.users l.fn.chosen.roles.items)
