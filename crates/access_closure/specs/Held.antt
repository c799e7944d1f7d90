-- The principals that are held, by places.
use Rattle.std.specs.Prelude.{Bool, false}
use Rattle.model.specs.Cases.{in_case}
use Rattle.base_value.specs.declared.sharing.Principal.{Principal}
use Rattle.base_value.specs.declared.sharing.Principal.TheVariants as to
use Rattle.access_closure.specs.declared.people.People.{People}
use Rattle.access_closure.specs.declared.ring.Ring.{Ring}
use Rattle.access_closure.specs.Places.{group_row_id, is_on, place_of_id, role_row_id, user_row_id}

-- the principal is held, groups aside
abbrev pub is_held_directly : People → Ring → Principal → Bool
is_held_directly people ring (to.User i) = in_case (place_of_id user_row_id people.users.items i) false (is_on ring.users.items)
is_held_directly people ring (to.Role i) = in_case (place_of_id role_row_id people.roles.items i) false (is_on ring.roles.items)
is_held_directly people ring (to.Subordinates i) =
    in_case (place_of_id role_row_id people.roles.items i) false (is_on ring.subordinates.items)
is_held_directly people ring (to.Group i) = false

-- the principal is held
abbrev pub is_held : People → Ring → Principal → Bool
is_held people ring (to.User i) = is_held_directly people ring (to.User i)
is_held people ring (to.Role i) = is_held_directly people ring (to.Role i)
is_held people ring (to.Subordinates i) = is_held_directly people ring (to.Subordinates i)
is_held people ring (to.Group i) = in_case (place_of_id group_row_id people.groups.items i) false (is_on ring.groups.items)
