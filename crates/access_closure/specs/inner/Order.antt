-- People in the order of their ids, and the places of users' roles.
use Rattle.std.specs.Prelude.{ℕ, List, Option, slice_get, T}
use Rattle.std.specs.Option.{option_and_then}
use Rattle.store_rows.specs.declared.role.RoleRow.{RoleRow}
use Rattle.store_rows.specs.declared.user.UserRow.{UserRow}
use Rattle.model.specs.SoundPeople.{ids_rise}
use Rattle.access_closure.specs.declared.people.People.{People}
use Rattle.access_closure.specs.Places.{group_row_id, place_of_id, role_row_id, user_row_id}

-- each list is in the order of ids
pub record AreInOrder (people : People) : Type 0 where
  pub users : T (ids_rise user_row_id people.users.items)
  pub roles : T (ids_rise role_row_id people.roles.items)
  pub groups : T (ids_rise group_row_id people.groups.items)

-- the place of a user's role
abbrev pub role_place_of : List RoleRow → UserRow → Option ℕ
role_place_of roles x = option_and_then (place_of_id role_row_id roles) x.role

-- the place of the role of the user with this id
abbrev pub role_place_by_id : People → List ℕ → Option ℕ
role_place_by_id people i =
    option_and_then (role_place_of people.roles.items)
    (option_and_then (slice_get people.users.items) (place_of_id user_row_id people.users.items i))
