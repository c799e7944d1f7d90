-- Where people are: the places of users, roles and groups in the order of their ids, and flags by place.
use Rattle.std.specs.Prelude.{ℕ, zero, suc, Bool, false, if◌then◌else◌, List, [], ◌∷◌, bytes_eq, Option, Some, None, slice_index_or}
use Rattle.std.specs.Option.{option_map}
use Rattle.store_rows.specs.declared.group.GroupRow.{GroupRow}
use Rattle.store_rows.specs.declared.role.RoleRow.{RoleRow}
use Rattle.store_rows.specs.declared.user.UserRow.{UserRow}

abbrev pub user_row_id : UserRow → List ℕ
user_row_id x = x.id

abbrev pub role_row_id : RoleRow → List ℕ
role_row_id r = r.id

abbrev pub group_row_id : GroupRow → List ℕ
group_row_id g = g.id

-- the place of the thing with this id
abbrev pub place_of_id : {X : Type 0} → (X → List ℕ) → List X → List ℕ → Option ℕ
place_of_id id [] i = None
place_of_id id (x ∷ xs) i = if bytes_eq i (id x) then Some zero else option_map suc (place_of_id id xs i)

-- the flag at this place is set
abbrev pub is_on : List Bool → ℕ → Bool
is_on flags n = slice_index_or flags n false
