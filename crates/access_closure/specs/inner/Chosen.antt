-- The users that a keyring is of: the user, and those below.
use Rattle.std.specs.Prelude.{◌≡◌, ℕ, suc, Bool, true, false, if◌then◌else◌, ◌==◌, List, [], ◌∷◌, ◌++◌, length, map, Option, Some, None, MatchOption, replicate, slice_set}
use Rattle.std.specs.Option.{option_and_then}
use Rattle.store_rows.specs.declared.role.RoleRow.{RoleRow}
use Rattle.store_rows.specs.declared.user.UserRow.{UserRow}
use Rattle.model.specs.Cases.{in_case}
use Rattle.access_closure.specs.declared.chosen.Chosen.{Chosen}
use Rattle.access_closure.specs.declared.graph.Edge.{Edge}
use Rattle.access_closure.specs.declared.people.People.{People}
use Rattle.access_closure.specs.Places.{is_on, place_of_id, role_row_id, user_row_id}
use Rattle.access_closure.specs.inner.Order.{role_place_by_id, role_place_of}
use Rattle.access_closure.specs.inner.Reached.{Closes}

-- ---- roles

-- from the role at a place an edge to the role above it
abbrev pub up_edge : List RoleRow → ℕ → RoleRow → List Edge
up_edge all n r = in_case (option_and_then (place_of_id role_row_id all) r.parent) [] (λ m. record { from = n; to = m } ∷ [])

-- from each of these roles, the first of which is at this place, an edge to the role above it
abbrev pub edges_up : List RoleRow → ℕ → List RoleRow → List Edge
edges_up all n [] = []
edges_up all n (r ∷ roles) = up_edge all n r ++ edges_up all (suc n) roles

abbrev pub edge_back : Edge → Edge
edge_back e = record { from = e.to; to = e.from }

-- with each node from which an edge leads to this one
abbrev pub with_sources : ℕ → List Bool → List Edge → List Bool
with_sources n flags [] = flags
with_sources n flags (e ∷ edges) = with_sources n (if e.to == n then slice_set flags e.from true else flags) edges

-- ---- users

abbrev pub set_at : List Bool → Option ℕ → List Bool
set_at flags None = flags
set_at flags (Some n) = slice_set flags n true

-- the user with this id, and the role of that user
abbrev pub IsAlone : People → List ℕ → Chosen → Type 0
IsAlone people i c =
    (c.users.items ≡ set_at (replicate (length people.users.items) false) (place_of_id user_row_id people.users.items i))
    × (c.roles.items ≡ set_at (replicate (length people.roles.items) false) (role_place_by_id people i))

-- the user's role is one of these
abbrev pub has_role_in : List RoleRow → List Bool → UserRow → Bool
has_role_in roles below x = in_case (role_place_of roles x) false (is_on below)

-- the place of the user's role, if it is one of these
abbrev pub role_among : List RoleRow → List Bool → UserRow → Option ℕ
role_among roles below x = if has_role_in roles below x then role_place_of roles x else None

-- with each of these users, the first of whom is at this place, whose role is one of these
abbrev pub users_with : List RoleRow → List Bool → ℕ → List UserRow → List Bool → List Bool
users_with roles below n [] flags = flags
users_with roles below n (x ∷ users) flags = users_with roles below (suc n) users (in_case (role_among roles below x) flags (λ m. slice_set flags n true))

-- with the roles of those users
abbrev pub roles_with : List RoleRow → List Bool → List UserRow → List Bool → List Bool
roles_with roles below [] flags = flags
roles_with roles below (x ∷ users) flags = roles_with roles below users (set_at flags (role_among roles below x))

-- these users and roles, with all users whose role is below the one at this place, where edges lead from each role to the one
-- above it
pub record AddsBelow (people : People) (up : List Edge) (role : ℕ) (alone c : Chosen) : Type 0 where
  pub below : List Bool
  pub is_below : Closes (map edge_back up) (with_sources role (replicate (length people.roles.items) false) up) below
  pub users : c.users.items ≡ users_with people.roles.items below 0 people.users.items alone.users.items
  pub roles : c.roles.items ≡ roles_with people.roles.items below people.users.items alone.roles.items

-- the user with this id, and all below the role at this place
abbrev pub IsWithBelow : People → List Edge → List ℕ → Chosen → ℕ → Type 0
IsWithBelow people up i c role = (alone : Chosen) × IsAlone people i alone × AddsBelow people up role alone c

-- the user with this id, and all users below
abbrev pub IsUserAndBelow : People → List Edge → List ℕ → Chosen → Type 0
IsUserAndBelow people up i c = MatchOption (role_place_by_id people i) (IsAlone people i c) (IsWithBelow people up i c)
