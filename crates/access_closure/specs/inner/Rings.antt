-- The principals of some users, by places.
use Rattle.std.specs.Prelude.{◌≡◌, ℕ, suc, Bool, List, [], ◌∷◌, ◌++◌, map}
use Rattle.std.specs.List.{list_any}
use Rattle.store_rows.specs.declared.group.GroupRow.{GroupRow}
use Rattle.model.specs.Cases.{in_case}
use Rattle.base_value.specs.declared.sharing.Principal.{Principal}
use Rattle.base_value.specs.declared.sharing.Principal.TheVariants as to
use Rattle.access_closure.specs.declared.chosen.Chosen.{Chosen}
use Rattle.access_closure.specs.declared.graph.Edge.{Edge}
use Rattle.access_closure.specs.declared.people.People.{People}
use Rattle.access_closure.specs.declared.ring.Ring.{Ring}
use Rattle.access_closure.specs.Held.{is_held_directly}
use Rattle.access_closure.specs.Places.{group_row_id, place_of_id}
use Rattle.access_closure.specs.inner.Reached.{Closes}

-- of each group whether one of its members is held, groups aside
abbrev pub groups_held : People → Ring → List Bool
groups_held people ring = map (λ g. list_any (is_held_directly people ring) g.members) people.groups.items

-- an edge to the group at this place from a member that is a group
abbrev pub member_edge : List GroupRow → ℕ → Principal → List Edge
member_edge all n (to.Group i) = in_case (place_of_id group_row_id all i) [] (λ m. record { from = m; to = n } ∷ [])
member_edge all n _ = []

abbrev pub member_edges : List GroupRow → ℕ → List Principal → List Edge
member_edges all n [] = []
member_edges all n (p ∷ members) = member_edge all n p ++ member_edges all n members

-- to each of these groups, the first of which is at this place, an edge from each group among its members
abbrev pub group_edges : List GroupRow → ℕ → List GroupRow → List Edge
group_edges all n [] = []
group_edges all n (g ∷ groups) = member_edges all n g.members ++ group_edges all (suc n) groups

-- what is held of these users, where these edges lead from each role to the one above it
pub record IsRing (people : People) (chosen : Chosen) (up : List Edge) (ring : Ring) : Type 0 where
  pub users : ring.users.items ≡ chosen.users.items
  pub roles : ring.roles.items ≡ chosen.roles.items
  pub subordinates : Closes up chosen.roles.items ring.subordinates.items
  pub groups : Closes (group_edges people.groups.items 0 people.groups.items) (groups_held people ring) ring.groups.items
