-- What is told of rows of people is what is told of the tenant's users, roles and groups.
use Rattle.std.proofs.Common.{◌≡◌, ◌∙◌, ℕ, List, [], ◌∷◌, Option, Some, sym, ap, subst, map}
use Rattle.std.specs.Prelude.{Ok, Result, Vec, codes}
use Rattle.std.proofs.lemmas.Simd.{map-map as map_again}
use Rattle.base_json.specs.declared.tree.Json.{Json}
use Rattle.base_json_tree.specs.Words.{list, member, object}
use Rattle.model.specs.Tenant.{Group, Role, Tenant, User}
use Rattle.model_reads.specs.PeopleJson.{group_json, listed, people_json, role_json, user_json}
use Rattle.model_reads.specs.Told.{Telling}
use Rattle.people_rows.specs.Roster.{ListsIn, group_rows, role_rows, user_rows}
use Rattle.store_abstraction.specs.Local.{StandsIn}
use Rattle.store_abstraction.specs.Metadata.{group_of, role_of, user_of}
use Rattle.store_abstraction.specs.Plan.{OrgPlan}
use Rattle.store_kv.specs.Tables.{Tables}
use Rattle.store_rows.specs.declared.fail.StoreFail.{StoreFail}
use Rattle.store_rows.specs.declared.group.GroupRow.{GroupRow}
use Rattle.store_rows.specs.declared.role.RoleRow.{RoleRow}
use Rattle.store_rows.specs.declared.user.UserRow.{UserRow}
use Rattle.api_read.specs.inner.People.{short_group, short_people, short_role, short_user, whole_group, whole_role, whole_user}

-- ---- rows that were read

-- those that were given are the tenant's
pub rows_are : {U A : Type 0} (org : ℕ) (q : OrgPlan) (m : Tables) (t : Tenant) (rows : OrgPlan → Option Tenant → List U) (r : Result (Vec U A) StoreFail) (v : Vec U A) (given : List U) → ListsIn org rows m r → r ≡ Ok v → StandsIn org q m (Some t)
    → given ≡ v.items → given ≡ rows q (Some t)
rows_are org q m t rows r v given h was s same = same ∙ subst (ListsIn org rows m) was h q (Some t) s

-- ---- what is told of them

pub people_members : (users : List UserRow) (roles : List RoleRow) (groups : List GroupRow) (u r g : Json) → u ≡ list (map short_user users) → r ≡ list (map short_role roles) → g ≡ list (map short_group groups)
    → object (member (codes "users") u ∷ member (codes "roles") r ∷ member (codes "groups") g ∷ []) ≡ short_people users roles groups
people_members users roles groups u r g one two three = λ i. object (member (codes "users") (one i) ∷ member (codes "roles") (two i) ∷ member (codes "groups") (three i) ∷ [])

module _ (org : ℕ) (t : Tenant) (v : Json) where
  pub users_told : (rows : List UserRow) → v ≡ listed (codes "users") (map whole_user rows) → rows ≡ user_rows org (Some t) → ◌≡◌ {A = Telling} (Ok (listed (codes "users") (map user_json t.users))) (Ok v)
  users_told rows is same = ap Ok (sym (is ∙ ap (λ (items : List Json). listed (codes "users") items) (ap (map whole_user) same ∙ map_again whole_user (user_of org) t.users)))

  pub roles_told : (rows : List RoleRow) → v ≡ listed (codes "roles") (map whole_role rows) → rows ≡ role_rows org (Some t) → ◌≡◌ {A = Telling} (Ok (listed (codes "roles") (map role_json t.roles))) (Ok v)
  roles_told rows is same = ap Ok (sym (is ∙ ap (λ (items : List Json). listed (codes "roles") items) (ap (map whole_role) same ∙ map_again whole_role (role_of org) t.roles)))

  pub groups_told : (rows : List GroupRow) → v ≡ listed (codes "groups") (map whole_group rows) → rows ≡ group_rows org (Some t) → ◌≡◌ {A = Telling} (Ok (listed (codes "groups") (map group_json t.groups))) (Ok v)
  groups_told rows is same = ap Ok (sym (is ∙ ap (λ (items : List Json). listed (codes "groups") items) (ap (map whole_group) same ∙ map_again whole_group (group_of org) t.groups)))

  people_are : short_people (user_rows org (Some t)) (role_rows org (Some t)) (group_rows org (Some t)) ≡ people_json t
  people_are =
      let users = map_again short_user (user_of org) t.users in
      let roles = map_again short_role (role_of org) t.roles in
      let groups = map_again short_group (group_of org) t.groups in
      λ i. object (member (codes "users") (list (users i)) ∷ member (codes "roles") (list (roles i)) ∷ member (codes "groups") (list (groups i)) ∷ [])

  pub people_told : (users : List UserRow) (roles : List RoleRow) (groups : List GroupRow) → v ≡ short_people users roles groups → users ≡ user_rows org (Some t) → roles ≡ role_rows org (Some t) → groups ≡ group_rows org (Some t)
      → ◌≡◌ {A = Telling} (Ok (people_json t)) (Ok v)
  people_told users roles groups is one two three =
      let given : short_people users roles groups ≡ short_people (user_rows org (Some t)) (role_rows org (Some t)) (group_rows org (Some t)) = λ i. short_people (one i) (two i) (three i) in
      ap Ok (sym (is ∙ given ∙ people_are))
