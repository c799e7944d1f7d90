-- Users, roles and groups: new ones, and changes of the old; and another name of the organisation.
-- Source: Salesforce, "User", "UserRole" and "Group". The order of the rules is this product's own.
use Rattle.std.specs.Prelude.{ℕ, ◌+◌, ◌||◌, true, if◌then◌else◌, List, [], ◌∷◌, ◌++◌, map, length, bytes_eq, codes, Option, None, is_none, not, unwrap_or}
use Rattle.std.specs.List.{list_any}
use Rattle.std.specs.Option.{option_and_then, option_map}
use Rattle.sha2.specs.Sha256.{sha256}
use Rattle.base_value.specs.Id.{made}
use Rattle.model.specs.declared.limit.Limit.{Limit}
use Rattle.model.specs.declared.limit.Limit.TheVariants as limit
use Rattle.model.specs.declared.refusal.Refusal.TheVariants.{InvalidReference, LastAdministrator, NotFound}
use Rattle.model.specs.declared.people_bodies.GroupChange.{GroupChange}
pub use Rattle.model.specs.declared.people_bodies.NewUser.{NewUser}
use Rattle.model.specs.declared.people_bodies.RoleChange.{RoleChange}
use Rattle.model.specs.declared.people_bodies.UserChange.{UserChange}
use Rattle.model.specs.Cases.{in_case}
use Rattle.model.specs.Membership.{is_below}
use Rattle.model.specs.Names.{bad_name}
use Rattle.model.specs.Principals.{Spelled, bad_id, bad_id_if_any, group_at, not_there, principal_of, role_at, spelled_id}
use Rattle.model.specs.Rules.{Rule, refuse_if, first_of, over_limit}
use Rattle.model.specs.Sound.{is_name}
use Rattle.model.specs.SoundPeople.{administers}
use Rattle.model.specs.Tenant.{Group, Role, Tenant, User}
use Rattle.model.specs.Verdict.{Verdict, accept, done, judged, made_new}
use Rattle.model.specs.World.{user_at, user_prefix, role_prefix, group_prefix}

-- ---- what they share

-- what is given where a body says it: something, or nothing
abbrev pub given : Option (Option (List ℕ)) → Option (List ℕ)
given said = option_and_then (λ text. text) said

-- INVALID_NAME of a name that may be missing
abbrev pub bad_name_if_any : Option (List ℕ) → Rule
bad_name_if_any name = in_case name None (bad_name is_name)

-- INVALID_CROSS_REFERENCE_KEY: a role that isn't there, under the name of its member
abbrev pub no_role : Tenant → (member : List ℕ) → Option (List ℕ) → Rule
no_role t member role = in_case role None (λ text. refuse_if (is_none (role_at t (spelled_id text))) (InvalidReference member))

-- LIMIT_EXCEEDED: one more of these, of which there are so many, or one more id
abbrev pub no_room : Tenant → Limit → ℕ → Rule
no_room t what count = over_limit ((what, count + 1) ∷ (limit.Ids, t.counter + 1) ∷ [])

-- the id of what is made next, with this prefix
abbrev pub next_id : Tenant → (prefix : List ℕ) → List ℕ
next_id t prefix = made prefix t.counter

-- the one with this id, changed
abbrev pub changed : {X : Type 0} → (X → List ℕ) → (X → X) → List ℕ → List X → List X
changed id change i xs = map (λ x. if bytes_eq (id x) i then change x else x) xs

-- ---- users

abbrev pub new_user_rules : Tenant → NewUser → List Rule
new_user_rules t b =
    bad_name is_name b.name ∷ bad_id_if_any b.role ∷ no_role t (codes "role") b.role ∷ no_room t limit.Users (length t.users) ∷ []

-- the user that is made; a secret's characters are its bytes
abbrev pub new_user : Tenant → NewUser → User
new_user t b =
    record { id = next_id t user_prefix; name = b.name; digest = sha256 b.secret; role = option_map spelled_id b.role; admin = b.admin; active = true }

-- one more user: its id is the greatest
abbrev pub with_user : User → Tenant → Tenant
with_user u t = record t { users = t.users ++ u ∷ []; counter = t.counter + 1 }

-- a new user
abbrev pub add_user : Tenant → NewUser → Verdict
add_user t b = let u = new_user t b in judged t (new_user_rules t b) (accept (made_new u.id) (with_user u t))

-- the user with what a body says of it
abbrev pub changed_user : UserChange → User → User
changed_user b u =
    record u {
      role = in_case b.role u.role (option_map spelled_id);
      name = unwrap_or b.name u.name;
      digest = in_case b.secret u.digest sha256;
      admin = unwrap_or b.admin u.admin;
      active = unwrap_or b.active u.active;
    }

-- the users with this one changed
abbrev pub users_with : UserChange → (user : List ℕ) → List User → List User
users_with b user users = changed (λ u. u.id) (changed_user b) (spelled_id user) users

-- LAST_ADMINISTRATOR: nobody who is active would administer the organisation
abbrev pub no_administrator : List User → Rule
no_administrator users = refuse_if (not (list_any administers users)) LastAdministrator

abbrev pub user_rules : Tenant → (user : List ℕ) → UserChange → List Rule
user_rules t user b =
    bad_id user
    ∷ bad_id_if_any (given b.role)
    ∷ refuse_if (is_none (user_at t.users (spelled_id user))) NotFound
    ∷ bad_name_if_any b.name
    ∷ no_role t (codes "role") (given b.role)
    ∷ no_administrator (users_with b user t.users)
    ∷ []

-- a user with another role, name or secret, or with other standing
abbrev pub set_user : Tenant → (user : List ℕ) → UserChange → Verdict
set_user t user b = judged t (user_rules t user b) (accept done (record t { users = users_with b user t.users }))

-- ---- roles

abbrev pub new_role_rules : Tenant → (name : List ℕ) → (parent : Option (List ℕ)) → List Rule
new_role_rules t name parent =
    bad_name is_name name ∷ bad_id_if_any parent ∷ no_role t (codes "parent") parent ∷ no_room t limit.Roles (length t.roles) ∷ []

-- one more role
abbrev pub with_role : Role → Tenant → Tenant
with_role r t = record t { roles = t.roles ++ r ∷ []; counter = t.counter + 1 }

-- a new role
abbrev pub add_role : Tenant → (name : List ℕ) → (parent : Option (List ℕ)) → Verdict
add_role t name parent =
    judged t (new_role_rules t name parent)
    (let id = next_id t role_prefix in
    accept (made_new id) (with_role (record { id = id; name = name; parent = option_map spelled_id parent }) t))

-- INVALID_CROSS_REFERENCE_KEY: a parent that isn't there, the role itself, or a role below it
abbrev pub bad_parent : Tenant → (role : List ℕ) → (parent : Option (List ℕ)) → Rule
bad_parent t role parent =
    in_case (option_map spelled_id parent) None (λ p.
    refuse_if (is_none (role_at t p) || (bytes_eq p role || is_below t p role)) (InvalidReference (codes "parent")))

-- the role with what a body says of it
abbrev pub changed_role : RoleChange → Role → Role
changed_role b r = record r { parent = in_case b.parent r.parent (option_map spelled_id); name = unwrap_or b.name r.name }

abbrev pub role_rules : Tenant → (role : List ℕ) → RoleChange → List Rule
role_rules t role b =
    bad_id role
    ∷ bad_id_if_any (given b.parent)
    ∷ refuse_if (is_none (role_at t (spelled_id role))) NotFound
    ∷ bad_name_if_any b.name
    ∷ bad_parent t (spelled_id role) (given b.parent)
    ∷ []

-- a role with another parent, or none, or with another name
abbrev pub set_role : Tenant → (role : List ℕ) → RoleChange → Verdict
set_role t role b =
    judged t (role_rules t role b)
    (accept done (record t { roles = changed (λ r. r.id) (changed_role b) (spelled_id role) t.roles }))

-- ---- groups

abbrev pub new_group_rules : Tenant → (name : List ℕ) → List Rule
new_group_rules t name = bad_name is_name name ∷ no_room t limit.Groups (length t.groups) ∷ []

-- one more group
abbrev pub with_group : Group → Tenant → Tenant
with_group g t = record t { groups = t.groups ++ g ∷ []; counter = t.counter + 1 }

-- a new group, without members
abbrev pub add_group : Tenant → (name : List ℕ) → Verdict
add_group t name =
    judged t (new_group_rules t name)
    (let id = next_id t group_prefix in accept (made_new id) (with_group (record { id = id; name = name; members = [] }) t))

-- the group with what a body says of it
abbrev pub changed_group : GroupChange → Group → Group
changed_group b g = record g { members = in_case b.members g.members (map principal_of); name = unwrap_or b.name g.name }

-- the members that a body gives, which may be none
abbrev pub members_given : GroupChange → List Spelled
members_given b = unwrap_or b.members []

abbrev pub group_rules : Tenant → (group : List ℕ) → GroupChange → List Rule
group_rules t group b =
    bad_id group
    ∷ first_of (λ p. bad_id p.text) (members_given b)
    ∷ refuse_if (is_none (group_at t (spelled_id group))) NotFound
    ∷ bad_name_if_any b.name
    ∷ first_of (λ p. not_there t (codes "members") (principal_of p)) (members_given b)
    ∷ over_limit ((limit.MembersPerGroup, length (members_given b)) ∷ [])
    ∷ []

-- a group with other members, or with another name
abbrev pub set_group : Tenant → (group : List ℕ) → GroupChange → Verdict
set_group t group b =
    judged t (group_rules t group b)
    (accept done (record t { groups = changed (λ g. g.id) (changed_group b) (spelled_id group) t.groups }))

-- ---- the organisation

-- an organisation with another name
abbrev pub set_organisation : Tenant → (name : List ℕ) → Verdict
set_organisation t name = judged t (bad_name is_name name ∷ []) (accept done (record t { name = name }))
