-- Sound users, roles and groups: what holds of them at every moment. The limits are this product's own.
use Rattle.std.specs.Prelude.{◌≡◌, ℕ, ◌≤◌, Bool, ◌&&◌, nat_le, List, length, map, Option, T, IsTrue, IfSome}
use Rattle.std.specs.List.{AllByRecursion, list_all, list_any}
use Rattle.std.specs.FinMap.{is_sorted}
use Rattle.std.specs.Option.{option_and_then}
use Rattle.std.specs.Ordering.{nat_cmp}
use Rattle.std.specs.Str.{all_scalars}
use Rattle.std.specs.Cmp.Lexicographic.{slice_cmp}
use Rattle.model.specs.declared.limit.Limit.TheVariants as limit
use Rattle.model.specs.Known.{Known, IsDrawn, group_id, knows, role_id}
use Rattle.model.specs.Limits.{limit_number, name_limit}
use Rattle.model.specs.Membership.{Below}
use Rattle.model.specs.Tenant.{User, Role, Group}
use Rattle.model.specs.World.{having_id, user_id, user_prefix, role_prefix, group_prefix}

-- the name of an organisation or of people, and the message of a validation rule: 1 to 80 characters
unfoldable pub is_name : List ℕ → Bool
is_name characters = all_scalars characters && (nat_le 1 (length characters) && nat_le (length characters) name_limit)

-- ids strictly rise
abbrev pub ids_rise : {X : Type 0} → (X → List ℕ) → List X → Bool
ids_rise id xs = is_sorted (slice_cmp nat_cmp) (map (λ x. (id x, x)) xs)

-- the user is active, and administers the organisation
abbrev pub administers : User → Bool
administers u = u.active && u.admin

pub record IsSoundUser (k : Known) (u : User) : Type 0 where
  pub id : IsDrawn user_prefix k.counter u.id
  pub name : IsTrue (is_name u.name)
  pub digest : length u.digest ≡ 32
  pub role : IfSome u.role (λ i. IsTrue (k.role i))

pub record IsSoundRole (k : Known) (r : Role) : Type 0 where
  pub id : IsDrawn role_prefix k.counter r.id
  pub name : IsTrue (is_name r.name)
  pub parent : IfSome r.parent (λ i. IsTrue (k.role i))

pub record IsSoundGroup (k : Known) (g : Group) : Type 0 where
  pub id : IsDrawn group_prefix k.counter g.id
  pub name : IsTrue (is_name g.name)
  pub members : length g.members ≤ limit_number limit.MembersPerGroup
  pub named : IsTrue (list_all (knows k) g.members)

-- the parent of a role
abbrev pub parent_in : List Role → List ℕ → Option (List ℕ)
parent_in roles i = option_and_then (λ r. r.parent) (having_id role_id roles i)

-- no role is below itself
abbrev pub NoCycle : List Role → Type 0
NoCycle roles = (a : List ℕ) → Below (parent_in roles) a a → ⊥

-- ---- in the order of their ids, and within their numbers

pub record HasSoundUsers (k : Known) (users : List User) : Type 0 where
  pub each : AllByRecursion (IsSoundUser k) users
  pub rise : T (ids_rise user_id users)
  pub few : length users ≤ limit_number limit.Users
  pub administered : IsTrue (list_any administers users)

pub record HasSoundRoles (k : Known) (roles : List Role) : Type 0 where
  pub each : AllByRecursion (IsSoundRole k) roles
  pub rise : T (ids_rise role_id roles)
  pub few : length roles ≤ limit_number limit.Roles
  pub no_cycle : NoCycle roles

pub record HasSoundGroups (k : Known) (groups : List Group) : Type 0 where
  pub each : AllByRecursion (IsSoundGroup k) groups
  pub rise : T (ids_rise group_id groups)
  pub few : length groups ≤ limit_number limit.Groups
