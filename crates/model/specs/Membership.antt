-- Which roles are below which, who is a member of a principal, and whom a principal reaches: least relations, since groups may
-- contain one another. Below them the same, computed: `access_laws` says that they agree.
-- Source: Salesforce, "Record-Level Security" and "A Guide to Sharing Architecture": the role hierarchy, roles with their
-- subordinates, public groups. That groups may contain one another in a circle is this product's own.
use Rattle.std.specs.Prelude.{◌≡◌, ◌⊎◌, ℕ, zero, suc, Bool, true, false, ◌||◌, ◌&&◌, List, [], ◌∷◌, length, bytes_eq, Option, Some, None}
use Rattle.std.specs.List.{list_any}
use Rattle.std.specs.Option.{option_and_then, option_map}
use Rattle.base_value.specs.declared.sharing.Principal.{Principal}
use Rattle.base_value.specs.declared.sharing.Principal.TheVariants as to
use Rattle.model.specs.Cases.{in_case}
use Rattle.model.specs.Tenant.{Tenant, User}
use Rattle.model.specs.World.{having_id}

-- the list has this
abbrev pub Has : {X : Type 0} → List X → X → Type 0
Has [] x = ⊥
Has (y ∷ ys) x = (x ≡ y) ⊎ Has ys x

-- what decides membership: the parent of each role, and the members of each group
pub record Structure : Type 0 where
  pub parent : List ℕ → Option (List ℕ)
  pub members : List ℕ → Option (List Principal)

-- a tenant's
abbrev pub structure_of : Tenant → Structure
structure_of t =
    record {
      parent = λ i. option_and_then (λ r. r.parent) (having_id (λ r. r.id) t.roles i);
      members = λ i. option_map (λ g. g.members) (having_id (λ g. g.id) t.groups i);
    }

-- ---- the relations

-- one or more parent steps lead from the first role to the second
pub data Below (parent : List ℕ → Option (List ℕ)) : List ℕ → List ℕ → Type 0 where
  one_step : {a b : List ℕ} → parent a ≡ Some b → Below parent a b
  more_steps : {a b c : List ℕ} → parent a ≡ Some c → Below parent c b → Below parent a b

-- who has this id and this role is a member of the principal
pub data Member (s : Structure) (who : List ℕ) (role : Option (List ℕ)) : Principal → Type 0 where
  itself : Member s who role (to.User who)
  in_role : {r : List ℕ} → role ≡ Some r → Member s who role (to.Role r)
  at_role : {r : List ℕ} → role ≡ Some r → Member s who role (to.Subordinates r)
  below_role : {q r : List ℕ} → role ≡ Some q → Below s.parent q r → Member s who role (to.Subordinates r)
  in_group : {i : List ℕ} {ms : List Principal} {p : Principal}
      → s.members i ≡ Some ms → Has ms p → Member s who role p → Member s who role (to.Group i)

-- both have a role, and the first role is below the second
abbrev pub RoleBelow : (List ℕ → Option (List ℕ)) → Option (List ℕ) → Option (List ℕ) → Type 0
RoleBelow parent (Some a) (Some b) = Below parent a b
RoleBelow parent (Some a) None = ⊥
RoleBelow parent None role = ⊥

-- the user is a member of the principal
abbrev pub IsMember : Tenant → User → Principal → Type 0
IsMember t u p = Member (structure_of t) u.id u.role p

-- the first user is above the second
abbrev pub IsAbove : Tenant → User → User → Type 0
IsAbove t u x = RoleBelow (structure_of t).parent x.role u.role

-- the principal reaches the user: a member, or a user above a member
abbrev pub Reaches : Tenant → Principal → User → Type 0
Reaches t p u = IsMember t u p ⊎ ((x : User) × Has t.users x × IsAbove t u x × IsMember t x p)

-- ---- the same, computed

-- at most so many parent steps lead from the first role to the second
abbrev pub is_below_within : ℕ → (List ℕ → Option (List ℕ)) → List ℕ → List ℕ → Bool
is_below_within zero parent a b = false
is_below_within (suc n) parent a b = in_case (parent a) false (λ c. bytes_eq c b || is_below_within n parent c b)

-- the same of members, through at most so many roles and so many groups
abbrev pub is_member_within : ℕ → ℕ → Structure → List ℕ → Option (List ℕ) → Principal → Bool
is_member_within n m s who role (to.User i) = bytes_eq i who
is_member_within n m s who role (to.Role r) = in_case role false (λ q. bytes_eq q r)
is_member_within n m s who role (to.Subordinates r) = in_case role false (λ q. bytes_eq q r || is_below_within n s.parent q r)
is_member_within n zero s who role (to.Group i) = false
is_member_within n (suc m) s who role (to.Group i) = in_case (s.members i) false (list_any (is_member_within n m s who role))

-- the steps that suffice to go through every role
abbrev pub role_steps : Tenant → ℕ
role_steps t = suc (length t.roles)

-- one or more parent steps lead from the first role to the second
unfoldable pub is_below : Tenant → List ℕ → List ℕ → Bool
is_below t a b = is_below_within (role_steps t) (structure_of t).parent a b

-- the user is a member of the principal
unfoldable pub is_member : Tenant → User → Principal → Bool
is_member t u p = is_member_within (role_steps t) (length t.groups) (structure_of t) u.id u.role p

-- the first user is above the second
abbrev pub is_above : Tenant → User → User → Bool
is_above t u x = in_case x.role false (λ a. in_case u.role false (λ b. is_below t a b))

-- the principal reaches the user
unfoldable pub reaches : Tenant → Principal → User → Bool
reaches t p u = is_member t u p || list_any (λ x. is_above t u x && is_member t x p) t.users

-- the same where the role hierarchy counts; where it doesn't, members alone are reached
abbrev pub reaches_on : (hierarchy : Bool) → Tenant → Principal → User → Bool
reaches_on true t p u = reaches t p u
reaches_on false t p u = is_member t u p
