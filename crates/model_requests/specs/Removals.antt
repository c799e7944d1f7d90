-- The end of a role, and of a group: refused while something names it, so that nothing names what isn't there.
-- Source: Salesforce, "UserRole" and "Group". That one which is in use isn't deleted, and the order of the rules, are this product's
-- own.
use Rattle.std.specs.Prelude.{ℕ, Bool, false, not, ◌&&◌, List, [], ◌∷◌, filter, bytes_eq, codes, Option, is_none}
use Rattle.std.specs.List.{list_any}
use Rattle.base_value.specs.declared.sharing.Principal.{Principal}
use Rattle.base_value.specs.declared.sharing.Principal.TheVariants as to
use Rattle.model.specs.declared.refusal.Refusal.TheVariants.{DeleteFailed, NotFound}
use Rattle.model.specs.Cases.{in_case}
use Rattle.model.specs.Principals.{bad_id, group_at, role_at, spelled_id}
use Rattle.model.specs.Rules.{Rule, refuse_if}
use Rattle.model.specs.Tenant.{Source, owned, meets, Tenant}
use Rattle.model.specs.Verdict.{Verdict, accept, done, judged}

-- ---- what names a role or a group

-- the principal is of the role with this id
abbrev pub is_of_role : List ℕ → Principal → Bool
is_of_role i (to.User u) = false
is_of_role i (to.Role r) = bytes_eq r i
is_of_role i (to.Subordinates r) = bytes_eq r i
is_of_role i (to.Group g) = false

-- the principal is the group with this id
abbrev pub is_group : List ℕ → Principal → Bool
is_group i (to.User u) = false
is_group i (to.Role r) = false
is_group i (to.Subordinates r) = false
is_group i (to.Group g) = bytes_eq g i

-- it is this id
abbrev pub is_id : List ℕ → Option (List ℕ) → Bool
is_id i o = in_case o false (λ x. bytes_eq x i)

-- an owner rule's source is such a principal
abbrev pub is_from : (Principal → Bool) → Source → Bool
is_from is (owned p) = is p
is_from is (meets text) = false

-- DELETE_FAILED: a member of such things names it
abbrev pub named_in : (things member : List ℕ) → Bool → Rule
named_in things member names = refuse_if names (DeleteFailed things member)

-- sharing rules and manual shares that name such a principal
abbrev pub shared_so : Tenant → (Principal → Bool) → List Rule
shared_so t is =
    named_in (codes "sharing-rules") (codes "from") (list_any (λ r. is_from is r.source) t.sharing_rules)
    ∷ named_in (codes "sharing-rules") (codes "to") (list_any (λ r. is r.to) t.sharing_rules)
    ∷ named_in (codes "shares") (codes "to") (list_any (λ s. is s.to) t.shares)
    ∷ []

-- ---- the end of a role

-- what names the role: a user, a role below it, a group, a sharing rule or a share
abbrev pub role_uses : Tenant → List ℕ → List Rule
role_uses t i =
    named_in (codes "users") (codes "role") (list_any (λ u. is_id i u.role) t.users)
    ∷ named_in (codes "roles") (codes "parent") (list_any (λ r. is_id i r.parent) t.roles)
    ∷ named_in (codes "groups") (codes "members") (list_any (λ g. list_any (is_of_role i) g.members) t.groups)
    ∷ shared_so t (is_of_role i)

abbrev pub remove_role_rules : Tenant → (role : List ℕ) → List Rule
remove_role_rules t role =
    bad_id role ∷ refuse_if (is_none (role_at t (spelled_id role))) NotFound ∷ role_uses t (spelled_id role)

-- the organisation without the role
abbrev pub without_role : List ℕ → Tenant → Tenant
without_role i t = record t { roles = filter (λ r. not (bytes_eq r.id i)) t.roles }

abbrev pub remove_role : Tenant → (role : List ℕ) → Verdict
remove_role t role = judged t (remove_role_rules t role) (accept done (without_role (spelled_id role) t))

-- ---- the end of a group

-- what names the group: another group, a sharing rule or a share
abbrev pub group_uses : Tenant → List ℕ → List Rule
group_uses t i =
    named_in (codes "groups") (codes "members") (list_any (λ g. not (bytes_eq g.id i) && list_any (is_group i) g.members) t.groups)
    ∷ shared_so t (is_group i)

abbrev pub remove_group_rules : Tenant → (group : List ℕ) → List Rule
remove_group_rules t group =
    bad_id group ∷ refuse_if (is_none (group_at t (spelled_id group))) NotFound ∷ group_uses t (spelled_id group)

-- the organisation without the group
abbrev pub without_group : List ℕ → Tenant → Tenant
without_group i t = record t { groups = filter (λ g. not (bytes_eq g.id i)) t.groups }

abbrev pub remove_group : Tenant → (group : List ℕ) → Verdict
remove_group t group = judged t (remove_group_rules t group) (accept done (without_group (spelled_id group) t))
