-- What is to go, and what names it. No public contract reaches these words.
-- Source: Salesforce, "UserRole" and "Group". That one which is in use isn't deleted is this product's own.
use Rattle.std.specs.Prelude.{ℕ, Bool, false, not, ◌&&◌, List, [], ◌∷◌, ◌++◌, codes}
use Rattle.std.specs.List.{list_any}
use Rattle.std.specs.Str.{bytes_eq}
use Rattle.base_value.specs.declared.sharing.Principal.{Principal}
use Rattle.base_value.specs.declared.sharing.RuleSource.{RuleSource}
use Rattle.base_value.specs.declared.sharing.RuleSource.TheVariants as source
use Rattle.model.specs.Rules.{Rule}
use Rattle.model.specs.Tenant.{Tenant}
use Rattle.model_requests.specs.Removals.{group_uses, is_from, is_group, is_id, is_of_role, named_in, role_uses, shared_so}
use Rattle.people_removal.specs.declared.named.Named.{Named}
use Rattle.people_removal.specs.declared.named.Named.TheVariants as named

-- the principal is of the role, or is the group
abbrev pub names : Named → Principal → Bool
names (named.Role i) = is_of_role i
names (named.Group i) = is_group i

-- the group with this id and these members has such a member. A group in itself doesn't count
abbrev pub is_in : Named → (id : List ℕ) → (members : List Principal) → Bool
is_in (named.Role i) id members = list_any (is_of_role i) members
is_in (named.Group i) id members = not (bytes_eq id i) && list_any (is_group i) members

-- an owner rule's source, as its row has it, is such a principal
abbrev pub is_from_part : (Principal → Bool) → RuleSource → Bool
is_from_part is (source.Owner p) = is p
is_from_part is (source.Criteria text) = false

-- ---- rules

-- DELETE_FAILED by the users and the roles that name a role
abbrev pub holders : Tenant → List ℕ → List Rule
holders t i =
    named_in (codes "users") (codes "role") (list_any (λ u. is_id i u.role) t.users)
    ∷ named_in (codes "roles") (codes "parent") (list_any (λ r. is_id i r.parent) t.roles)
    ∷ []

-- by the groups
abbrev pub containers : Tenant → Named → List Rule
containers t n = named_in (codes "groups") (codes "members") (list_any (λ g. is_in n g.id g.members) t.groups) ∷ []

-- by the sharing rules
abbrev pub rules_with : Tenant → Named → List Rule
rules_with t n =
    named_in (codes "sharing-rules") (codes "from") (list_any (λ r. is_from (names n) r.source) t.sharing_rules)
    ∷ named_in (codes "sharing-rules") (codes "to") (list_any (λ r. names n r.to) t.sharing_rules)
    ∷ []

-- by the manual shares
abbrev pub shares_with : Tenant → Named → List Rule
shares_with t n = named_in (codes "shares") (codes "to") (list_any (λ s. names n s.to) t.shares) ∷ []

-- by sharing rules and manual shares, and by groups too
abbrev pub shared_with : Tenant → Named → List Rule
shared_with t n = shared_so t (names n)

abbrev pub principals_with : Tenant → Named → List Rule
principals_with t n = containers t n ++ shared_with t n

-- by all that may name it
abbrev pub uses : Tenant → Named → List Rule
uses t (named.Role i) = role_uses t i
uses t (named.Group i) = group_uses t i
