-- Ids and principals as requests spell them, and what they name.
-- Source of the kinds: Salesforce, "Record-Level Security". How a request spells a principal is this product's own.
use Rattle.std.specs.Prelude.{ℕ, Bool, not, List, [], Option, None, is_none, is_some, unwrap_or}
use Rattle.base_value.specs.Id.{id_in}
use Rattle.base_value.specs.declared.sharing.Principal.{Principal}
use Rattle.base_value.specs.declared.sharing.Principal.TheVariants as to
use Rattle.model.specs.declared.people_bodies.PrincipalKind.{PrincipalKind}
use Rattle.model.specs.declared.people_bodies.PrincipalKind.TheVariants as kind
pub use Rattle.model.specs.declared.people_bodies.Spelled.{Spelled}
use Rattle.model.specs.declared.refusal.Refusal.TheVariants.{MalformedId, InvalidReference}
use Rattle.model.specs.Cases.{in_case}
use Rattle.model.specs.Rules.{Rule, refuse_if}
use Rattle.model.specs.Tenant.{Group, Role, Tenant}
use Rattle.model.specs.World.{having_id, user_at}

-- ---- ids

-- MALFORMED_ID: the text isn't an id
abbrev pub bad_id : List ℕ → Rule
bad_id text = refuse_if (is_none (id_in text)) (MalformedId text)

-- the same of an id that may be missing
abbrev pub bad_id_if_any : Option (List ℕ) → Rule
bad_id_if_any text = in_case text None bad_id

-- the id that a text spells; a text that spells none, which is refused, has no characters of one
abbrev pub spelled_id : List ℕ → List ℕ
spelled_id text = unwrap_or (id_in text) []

-- ---- principals

-- the principal of a kind that has this id
abbrev pub kind_of : PrincipalKind → List ℕ → Principal
kind_of kind.User = to.User
kind_of kind.Role = to.Role
kind_of kind.Subordinates = to.Subordinates
kind_of kind.Group = to.Group

-- the principal that is spelled
abbrev pub principal_of : Spelled → Principal
principal_of p = kind_of p.kind (spelled_id p.text)

-- the role with this id
abbrev pub role_at : Tenant → List ℕ → Option Role
role_at t i = having_id (λ r. r.id) t.roles i

-- the group with this id
abbrev pub group_at : Tenant → List ℕ → Option Group
group_at t i = having_id (λ g. g.id) t.groups i

-- the principal names a thing of its kind
abbrev pub is_there : Tenant → Principal → Bool
is_there t (to.User i) = is_some (user_at t.users i)
is_there t (to.Role i) = is_some (role_at t i)
is_there t (to.Subordinates i) = is_some (role_at t i)
is_there t (to.Group i) = is_some (group_at t i)

-- INVALID_CROSS_REFERENCE_KEY, under the name of the member that spells it
abbrev pub not_there : Tenant → (member : List ℕ) → Principal → Rule
not_there t member p = refuse_if (not (is_there t p)) (InvalidReference member)
