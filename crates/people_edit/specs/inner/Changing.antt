-- What changes of users, roles and groups are judged by, and the rows that they put. No public contract reaches these words.
-- Source: Salesforce, "UserRole": the hierarchy of roles. The order of the rules is this product's own.
use Rattle.std.specs.Prelude.{◌≡◌, ◌||◌, ◌&&◌, ℕ, suc, Bool, not, IsTrue, List, [], ◌∷◌, length, map, codes, bytes_eq, encode_utf8_all, Option, Some, None, IfSome, is_none, unwrap_or, Result, Ok, Err}
use Rattle.std.specs.List.{find, list_any}
use Rattle.std.specs.Option.{option_and_then}
use Rattle.sha2.specs.Sha256.{sha256}
use Rattle.base_value.specs.declared.sharing.Principal.{Principal}
use Rattle.store_rows.specs.declared.fail.StoreFail.{StoreFail}
use Rattle.store_rows.specs.declared.group.GroupRow.{GroupRow}
use Rattle.store_rows.specs.declared.role.RoleRow.{RoleRow}
use Rattle.store_rows.specs.declared.user.UserRow.{UserRow}
use Rattle.model.specs.Cases.{in_case}
use Rattle.model.specs.declared.refusal.Refusal.TheVariants.{InvalidReference, LastAdministrator, NotFound}
use Rattle.model.specs.declared.limit.Limit.TheVariants as limit
use Rattle.model.specs.Membership.{is_below, is_below_within}
use Rattle.model.specs.declared.people_bodies.GroupChange.{GroupChange}
use Rattle.model.specs.declared.people_bodies.RoleChange.{RoleChange}
use Rattle.model.specs.declared.people_bodies.UserChange.{UserChange}
use Rattle.model.specs.Organisations.{is_secret}
use Rattle.model.specs.People.{bad_name_if_any, changed_group, changed_role, changed_user}
use Rattle.model.specs.Principals.{group_at, not_there, role_at, spelled_id}
use Rattle.model.specs.Rules.{Rule, first_of, over_limit, refuse_if}
use Rattle.model.specs.Tenant.{Tenant}
use Rattle.model.specs.World.{user_at}
use Rattle.people_edit.specs.inner.Judging.{lacks_role}
use Rattle.store_abstraction.specs.declared.fail.EditFail.{EditFail}
use Rattle.store_abstraction.specs.declared.fail.EditFail.TheVariants.{Refused, Store}
use Rattle.store_abstraction.specs.Metadata.{group_of, role_of, user_of}

-- ---- rows

-- the row that was read, if there is one; NOT_FOUND where there is none
abbrev pub found : {U : Type 0} → Result (Option U) StoreFail → Result U EditFail
found (Ok (Some row)) = Ok row
found (Ok None) = Err (Refused NotFound)
found (Err e) = Err (Store e)

-- there is such a thing, and this row is made of it
pub record IsRowAs {X U : Type 0} (made : X → U) (there : Option X) (row : U) : Type 0 where
  pub it : X
  pub is_there : there ≡ Some it
  pub is : row ≡ made it

-- the row of a user, of a role and of a group with what a body says of it; the role or the members that it says are these
abbrev pub user_row_with : UserChange → (named : Option (List ℕ)) → UserRow → UserRow
user_row_with b named row =
    record row {
      name = unwrap_or b.name row.name;
      digest = in_case b.secret row.digest (λ s. sha256 (encode_utf8_all s));
      role = in_case b.role row.role (λ x. named);
      admin = unwrap_or b.admin row.admin;
      active = unwrap_or b.active row.active;
    }

abbrev pub role_row_with : RoleChange → (named : Option (List ℕ)) → RoleRow → RoleRow
role_row_with b named row = record row { name = unwrap_or b.name row.name; parent = in_case b.parent row.parent (λ x. named) }

abbrev pub group_row_with : GroupChange → (named : List Principal) → GroupRow → GroupRow
group_row_with b named row = record row { name = unwrap_or b.name row.name; members = in_case b.members row.members (λ x. named) }

-- the secret, if a body says one, is one: its characters are its bytes
abbrev pub HasSecret : UserChange → Type 0
HasSecret b = IfSome b.secret (λ s. IsTrue (is_secret s))

abbrev pub IsChangedUser : (org : ℕ) → Tenant → (user : List ℕ) → UserChange → UserRow → Type 0
IsChangedUser org t user b row = HasSecret b → IsRowAs (λ u. user_of org (changed_user b u)) (user_at t.users (spelled_id user)) row

abbrev pub IsChangedRole : (org : ℕ) → Tenant → (role : List ℕ) → RoleChange → RoleRow → Type 0
IsChangedRole org t role b = IsRowAs (λ r. role_of org (changed_role b r)) (role_at t (spelled_id role))

abbrev pub IsChangedGroup : (org : ℕ) → Tenant → (group : List ℕ) → GroupChange → GroupRow → Type 0
IsChangedGroup org t group b = IsRowAs (λ g. group_of org (changed_group b g)) (group_at t (spelled_id group))

-- ---- who administers, by the rows of users

-- the row of an active administrator
abbrev pub row_administers : UserRow → Bool
row_administers row = row.active && row.admin

-- the same of another user than the one with this id
abbrev pub is_another : (id : List ℕ) → UserRow → Bool
is_another i row = row_administers row && not (bytes_eq row.id i)

-- LAST_ADMINISTRATOR: where the row of an active administrator becomes this one, nobody who is active administers the organisation.
-- Where the user was none, somebody else is: in a sound organisation this is the model's rule (`no_administrator`)
abbrev pub none_administers : (org : ℕ) → Tenant → (administered : Bool) → UserRow → Rule
none_administers org t administered row =
    refuse_if (administered && not (row_administers row || list_any (is_another row.id) (map (user_of org) t.users))) LastAdministrator

-- ---- the hierarchy of roles, by their rows

-- the role with this id
abbrev pub row_with : List RoleRow → List ℕ → Option RoleRow
row_with roles i = find (λ r. bytes_eq i r.id) roles

-- the role above the one with this id
abbrev pub above_in : List RoleRow → List ℕ → Option (List ℕ)
above_in roles i = option_and_then (λ (r : RoleRow). r.parent) (row_with roles i)

-- a role that isn't there, the role itself, or one below it
abbrev pub is_bad_above : List RoleRow → (role parent : List ℕ) → Bool
is_bad_above roles role parent =
    is_none (row_with roles parent)
    || (bytes_eq parent role || is_below_within (suc (length roles)) (above_in roles) parent role)

-- INVALID_CROSS_REFERENCE_KEY: the same by the tenant, of an id that may be missing
abbrev pub bad_parent_id : Tenant → (member : List ℕ) → (role : List ℕ) → (parent : Option (List ℕ)) → Rule
bad_parent_id t member role parent =
    in_case parent None (λ p. refuse_if (is_none (role_at t p) || (bytes_eq p role || is_below t p role)) (InvalidReference member))

-- ---- what a change of a row is judged by, where what it names is this

abbrev pub user_row_rules : (org : ℕ) → Tenant → UserRow → UserChange → (named : Option (List ℕ)) → List Rule
user_row_rules org t row b named =
    bad_name_if_any b.name
    ∷ lacks_role t (codes "role") named
    ∷ none_administers org t (row_administers row) (user_row_with b named row)
    ∷ []

abbrev pub role_row_rules : Tenant → RoleRow → RoleChange → (named : Option (List ℕ)) → List Rule
role_row_rules t row b named = bad_name_if_any b.name ∷ bad_parent_id t (codes "parent") row.id named ∷ []

abbrev pub group_row_rules : Tenant → GroupChange → (named : List Principal) → List Rule
group_row_rules t b named =
    bad_name_if_any b.name
    ∷ first_of (not_there t (codes "members")) named
    ∷ over_limit ((limit.MembersPerGroup, length named) ∷ [])
    ∷ []
