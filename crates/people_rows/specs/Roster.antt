-- An organisation's users, roles and groups: what is looked for, the lists of their rows, and the keys of these.
-- Source: Salesforce, "User", "UserRole" and "Group". How their rows are kept is this product's own.
use Rattle.std.specs.Prelude.{◌≡◌, ℕ, Bool, false, List, [], bytes_eq, map, Option, Result, Ok, Err, Vec}
use Rattle.std.specs.Option.{option_and_then}
use Rattle.store_kv.specs.Tables.{Tables}
use Rattle.store_rows.specs.declared.fail.StoreFail.{StoreFail}
use Rattle.store_rows.specs.declared.fail.StoreFail.TheVariants.{Damaged, Keeper, Memory}
use Rattle.store_rows.specs.declared.group.GroupRow.{GroupRow}
use Rattle.store_rows.specs.declared.role.RoleRow.{RoleRow}
use Rattle.store_rows.specs.declared.user.UserRow.{UserRow}
use Rattle.store_rows.specs.Keys.{Key, Group, Role, User}
use Rattle.model.specs.Cases.{in_case}
use Rattle.model.specs.Principals.{group_at, role_at}
use Rattle.model.specs.Tenant as model
use Rattle.model.specs.Tenant.{Tenant}
use Rattle.store_abstraction.specs.Local.{StandsIn}
use Rattle.store_abstraction.specs.Metadata.{group_of, role_of, user_of}
use Rattle.store_abstraction.specs.Plan.{OrgPlan}

-- the role, and the group, with this id of an organisation; none where there is no such organisation
abbrev pub role_in : Option Tenant → List ℕ → Option model.Role
role_in t i = option_and_then (λ u. role_at u i) t

abbrev pub group_in : Option Tenant → List ℕ → Option model.Group
group_in t i = option_and_then (λ u. group_at u i) t

-- ---- keys

-- the key of the row of the user, of the role, and of the group with this id
abbrev pub is_user_key : (id : List ℕ) → Key → Bool
is_user_key i (User org j) = bytes_eq j i
is_user_key i _ = false

abbrev pub is_role_key : (id : List ℕ) → Key → Bool
is_role_key i (Role org j) = bytes_eq j i
is_role_key i _ = false

abbrev pub is_group_key : (id : List ℕ) → Key → Bool
is_group_key i (Group org j) = bytes_eq j i
is_group_key i _ = false

-- ---- lists of rows

-- rows that are read are what each tenant has there, or none, for which the organisation's rows stand, and such are never damaged
abbrev pub ListsIn : {U A : Type 0} → (org : ℕ) → (OrgPlan → Option Tenant → List U) → Tables → Result (Vec U A) StoreFail → Type 0
ListsIn n value m (Ok rows) = (q : OrgPlan) (t : Option Tenant) → StandsIn n q m t → rows.items ≡ value q t
ListsIn n value m (Err Damaged) = (q : OrgPlan) (t : Option Tenant) → StandsIn n q m t → ⊥
ListsIn n value m (Err Keeper) = Unit {0}
ListsIn n value m (Err Memory) = Unit {0}

-- the rows of an organisation's users, roles and groups, in the order of their ids; none where there is no such organisation
abbrev pub user_rows : (org : ℕ) → Option Tenant → List UserRow
user_rows org t = in_case t [] (λ u. map (user_of org) u.users)

abbrev pub role_rows : (org : ℕ) → Option Tenant → List RoleRow
role_rows org t = in_case t [] (λ u. map (role_of org) u.roles)

abbrev pub group_rows : (org : ℕ) → Option Tenant → List GroupRow
group_rows org t = in_case t [] (λ u. map (group_of org) u.groups)
