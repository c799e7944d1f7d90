-- A world: all organisations, and how their parts are found.
-- Source of the prefixes: Salesforce, "Standard Field Record ID Prefix Decoder". That organisations are numbered is this
-- product's own.
use Rattle.std.specs.Prelude.{ℕ, zero, suc, if◌then◌else◌, List, [], ◌∷◌, codes, Option, Some, None, slice_get}
use Rattle.std.specs.Str.{bytes_eq}
use Rattle.base_value.specs.Id.{made}
use Rattle.model.specs.Tenant.{Tenant, User}

-- organisations are numbered from 1, in their order
abbrev pub World : Type 0
World = List Tenant

-- the organisation with this number
abbrev pub tenant_at : World → ℕ → Option Tenant
tenant_at w zero = None
tenant_at w (suc n) = slice_get w n

-- the world with this in place of the organisation with this number
abbrev pub with_tenant : World → ℕ → Tenant → World
with_tenant w zero t = w
with_tenant [] (suc n) t = []
with_tenant (u ∷ w) (suc zero) t = t ∷ w
with_tenant (u ∷ w) (suc (suc n)) t = u ∷ with_tenant w (suc n) t

-- the thing with this id
abbrev pub having_id : {X : Type 0} → (X → List ℕ) → List X → List ℕ → Option X
having_id id [] i = None
having_id id (x ∷ xs) i = if bytes_eq i (id x) then Some x else having_id id xs i

abbrev pub user_id : User → List ℕ
user_id u = u.id

-- the user with this id
abbrev pub user_at : List User → List ℕ → Option User
user_at users i = having_id user_id users i

-- the users of an organisation, if there is one
abbrev pub users_in : Option Tenant → List User
users_in None = []
users_in (Some t) = t.users

-- the users of the organisation with this number, in the order of their ids
abbrev pub users_at : World → ℕ → List User
users_at w org = users_in (tenant_at w org)

-- the user with this id of the organisation with this number
abbrev pub user_in : World → ℕ → List ℕ → Option User
user_in w org i = user_at (users_at w org) i

-- ---- the prefixes of ids

abbrev pub org_prefix : List ℕ
org_prefix = codes "00D"

abbrev pub user_prefix : List ℕ
user_prefix = codes "005"

abbrev pub role_prefix : List ℕ
role_prefix = codes "00E"

abbrev pub group_prefix : List ℕ
group_prefix = codes "00G"

-- the id of the organisation with this number
abbrev pub org_id : ℕ → List ℕ
org_id n = made org_prefix n
