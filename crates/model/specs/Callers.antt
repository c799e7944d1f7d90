-- Who calls: the user whom a key `ORG!USER!SECRET` names and whose secret it has.
-- Source of the digest: FIPS 180-4, SHA-256. The form of a key is this product's own.
use Rattle.std.specs.Prelude.{◌≡◌, ◌&&◌, ℕ, Bool, ◌==◌, nat_lt, if◌then◌else◌, List, length, Option, Some, None}
use Rattle.std.specs.List.{position_or_len, before_first, after_first}
use Rattle.std.specs.Option.{option_and_then, option_map}
use Rattle.std.specs.Str.{bytes_eq}
use Rattle.sha2.specs.Sha256.{sha256}
use Rattle.base_value.specs.Id.{id_in, number_in}
use Rattle.model.specs.declared.caller.Caller.{Caller}
use Rattle.model.specs.Tenant.{Tenant, User}
use Rattle.model.specs.World.{World, org_prefix, tenant_at, user_at}

-- `!`
abbrev pub is_bang : ℕ → Bool
is_bang c = c == 33

-- what stands before and behind the first `!`, if there is one
unfoldable pub cut : List ℕ → Option (List ℕ × List ℕ)
cut text = if nat_lt (position_or_len is_bang text) (length text) then Some (before_first is_bang text, after_first is_bang text) else None

-- what a key names: the organisation's number, the user's id, and the secret
pub record Named : Type 0 where
  pub org : ℕ
  pub user : List ℕ
  pub secret : List ℕ

-- the number of the organisation and the id of the user that two texts name
abbrev pub named_ids : List ℕ → List ℕ → Option (ℕ × List ℕ)
named_ids org user = option_and_then (λ o. option_and_then (λ u. option_map (λ n. (n, u)) (number_in org_prefix o)) (id_in user)) (id_in org)

abbrev pub named_by : List ℕ → List ℕ → List ℕ → Option Named
named_by org user secret = option_map (λ ids. record { org = ids.0; user = ids.1; secret = secret }) (named_ids org user)

-- a key is cut at its first two `!`
abbrev pub named : List ℕ → Option Named
named key = option_and_then (λ a. option_and_then (λ b. named_by a.0 b.0 b.1) (cut a.1)) (cut key)

-- the user is active, and the secret is the user's
abbrev pub is_admitted : Named → User → Bool
is_admitted n u = u.active && bytes_eq u.digest (sha256 n.secret)

-- the user as a caller, if admitted
abbrev pub admitted : Named → User → Option Caller
admitted n u = if is_admitted n u then Some (record { org = n.org; user = u.id; admin = u.admin }) else None

-- the caller of whom these are named, in the organisation that is named
abbrev pub caller_of : Named → Tenant → Option Caller
caller_of n t = option_and_then (admitted n) (user_at t.users n.user)

-- the caller whom a key names, if its secret is right: the organisation is found first
abbrev pub caller_in : World → List ℕ → Option Caller
caller_in w key = option_and_then (λ n. option_and_then (caller_of n) (tenant_at w n.org)) (named key)

-- the caller is this user of this organisation of the world
pub record IsUser (w : World) (c : Caller) (t : Tenant) (u : User) : Type 0 where
  pub tenant : tenant_at w c.org ≡ Some t
  pub user : user_at t.users c.user ≡ Some u
  pub admin : u.admin ≡ c.admin
