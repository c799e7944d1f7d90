-- New organisations. What a new one has, and the form of a secret, are this product's own.
use Rattle.std.specs.Prelude.{ℕ, ◌+◌, Bool, true, ◌&&◌, nat_le, if◌then◌else◌, List, [], ◌∷◌, ◌++◌, length, Option, Some, None, Result, Ok, Err}
use Rattle.std.specs.List.{list_all}
use Rattle.base_value.specs.Id.{is_digit62, made}
use Rattle.base_value.specs.Numerals.{is_within}
use Rattle.model.specs.declared.limit.Limit.TheVariants as limit
use Rattle.model.specs.declared.refusal.Refusal.{Refusal}
use Rattle.model.specs.declared.refusal.Refusal.TheVariants.{LimitExceeded, NameRefused, SecretRefused}
use Rattle.model.specs.Limits.{limit_number, secret_least, secret_most}
use Rattle.model.specs.Sound.{is_name}
use Rattle.model.specs.Tenant.{Tenant, User}
use Rattle.model.specs.World.{World, user_prefix}

-- a secret: 16 to 64 ASCII letters and digits
unfoldable pub is_secret : List ℕ → Bool
is_secret secret = list_all is_digit62 secret && is_within secret_least secret_most (length secret)

-- the id of an organisation's first user, which is made of number 0
abbrev pub first_user : List ℕ
first_user = made user_prefix 0

-- the administrator of a new organisation has its name, and no role
abbrev pub administrator : List ℕ → List ℕ → User
administrator name digest = record { id = first_user; name = name; digest = digest; role = None; admin = true; active = true }

-- a new organisation has its administrator and nothing else
abbrev pub fresh : List ℕ → List ℕ → Tenant
fresh name digest =
    record {
      name = name;
      counter = 1;
      rule_numbers = 0;
      objects = [];
      users = administrator name digest ∷ [];
      roles = [];
      groups = [];
      sharing_rules = [];
      records = [];
      shares = [];
      job = None;
    }

-- the world with a new organisation at its end
abbrev pub with_org : World → List ℕ → List ℕ → World
with_org w name digest = w ++ fresh name digest ∷ []

-- whether one more organisation would be too many
abbrev pub is_full : World → Bool
is_full w = nat_le (limit_number limit.Organisations) (length w)

-- a new organisation with this name, whose administrator's secret has this digest: its number and the world with it, unless
-- there are too many already
abbrev pub org_verdict : List ℕ → List ℕ → World → Result (ℕ × World) Refusal
org_verdict name digest w = if is_full w then Err (LimitExceeded limit.Organisations) else Ok (length w + 1, with_org w name digest)

-- why a new organisation is refused, if it is: for its name, its secret, or the number of organisations, in this order
abbrev pub org_refusal : World → List ℕ → List ℕ → Option Refusal
org_refusal w name secret =
    if is_name name then (if is_secret secret then (if is_full w then Some (LimitExceeded limit.Organisations) else None) else Some SecretRefused) else Some NameRefused
