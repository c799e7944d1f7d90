-- What becomes of a user who is given a new secret by whoever holds the store's file, as one whose key is lost.
-- That such a user is an active administrator afterwards, and the order of the refusals, are this product's own.
use Rattle.std.specs.Prelude.{ℕ, true, if◌then◌else◌, List, Option, Some, None, Result, Ok, Err}
use Rattle.std.specs.Option.{option_and_then, option_map}
use Rattle.model.specs.declared.people_bodies.UserChange.{UserChange}
use Rattle.model.specs.declared.refusal.Refusal.{Refusal}
use Rattle.model.specs.declared.refusal.Refusal.TheVariants.{NotFound, SecretRefused}
use Rattle.model.specs.Callers.{named_ids}
use Rattle.model.specs.Cases.{in_case}
use Rattle.model.specs.Organisations.{is_secret}
use Rattle.model.specs.People.{set_user}
use Rattle.model.specs.Tenant.{Tenant}
use Rattle.model.specs.World.{World, tenant_at, user_in, with_tenant}

-- what is changed: the secret, and that the user is an active administrator
abbrev pub key_change : (secret : List ℕ) → UserChange
key_change secret = record { role = None; name = None; secret = Some secret; admin = Some true; active = Some true }

-- the number of an organisation and the id of a user, if the organisation has such a user
abbrev pub user_with_id : World → ℕ × List ℕ → Option (ℕ × List ℕ)
user_with_id w ids = option_map (λ u. ids) (user_in w ids.0 ids.1)

-- the number and the id that two texts name, if the organisation has such a user
abbrev pub user_named : World → (org user : List ℕ) → Option (ℕ × List ℕ)
user_named w org user = option_and_then (user_with_id w) (named_ids org user)

-- the organisation once the user whom a text spells is changed so
abbrev pub with_key : (user secret : List ℕ) → Tenant → Tenant
with_key user secret t = (set_user t user (key_change secret)).tenant

-- the world once the organisation with this number is changed so
abbrev pub world_with_key : World → (org : ℕ) → (user secret : List ℕ) → World
world_with_key w org user secret = in_case (tenant_at w org) w (λ t. with_tenant w org (with_key user secret t))

-- a new secret for the user of an organisation whom two texts name: the organisation's number and the user's id, and the world
-- with it. NOT_FOUND where they name none, and then SECRET_REFUSED where it is no secret
abbrev pub user_set_verdict : (org user secret : List ℕ) → World → Result ((ℕ × List ℕ) × World) Refusal
user_set_verdict org user secret w =
    in_case (user_named w org user) (Err NotFound)
    (λ ids. if is_secret secret then Ok (ids, world_with_key w ids.0 user secret) else Err SecretRefused)
