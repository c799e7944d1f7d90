-- Who asks in an organisation and at which moment, and what is done there before each request.
-- Source: this product's own.
use Rattle.std.specs.Prelude.{◌≡◌, ℕ, pos, Some}
use Rattle.model.specs.declared.caller.Caller.{Caller}
use Rattle.model.specs.Jobs.{job_step}
use Rattle.model.specs.Paths.{Asked}
use Rattle.model.specs.Tenant.{Tenant, User}
use Rattle.model.specs.World.{user_at}

-- a user who asks in an organisation at this moment
abbrev pub asking : Tenant → ℕ → User → Asked
asking t now u = record { tenant = t; user = u; now = pos now }

-- the caller is the one who asks, at this moment
pub record IsAsking (c : Caller) (moment : ℕ) (a : Asked) : Type 0 where
  pub user : user_at a.tenant.users c.user ≡ Some a.user
  pub admin : a.user.admin ≡ c.admin
  pub now : a.now ≡ pos moment

-- what is done in the organisation before a request is judged: a step of the change of a field's type that is under way
abbrev pub background : Tenant → Tenant
background t = job_step t

-- the same user, once that is done
abbrev pub stepped : Asked → Asked
stepped a = record a { tenant = background a.tenant }
