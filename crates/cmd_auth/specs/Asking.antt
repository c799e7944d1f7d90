-- What a user asks of an organisation, by the words of a command: who is named is found first, then a step of the change of a field's
-- type is made, if one is under way, and then it is done.
-- Source: this product's own.
use Rattle.std.specs.Prelude.{ℕ, Option, Some, None}
use Rattle.model.specs.declared.caller.Caller.{Caller}
use Rattle.model.specs.Callers.{Named, caller_of}
use Rattle.model.specs.Cases.{in_case}
use Rattle.model.specs.Paths.{Asked}
use Rattle.model.specs.Tenant.{Tenant}
use Rattle.model.specs.World.{World, tenant_at, user_at, with_tenant}
use Rattle.model.specs.Asker.{asking, background}

-- what it comes to of one who asks: an answer, and what becomes of the organisation
abbrev pub Doing : Type 0 → Type 0
Doing X = Asked → X × Tenant

-- of a caller, behind the step
abbrev pub called : {X : Type 0} → Doing X → (refused : X) → Caller → (now : ℕ) → Tenant → X × Tenant
called does refused c now t = in_case (user_at t.users c.user) (refused, t) (λ u. does (asking (background t) now u))

-- of a caller, if there is one: one of no caller is refused, and makes no step
abbrev pub if_called : {X : Type 0} → Doing X → (refused : X) → (now : ℕ) → Tenant → Option Caller → X × Tenant
if_called does refused now t None = (refused, t)
if_called does refused now t (Some c) = called does refused c now t

-- in the organisation that is named, where it is this tenant or isn't there
abbrev pub named_does : {X : Type 0} → Doing X → (refused : X) → (now : ℕ) → Named → Option Tenant → X × Option Tenant
named_does does refused now n None = (refused, None)
named_does does refused now n (Some t) = let r = if_called does refused now t (caller_of n t) in (r.0, Some r.1)

-- a world with what became of the organisation with this number
abbrev pub world_with : World → ℕ → Option Tenant → World
world_with w n None = w
world_with w n (Some t) = with_tenant w n t

-- in the world: of others no organisation changes
abbrev pub world_does : {X : Type 0} → Doing X → (refused : X) → (now : ℕ) → Option Named → World → X × World
world_does does refused now None w = (refused, w)
world_does does refused now (Some n) w = let r = named_does does refused now n (tenant_at w n.org) in (r.0, world_with w n.org r.1)
