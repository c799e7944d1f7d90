-- Into which object a text is loaded: who is named is found first, and then the object.
-- Source: this product's own.
use Rattle.std.specs.Prelude.{◌≡◌, ◌≢◌, ◌<◌, ◌≤◌, ◌^◌, ℕ, List, Option, Some, None, Result, Ok, Err}
use Rattle.std.specs.Str.{chars}
use Rattle.cmd_load_plan.specs.Headings.{AreLayouts}
use Rattle.store_kv.specs.Tables.{Tables}
use Rattle.store_rows.specs.declared.fail.StoreFail.{StoreFail}
use Rattle.store_rows.specs.declared.fail.StoreFail.TheVariants.{Damaged}
use Rattle.model.specs.declared.caller.Caller.{Caller}
use Rattle.model.specs.declared.refusal.Refusal.{Refusal}
use Rattle.model.specs.declared.refusal.Refusal.TheVariants.{InvalidSession, InvalidType}
use Rattle.model.specs.Callers.{Named, caller_of}
use Rattle.model.specs.Cases.{in_case}
use Rattle.model.specs.Objects.{Numbered, object_named}
use Rattle.model.specs.Tenant.{Tenant}
use Rattle.model.specs.World.{World, tenant_at}
use Rattle.store_abstraction.specs.Layouts.{layout_of}
use Rattle.store_abstraction.specs.Local.{StandsIn}
use Rattle.store_abstraction.specs.Plan.{OrgPlan}
use Rattle.cmd_load.specs.declared.target.Target.{Target}

-- an object of an organisation
abbrev pub LoadObject : Type 0
LoadObject = Tenant × Numbered

-- that of a caller, by its name, which is in UTF-8
abbrev pub caller_object : Tenant → (object : List ℕ) → Option Caller → Result LoadObject Refusal
caller_object t object None = Err InvalidSession
caller_object t object (Some c) = in_case (object_named t (chars object)) (Err (InvalidType (chars object))) (λ o. Ok (t, o))

-- in the organisation that is named, where it is this tenant or isn't there
abbrev pub organisation_object : Named → (object : List ℕ) → Option Tenant → Result LoadObject Refusal
organisation_object n object None = Err InvalidSession
organisation_object n object (Some t) = caller_object t object (caller_of n t)

-- in the world
abbrev pub named_object : Option Named → (object : List ℕ) → World → Result LoadObject Refusal
named_object None object w = Err InvalidSession
named_object (Some n) object w = organisation_object n object (tenant_at w n.org)

-- ---- what is found

-- the layouts of the organisation's objects, and that of this one
pub record IsTarget (x : LoadObject) (found : Target) : Type 0 where
  pub plan : OrgPlan
  pub layouts : AreLayouts plan x.0 found.layouts found.layout
  pub its : found.layout ≡ layout_of found.layout.org plan x.0 x.1

-- it is found, or refused for the same reason
abbrev pub IsTargetFound : Result LoadObject Refusal → Result Target Refusal → Type 0
IsTargetFound (Ok x) (Ok found) = IsTarget x found
IsTargetFound (Err r) (Err s) = s ≡ r
IsTargetFound (Ok x) (Err s) = ⊥
IsTargetFound (Err r) (Ok found) = ⊥

-- what is searched for, where this is to be found
abbrev pub FindsTarget : Result LoadObject Refusal → Result (Result Target Refusal) StoreFail → Type 0
FindsTarget expected (Ok found) = IsTargetFound expected found
FindsTarget expected (Err e) = e ≢ Damaged

-- what is searched for by who is named: of who names none, or a number that no organisation has, nothing; and where the organisation's
-- rows stand for a tenant, or for none, what is found there, whatever the rows of others are
abbrev pub FindsTargetFor : Option Named → (object : List ℕ) → Tables → Result (Result Target Refusal) StoreFail → Type 0
FindsTargetFor None object m result = FindsTarget (Err InvalidSession) result
FindsTargetFor (Some n) object m result =
    (n.org < 2 ^ 32 → (q : OrgPlan) (t : Option Tenant) → StandsIn n.org q m t → FindsTarget (organisation_object n object t) result)
    × (2 ^ 32 ≤ n.org → FindsTarget (Err InvalidSession) result)
