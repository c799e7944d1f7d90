-- An object of an organisation, and its layouts.
use Rattle.std.specs.Prelude.{◌≡◌, ◌≢◌, ℕ, List, Some, Result, Ok, Err}
use Rattle.std.specs.Str.{chars}
use Rattle.store_kv.specs.Tables.{Tables}
use Rattle.store_rows.specs.declared.fail.StoreFail.{StoreFail}
use Rattle.store_rows.specs.declared.fail.StoreFail.TheVariants.{Damaged}
use Rattle.model.specs.declared.refusal.Refusal.{Refusal}
use Rattle.model.specs.declared.refusal.Refusal.TheVariants.{InvalidType}
use Rattle.model.specs.Cases.{in_case}
use Rattle.model.specs.Objects.{object_named}
use Rattle.model.specs.Tenant.{Tenant}
use Rattle.store_abstraction.specs.declared.layout.Layout.{Layout}
use Rattle.store_abstraction.specs.Layouts.{own_layouts}
use Rattle.store_abstraction.specs.Local.{StandsIn}
use Rattle.store_abstraction.specs.Plan.{OrgPlan}
use Rattle.cmd_load.specs.Targets.{FindsTarget}
use Rattle.cmd_load.specs.declared.target.Target.{Target}

-- this layout, and those of all objects of the organisation
abbrev pub FindsBehind : (org : ℕ) → Layout → Tables → Result (Result Target Refusal) StoreFail → Type 0
FindsBehind org l m (Ok (Ok found)) =
    (found.layout ≡ l) × ((q : OrgPlan) (t : Tenant) → StandsIn org q m (Some t) → found.layouts ≡ own_layouts org q (Some t))
FindsBehind org l m (Ok (Err r)) = ⊥
FindsBehind org l m (Err e) = (q : OrgPlan) (t : Tenant) → StandsIn org q m (Some t) → e ≢ Damaged

-- the object with this name, of the organisation
abbrev pub FindsOwned : Tenant → (object : List ℕ) → Result (Result Target Refusal) StoreFail → Type 0
FindsOwned t object result = FindsTarget (in_case (object_named t (chars object)) (Err (InvalidType (chars object))) (λ o. Ok (t, o))) result
