-- What is asked, judged over tables.
use Rattle.std.specs.Prelude.{◌≡◌, ◌+◌, ◌*◌, ◌<◌, ◌≤◌, ◌^◌, ℕ, Bool, true, false, Option, Some, None, Result, Ok, Err}
use Rattle.retype_step.specs.Background.{step_changes, step_shown}
use Rattle.store_kv.specs.Tables.{Tables}
use Rattle.store_rows.specs.declared.fail.StoreFail.{StoreFail}
use Rattle.store_rows.specs.declared.fail.StoreFail.TheVariants.{Memory}
use Rattle.model.specs.declared.caller.Caller.{Caller}
use Rattle.model.specs.Callers.{Named}
use Rattle.model.specs.Tenant.{Tenant, User}
use Rattle.store_abstraction.specs.declared.judged.Judged.{Judged}
use Rattle.store_abstraction.specs.declared.judged.Judged.TheVariants.{Changed, Same}
use Rattle.store_abstraction.specs.Local.{KeepsOthers, StandsFor, StandsIn}
use Rattle.store_abstraction.specs.Operations.{IsChange, Judges}
use Rattle.store_abstraction.specs.Plan.{OrgPlan}
use Rattle.model.specs.Asker.{IsAsking}
use Rattle.model.specs.Asker.{asking}
use Rattle.cmd_auth.specs.Asking.{Doing, called, named_does}

-- what a caller asks, judged over these tables, of which those came, where no step is to be made: whatever they have, no row of others
-- changes; and where the organisation's rows stand for a tenant, it is what it comes to of the user who asks
pub record JudgesAsked {X : Type 0} (does : Doing X) (c : Caller) (now : ℕ) (before after : Tables) (result : Result (Judged X) StoreFail) : Type 0 where
  pub others : IsChange result → KeepsOthers c.org before after
  pub judged : (q : OrgPlan) (t : Tenant) (u : User) → StandsIn c.org q before (Some t) → IsAsking c now (asking t now u)
      → Judges (StandsFor c.org) (λ s. ((does (asking t now u)).0, Some (does (asking t now u)).1)) (Some t) after result

-- the same behind the step
pub record JudgesCalled {X : Type 0} (does : Doing X) (refused : X) (c : Caller) (now : ℕ) (before after : Tables) (result : Result (Judged X) StoreFail) : Type 0 where
  pub others : IsChange result → KeepsOthers c.org before after
  pub judged : (q : OrgPlan) (t : Tenant) (u : User) → StandsIn c.org q before (Some t) → IsAsking c now (asking t now u)
      → Judges (StandsFor c.org) (λ s. ((called does refused c now t).0, Some (called does refused c now t).1)) (Some t) after result

-- what is judged once a step was made, or where there was none: what a step changed is to be made, whatever the request changes
abbrev pub behind_step : {X : Type 0} → (made : Bool) → Result (Judged X) StoreFail → Result (Judged X) StoreFail
behind_step false judged = judged
behind_step true (Ok (Same x)) = Ok (Changed x)
behind_step true (Ok (Changed x)) = Ok (Changed x)
behind_step true (Err e) = Err e

-- who isn't a user of an organisation is refused, and nothing changes; or it is out of memory
abbrev pub RefusesUncalled : {X : Type 0} → (refused : X) → Result (Judged X) StoreFail → Type 0
RefusesUncalled refused (Ok (Same x)) = x ≡ refused
RefusesUncalled refused (Ok (Changed x)) = ⊥
RefusesUncalled refused (Err e) = e ≡ Memory

-- what is asked by who names these, judged over these tables, of which those came: whatever they have, no row of others changes; and
-- where the organisation's rows stand for a tenant, or for none, it is what it comes to there
pub record JudgesIn {X : Type 0} (does : Doing X) (refused : X) (now : ℕ) (n : Named) (before after : Tables) (result : Result (Judged X) StoreFail) : Type 0 where
  pub others : IsChange result → KeepsOthers n.org before after
  pub judged : (q : OrgPlan) (t : Option Tenant) → StandsIn n.org q before t → Judges (StandsFor n.org) (named_does does refused now n) t after result

-- the same of anyone: who names none, or a number that no organisation has, is refused
abbrev pub JudgesFor : {X : Type 0} → Doing X → (refused : X) → (now : ℕ) → Option Named → (before after : Tables) → Result (Judged X) StoreFail → Type 0
JudgesFor does refused now None before after result = RefusesUncalled refused result
JudgesFor does refused now (Some n) before after result =
    (n.org < 2 ^ 32 → JudgesIn does refused now n before after result) × (2 ^ 32 ≤ n.org → RefusesUncalled refused result)

-- ---- how much is done

-- data rows that are shown, over a draft that removes so many: an object's records are read in at most 80 pages, and the removed ones may
-- be among those of each
abbrev pub beside : (shown removed : ℕ) → ℕ
beside shown removed = shown + 80 * removed

-- with those of the step before
abbrev pub shown_behind : (shown removed : ℕ) → ℕ
shown_behind shown removed = (step_shown + removed) + beside shown removed

-- the rows that are changed, with those of the step
abbrev pub changes_behind : (most : ℕ) → ℕ
changes_behind most = step_changes + most
