-- What is found of the user whom two texts name, and what the change in one organisation comes to. No public contract reaches
-- these words.
use Rattle.std.specs.Prelude.{◌≡◌, ◌≢◌, ℕ, true, false, IfOk, List, Option, Some, None, Result, Ok, Err}
use Rattle.base_value.specs.Id.{id_in}
use Rattle.store_kv.specs.Tables.{Tables}
use Rattle.store_rows.specs.declared.fail.StoreFail.TheVariants.{Damaged, Keeper, Memory}
use Rattle.model.specs.declared.refusal.Refusal.TheVariants.{NotFound, SecretRefused}
use Rattle.model.specs.Organisations.{is_secret}
use Rattle.model.specs.Tenant.{Tenant, User}
use Rattle.model.specs.World.{user_at}
use Rattle.store_abstraction.specs.declared.fail.EditFail.{EditFail}
use Rattle.store_abstraction.specs.declared.fail.EditFail.TheVariants.{Refused, Store}
use Rattle.store_abstraction.specs.Local.{KeepsOthers, StandsFor, StandsIn}
use Rattle.store_abstraction.specs.Plan.{OrgPlan}
use Rattle.cmd_user_set.specs.UserSet.{with_key}

-- the number and the id that are named, or NOT_FOUND where none are; or the work on the tables stopped, though they aren't damaged
abbrev pub FindsUser : Option (ℕ × List ℕ) → Result (ℕ × List ℕ) EditFail → Type 0
FindsUser named (Ok ids) = named ≡ Some ids
FindsUser named (Err (Refused r)) = (named ≡ None) × (r ≡ NotFound)
FindsUser named (Err (Store Damaged)) = ⊥
FindsUser named (Err (Store Keeper)) = Unit {0}
FindsUser named (Err (Store Memory)) = Unit {0}

-- the organisation's rows stand for the tenant with the new secret, or it is no secret; or the work on the tables stopped
abbrev pub GivesKey : {X : Type 0} → (org : ℕ) → (user secret : List ℕ) → Tenant → Tables → Result X EditFail → Type 0
GivesKey org user secret t after (Ok x) = (is_secret secret ≡ true) × StandsFor org after (Some (with_key user secret t))
GivesKey org user secret t after (Err (Refused r)) = (is_secret secret ≡ false) × (r ≡ SecretRefused)
GivesKey org user secret t after (Err (Store e)) = e ≢ Damaged

-- made over these tables, of which those came: no row of others changes; and so it is where the organisation has the user
pub record ChangesKey {X : Type 0} (org : ℕ) (user secret : List ℕ) (m after : Tables) (result : Result X EditFail) : Type 0 where
  pub others : IfOk result (λ x. KeepsOthers org m after)
  pub given : (q : OrgPlan) (t : Tenant) (i : List ℕ) (u : User) → StandsIn org q m (Some t) → id_in user ≡ Some i → user_at t.users i ≡ Some u
      → GivesKey org user secret t after result
