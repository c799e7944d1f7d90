-- Calls over a keeper of which none fails.
use Rattle.std.proofs.Common.{◌≡◌, ◌≢◌, ◌∙◌, ℕ, List, ap, refl, Err, Ok, Option, Result, Some, subst, sym}
use Rattle.store_kv.specs.Draft.{Held, tables_of}
use Rattle.store_kv.specs.Laid.{Entry, laid}
use Rattle.store_kv.specs.Memory.{InMemory, memory_state}
use Rattle.store_kv.specs.Tables.{Tables}
use Rattle.store_rows.specs.declared.fail.StoreFail.{StoreFail}
use Rattle.store_rows.specs.declared.fail.StoreFail.TheVariants.{Damaged, Keeper, Memory}
use Rattle.model.specs.Paths.{Asked}
use Rattle.store_abstraction.specs.Calls.{Calls, Ending, HasFallen, Makes, ended, ended_by, ended_edit}
use Rattle.model.specs.Tenant.{Tenant}
use Rattle.store_abstraction.specs.Local.{FindsIn, StandsIn}
use Rattle.store_abstraction.specs.Plan.{OrgPlan}
use Rattle.store_abstraction.specs.declared.fail.EditFail.{EditFail}
use Rattle.store_abstraction.specs.declared.fail.EditFail.TheVariants.{Store}
use Rattle.cmd_sandbox.specs.Making.{IsOwned, NeverFails, OrMemory}

-- the organisation where a draft shows the same tables, and no call of its keeper fails
abbrev pub still_owned : (now : ℕ) (old new : Held InMemory) (a : Asked) (made : IsOwned now old a) → tables_of memory_state new ≡ tables_of memory_state old → NeverFails new
    → IsOwned now new a
still_owned now old new a made same sure = record {
  plan = made.plan;
  stands = subst (λ (x : Tables). StandsIn 1 made.plan x (Some a.tenant)) (sym same) made.stands;
  sure = sure;
  users = made.users;
  user = made.user;
  moment = made.moment;
}

module _ (shown : ℕ) (e : Ending) (old new : Held InMemory) where
  pub read_same : Calls memory_state shown e old new → tables_of memory_state new ≡ tables_of memory_state old
  read_same calls =
      ap (λ (es : List Entry). laid es (memory_state new.keeper.now).tables) calls.reads.changes
      ∙ ap (laid old.changes.entries) (calls.reads.reads.same (tt, refl)).1

  pub read_sure : Calls memory_state shown e old new → NeverFails old → NeverFails new
  read_sure calls sure = (calls.reads.reads.steps.sure sure).0

  abbrev pub read_owned : (now : ℕ) (a : Asked) → Calls memory_state shown e old new → IsOwned now old a → IsOwned now new a
  read_owned now a calls made = still_owned now old new a made (read_same calls) (read_sure calls made.sure)

  pub made_sure : (most gone : ℕ) → Makes memory_state most gone shown e old new → NeverFails old → NeverFails new
  made_sure most gone makes sure = (makes.works.reads.steps.sure sure).0

-- what isn't the keeper's failure, over tables that aren't damaged
pub only_memory : (e : StoreFail) → (HasFallen (ended_by e) → ⊥) → e ≢ Damaged → e ≡ Memory
only_memory Keeper never sound = absurd (never tt)
only_memory Memory never sound = refl
only_memory Damaged never sound = absurd (sound refl)

-- the same of an edit
pub never_fell : (X : Type 0) (e : EditFail) (fail : StoreFail) → e ≡ Store fail → (HasFallen (ended_edit {X = X} (Err e)) → ⊥) → HasFallen (ended_by fail) → ⊥
never_fell X e fail is never fell = never (subst (λ (x : EditFail). HasFallen (ended_edit {X = X} (Err x))) (sym is) fell)

-- what is read in an organisation is never damaged
pub found_sound : {X : Type 0} (value : OrgPlan → Option Tenant → X) (org : ℕ) (m : Tables) (q : OrgPlan) (t : Option Tenant) (e : StoreFail)
    → FindsIn org value m (Err e) → StandsIn org q m t → e ≢ Damaged
found_sound value org m q t Damaged finds stands is = finds q t stands
found_sound value org m q t Keeper finds stands is = absurd cc
found_sound value org m q t Memory finds stands is = absurd cc

pub found_so : {X : Type 0} (value : OrgPlan → Option Tenant → X) (org : ℕ) (m : Tables) (q : OrgPlan) (t : Option Tenant) (r : Result X StoreFail) → (HasFallen (ended r) → ⊥)
    → FindsIn org value m r → StandsIn org q m t → OrMemory r (λ x. x ≡ value q t)
found_so value org m q t (Ok x) never finds stands = finds q t stands
found_so value org m q t (Err e) never finds stands = only_memory e never (found_sound value org m q t e finds stands)
