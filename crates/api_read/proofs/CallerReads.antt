-- Reads that fail, which the rows of a tenant rule out but for the keeper and memory.
use Rattle.std.proofs.Common.{◌≡◌, ◌∙◌, ℕ, Option, Some, None, sym, subst}
use Rattle.std.specs.Prelude.{Err, IsErrAnd, Ok, Result}
use Rattle.base_json.specs.declared.tree.Json.{Json}
use Rattle.model.specs.Tenant.{Tenant}
use Rattle.model_reads.specs.Told.{Telling}
use Rattle.store_abstraction.specs.declared.fail.EditFail.{EditFail}
use Rattle.store_abstraction.specs.Fails.{of_store}
use Rattle.store_abstraction.specs.Local.{FindsIn, FindsThere, StandsIn}
use Rattle.store_abstraction.specs.Plan.{OrgPlan}
use Rattle.store_kv.specs.Tables.{Tables}
use Rattle.store_rows.specs.declared.fail.StoreFail.{StoreFail}
use Rattle.store_rows.specs.declared.fail.StoreFail.TheVariants.{Damaged, Keeper, Memory}
use Rattle.api_read.specs.Tells.{TellsSo}

-- ---- what isn't told

-- a failure is passed on
pub failed_so : (telling : Telling) (r : Result Json EditFail) (e : StoreFail) → IsErrAnd r (λ y. y ≡ of_store e) → (e ≡ Damaged → ⊥) → TellsSo telling r
failed_so telling r e passed whole = by r passed
  where
    by : (r : Result Json EditFail) → IsErrAnd r (λ y. y ≡ of_store e) → TellsSo telling r
    by (Ok v) passed = absurd passed
    by (Err y) passed = subst (λ (f : EditFail). TellsSo telling (Err f)) (sym passed) whole

pub no_memory : (telling : Telling) (r : Result Json EditFail) → IsErrAnd r (λ y. y ≡ of_store Memory) → TellsSo telling r
no_memory telling r passed = failed_so telling r Memory passed (λ e. absurd cc)

-- ---- reads that fail

module _ (org : ℕ) (q : OrgPlan) (m : Tables) (t : Tenant) where
  pub unread : {X : Type 0} (value : OrgPlan → Option Tenant → X) (r : Result X StoreFail) (e : StoreFail) → FindsIn org value m r → r ≡ Err e → StandsIn org q m (Some t) → e ≡ Damaged → ⊥
  unread value r e h was s = by e (subst (FindsIn org value m) was h)
    where
      by : (e : StoreFail) → FindsIn org value m (Err e) → e ≡ Damaged → ⊥
      by Damaged h d = h q (Some t) s
      by Keeper h d = absurd cc
      by Memory h d = absurd cc

  pub unfound : {X : Type 0} (value : OrgPlan → Option Tenant → Option X) (x : X) (r : Result X StoreFail) (e : StoreFail) → value q (Some t) ≡ Some x → FindsThere org value m r → r ≡ Err e → StandsIn org q m (Some t) → e ≡ Damaged → ⊥
  unfound {X} value x r e there h was s = by e (subst (FindsThere org value m) was h)
    where
      absent : ◌≡◌ {A = Option X} (Some x) None → ⊥
      absent e = cc

      by : (e : StoreFail) → FindsThere org value m (Err e) → e ≡ Damaged → ⊥
      by Damaged h d = absent (sym there ∙ h q (Some t) s)
      by Keeper h d = absurd cc
      by Memory h d = absurd cc
