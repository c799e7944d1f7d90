-- What was found of a record that has to be there.
use Rattle.std.proofs.Common.{◌≡◌, ℕ, List, Option, Some, None, sym, subst}
use Rattle.std.specs.Prelude.{IfOk, IfSome, IsErrAnd, Result, Ok, Err}
use Rattle.store_kv.specs.Draft.{Held}
use Rattle.store_kv.specs.State.{KeeperState}
use Rattle.store_rows.specs.declared.fail.StoreFail.{StoreFail}
use Rattle.store_rows.specs.declared.fail.StoreFail.TheVariants.{Memory}
use Rattle.model.specs.Tenant.{Tenant}
use Rattle.record_target.specs.declared.kept.KeptRecord.{KeptRecord}
use Rattle.record_target.specs.Kept.{IsKept, Keeps}
use Rattle.store_abstraction.specs.Calls.{Calls, Ending, done, ended, ended_by, fell, stopped}
use Rattle.store_abstraction.specs.declared.layout.Layout.{Layout}
use Rattle.store_abstraction.specs.Plan.{OrgPlan}
use Rattle.record_delete.specs.inner.There.{FindsKept, found_there}

-- what is read at the id's key is what has to be there
pub finds_there : (q : OrgPlan) (t : Tenant) (l : Layout) (id : List ℕ) (r : Result (Option KeptRecord) StoreFail) → Keeps q t l id r → FindsKept q t l id (found_there r)
finds_there q t l id (Ok None) h = λ _. h
finds_there q t l id (Ok (Some k)) h = h
finds_there q t l id (Err e) h = λ damaged. absurd (h damaged)

-- what holds of it, if there is one
pub holds_there : (P : KeptRecord → Type 0) (r : Result (Option KeptRecord) StoreFail) → IfOk r (λ found. IfSome found P) → IfOk (found_there r) P
holds_there P (Ok None) h = tt
holds_there P (Ok (Some k)) h = h
holds_there P (Err e) h = tt

module _ {K : Type 0} (state : K → KeeperState) (weaker : (shown : ℕ) (e : Ending) (a b : Held K) → (e ≡ fell → ⊥) → Calls state shown done a b → Calls state shown e a b) (shown : ℕ) (a b : Held K) where
  -- that nothing is there stops a call that was done
  pub calls_there : (r : Result (Option KeptRecord) StoreFail) → Calls state shown (ended r) a b → Calls state shown (ended (found_there r)) a b
  calls_there (Ok None) calls = weaker shown stopped a b (λ e. absurd cc) calls
  calls_there (Ok (Some k)) calls = calls
  calls_there (Err e) calls = calls

  -- where memory runs out after it was found
  pub calls_out : (r : Result (Unit {0}) StoreFail) → IsErrAnd r (λ e. e ≡ Memory) → Calls state shown done a b → Calls state shown (ended r) a b
  calls_out (Ok x) failed calls = absurd failed
  calls_out (Err e) failed calls = subst (λ (z : StoreFail). Calls state shown (ended_by z) a b) (sym failed) (weaker shown stopped a b (λ e. absurd cc) calls)

-- it was found
pub found_kept : (q : OrgPlan) (t : Tenant) (l : Layout) (id : List ℕ) (r : Result KeptRecord StoreFail) (k : KeptRecord) → FindsKept q t l id r → r ≡ Ok k → IsKept q t l id k
found_kept q t l id r k finds was = subst (FindsKept q t l id) was finds
