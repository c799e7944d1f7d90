-- For the proofs of edits that read: a read that fails isn't damaged where the organisation's rows stand for a tenant, and of two
-- calls that read the second finds what the tables had before both.
use Rattle.std.proofs.Common.{◌≡◌, ◌∙◌, ℕ, Option, Some, None, sym, subst}
use Rattle.std.specs.Prelude.{Err, Result}
use Rattle.store_edit.specs.Edits.{FailsBy}
use Rattle.store_kv.specs.Draft.{DraftTells, Held, tables_of}
use Rattle.store_kv.specs.State.{KeeperState}
use Rattle.store_kv.specs.Tables.{Tables}
use Rattle.store_rows.specs.declared.fail.StoreFail.{StoreFail}
use Rattle.store_rows.specs.declared.fail.StoreFail.TheVariants.{Damaged, Keeper, Memory}
use Rattle.model.specs.Tenant.{Tenant}
use Rattle.model.specs.Verdict.{Verdict}
use Rattle.store_abstraction.specs.Calls.{Calls, Ending}
use Rattle.store_abstraction.specs.Fails.{of_store}
use Rattle.store_abstraction.specs.Local.{FindsIn, FindsThere, StandsIn}
use Rattle.store_abstraction.specs.Plan.{OrgPlan}

-- ---- a read that fails

module _ {X : Type 0} (org : ℕ) (q : OrgPlan) (m : Tables) (t : Tenant) (v : Verdict) (r : Result X StoreFail) (e : StoreFail) (was : r ≡ Err e) (s : StandsIn org q m (Some t)) where
  -- of what a tenant has, or none
  pub not_damaged : (value : OrgPlan → Option Tenant → X) → FindsIn org value m r → FailsBy v (of_store e)
  not_damaged value h = by e (subst (FindsIn org value m) was h)
    where
      by : (e : StoreFail) → FindsIn org value m (Err e) → e ≡ Damaged → ⊥
      by Damaged h d = h q (Some t) s
      by Keeper h d = absurd cc
      by Memory h d = absurd cc

  -- of what has to be there, and is
  pub not_missed : (value : OrgPlan → Option Tenant → Option X) (x : X) → value q (Some t) ≡ Some x → FindsThere org value m r → FailsBy v (of_store e)
  not_missed value x there h = by e (subst (FindsThere org value m) was h)
    where
      absent : ◌≡◌ {A = Option X} (Some x) None → ⊥
      absent e = cc

      by : (e : StoreFail) → FindsThere org value m (Err e) → e ≡ Damaged → ⊥
      by Damaged h d = absent (sym there ∙ h q (Some t) s)
      by Keeper h d = absurd cc
      by Memory h d = absurd cc

-- ---- two calls

module _ {K : Type 0} (state : K → KeeperState) where
  -- what `store_abstraction` says of calls
  abbrev pub TellsFirst : Type 0
  TellsFirst = (shown : ℕ) (e : Ending) (a b c : Held K) → Calls state shown e b c → DraftTells state a c → DraftTells state a b

  abbrev pub TellsThen : Type 0
  TellsThen = (shown : ℕ) (e : Ending) (a b c : Held K) → Calls state shown e a b → DraftTells state a b → DraftTells state a c → DraftTells state b c

  abbrev pub SameTables : Type 0
  SameTables = (shown : ℕ) (e : Ending) (a b : Held K) → Calls state shown e a b → DraftTells state a b → tables_of state b ≡ tables_of state a

  -- what the draft tells over both calls it tells over each, and the first leaves the tables
  pub record TwoReads (a b c : Held K) : Type 0 where
    pub first : DraftTells state a b
    pub then : DraftTells state b c
    pub same : tables_of state b ≡ tables_of state a

  pub two_reads : TellsFirst → TellsThen → SameTables → {e f : Ending} (a b c : Held K) → Calls state 0 e a b → Calls state 0 f b c → DraftTells state a c → TwoReads a b c
  two_reads tells_first tells_then same {e} {f} a b c one two told =
      let first = tells_first 0 f a b c two told in
      record { first = first; then = tells_then 0 e a b c one first told; same = same 0 e a b one first }

  pub found_before : {X : Type 0} (org : ℕ) (value : OrgPlan → Option Tenant → Option X) (r : Result X StoreFail) {a b c : Held K} → TwoReads a b c → FindsThere org value (tables_of state b) r → FindsThere org value (tables_of state a) r
  found_before org value r reads found = subst (λ (m : Tables). FindsThere org value m r) reads.same found
