-- Rows that are gathered.
use Rattle.std.specs.List.{IsDistinct}
use Rattle.std.specs.Ordering.{eq_by_cmp}
use Rattle.std.specs.Prelude.{◌≡◌, ◌⊎◌, ℕ, ◌+◌, ◌*◌, ◌≤◌, List, [], take, IfOk, length, Option, Some, Result, Ok, Err, Vec}
use Rattle.std.specs.declared.cmp.Ordering.{Ordering}
use Rattle.store_kv.specs.Draft.{DraftTells, Held, removals_of, tables_of}
use Rattle.store_kv.specs.State.{KeeperState}
use Rattle.store_kv.specs.Tables.{Tables}
use Rattle.store_rows.specs.declared.fail.StoreFail.{StoreFail}
use Rattle.store_rows.specs.declared.fail.StoreFail.TheVariants.{Damaged, Keeper, Memory}
use Rattle.model.specs.declared.limit.Limit.TheVariants.{RecordsPerObject}
use Rattle.model.specs.declared.record.Record.{Record}
use Rattle.model.specs.Limits.{limit_number}
use Rattle.model.specs.Membership.{Has}
use Rattle.model.specs.Objects.{records_of}
use Rattle.model.specs.Ordered.{in_order}
use Rattle.model.specs.Paths.{Asked}
use Rattle.model.specs.Rows.{limited}
use Rattle.store_abstraction.specs.Calls.{Calls, ended}
use Rattle.store_abstraction.specs.declared.layout.Layout.{Layout}
use Rattle.query_exec.specs.declared.candidates.Candidate.{Candidate}
use Rattle.query_exec.specs.declared.ranked.Ranked.{Ranked}
use Rattle.query_exec.specs.Written.{IfDone, InTenants}
use Rattle.query_exec.specs.Ranks.{GathersRows, by_rank, ranked_cmp}
use Rattle.query_exec.specs.inner.Judging.{IsOf, Judging, picked}
use Rattle.query_exec.specs.inner.Permitted.{Gathered}

-- rows stayed, or if only so many are wanted, these were put in order, and the others dropped
abbrev pub CutsRows : {R X : Type 0} → (R → R → Ordering) → (wanted : Option ℕ) → (old new : List (Ranked R X)) → Type 0
CutsRows cmp wanted old new =
    IsDistinct (eq_by_cmp (ranked_cmp cmp)) old → (new ≡ old) ⊎ ((k : ℕ) × (wanted ≡ Some k) × (new ≡ take k (in_order (ranked_cmp cmp) old)))

-- rows of some of these records, none of which tie, were gathered: in order, their first that are wanted are the first of all
pub record GathersFirst {R : Type 0} (l : Layout) (j : Judging R) (cmp : R → R → Ordering) (wanted : Option ℕ) (found : Gathered R) (a : Asked) (rs : List Record) : Type 0 where
  pub kept : List Record
  pub rows : GathersRows (IsOf l (j.parents a)) (j.rank a) [] found kept
  pub has : (r : Record) → Has kept r → Has rs r
  pub apart : IsDistinct (eq_by_cmp (by_rank cmp (j.rank a))) kept
  pub first : limited wanted (in_order (by_rank cmp (j.rank a)) kept) ≡ limited wanted (in_order (by_rank cmp (j.rank a)) rs)

module _ {R A : Type 0} (l : Layout) (j : Judging R) where
  -- the first rows that are wanted of all records that are picked are found for whoever asks so, if these don't tie, and they are never damaged
  abbrev pub FindsAll : (cmp : R → R → Ordering) → (wanted : Option ℕ) → Tables → Result (Vec (Ranked R Candidate) A) StoreFail → Type 0
  FindsAll cmp wanted m (Ok found) =
      InTenants l j.who m (λ a. IsDistinct (eq_by_cmp (by_rank cmp (j.rank a))) (picked j a (records_of a.tenant l.object))
      → GathersFirst l j cmp wanted found.items a (picked j a (records_of a.tenant l.object)))
  FindsAll cmp wanted m (Err Damaged) = InTenants l j.who m (λ a. ⊥)
  FindsAll cmp wanted m (Err Keeper) = Unit {0}
  FindsAll cmp wanted m (Err Memory) = Unit {0}

  -- so many records were read, in at most 80 pages, and there are at most so many rows
  module _ {K : Type 0} (state : K → KeeperState) where
    pub record ReadsAll (each : ℕ) (a b : Held K) (result : Result (Vec (Ranked R Candidate) A) StoreFail) : Type 0 where
      pub records : ℕ
      pub calls : Calls state ((1 + each) * records + 80 * removals_of state 7 a) (ended result) a b
      pub few : DraftTells state a b → records ≤ limit_number RecordsPerObject
      pub its : DraftTells state a b → IfDone (ended result) (InTenants l j.who (tables_of state a) (λ w. records ≤ length (records_of w.tenant l.object)))
      pub sized : IfOk result (λ found. length found.items ≤ records)
