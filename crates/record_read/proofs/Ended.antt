-- How a call ended whose answer is made of what a call before it read.
use Rattle.std.proofs.Common.{◌≡◌, ℕ, List, Option, Some, None, sym, subst, inl, inr}
use Rattle.std.specs.Prelude.{IfErr, Result, Ok, Err, Vec}
use Rattle.base_value.specs.Causes.{GivesOr}
use Rattle.store_kv.specs.Draft.{Held}
use Rattle.store_kv.specs.State.{KeeperState}
use Rattle.store_rows.specs.declared.data.DataRow.{DataRow}
use Rattle.store_rows.specs.declared.fail.StoreFail.{StoreFail}
use Rattle.store_rows.specs.declared.fail.StoreFail.TheVariants.{Keeper, Memory, Damaged}
use Rattle.model.specs.declared.record.Record.{Record}
use Rattle.model.specs.Cases.{in_case}
use Rattle.store_abstraction.specs.Calls.{Calls, done, ended, stopped}
use Rattle.store_abstraction.specs.declared.layout.Layout.{Layout}
use Rattle.record_read.specs.Decoding.{each_from, record_from}
use Rattle.record_read.specs.inner.Found.{found_from, listed_from}
use Rattle.record_read.proofs.Loading.{err_is}

-- what is made of what was read isn't the keeper's failure
abbrev pub IsMadeOf : {X Y : Type 0} → Result X StoreFail → Result Y StoreFail → Type 0
IsMadeOf (Ok x) made = made ≡ Err Keeper → ⊥
IsMadeOf (Err e) made = Unit {0}

pub found_is_made : (l : Layout) (row : Result (Option DataRow) StoreFail) → IsMadeOf row (found_from l row)
found_is_made l (Ok None) = λ e. absurd cc
found_is_made l (Ok (Some row)) = by (record_from l row)
  where
    by : (x : Option Record) → ◌≡◌ {A = Result (Option Record) StoreFail} (in_case x (Err Damaged) (λ r. Ok (Some r))) (Err Keeper) → ⊥
    by None e = absurd (cc (err_is Damaged Keeper e))
    by (Some r) e = absurd cc
found_is_made l (Err e) = tt

pub listed_is_made : {A : Type 0} (l : Layout) (rows : Result (Vec DataRow A) StoreFail) → IsMadeOf rows (listed_from l rows)
listed_is_made l (Ok rows) = by (each_from (record_from l) rows.items)
  where
    by : (x : Option (List Record)) → ◌≡◌ {A = Result (List Record) StoreFail} (in_case x (Err Damaged) (λ rs. Ok rs)) (Err Keeper) → ⊥
    by None e = absurd (cc (err_is Damaged Keeper e))
    by (Some rs) e = absurd cc
listed_is_made l (Err e) = tt

module _ {K : Type 0} (state : K → KeeperState) (shown : ℕ) (a b : Held K) where
  -- out of memory, or damaged, after a call that was done
  stops : Calls state shown done a b → Calls state shown stopped a b
  stops h = record { reads = h.reads; stays = λ trusted never clean. absurd cc; cause = record { rose = λ f. absurd f; never = λ sure f. f }; quiet = λ none. h.quiet (λ f. f) }

  pub made_calls : {X Y : Type 0} (row : Result X StoreFail) (made result : Result Y StoreFail) → IsMadeOf row made → GivesOr Memory made result → IfErr row (λ e. result ≡ Err e) → Calls state shown (ended row) a b → Calls state shown (ended result) a b
  made_calls (Ok x) made (Ok y) m g failed h = h
  made_calls (Ok x) made (Err Keeper) m (inl e) failed h = absurd cc
  made_calls (Ok x) made (Err Keeper) m (inr e) failed h = absurd (m e)
  made_calls (Ok x) made (Err Memory) m g failed h = stops h
  made_calls (Ok x) made (Err Damaged) m g failed h = stops h
  made_calls {Y = Y} (Err e) made result m g failed h = subst (λ (r : Result Y StoreFail). Calls state shown (ended r) a b) (sym failed) h
