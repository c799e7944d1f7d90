-- How a call ended that returns what a read of rows returned.
use Rattle.std.proofs.Common.{ℕ, refl}
use Rattle.std.specs.Prelude.{IsErrOf, Result, Ok, Err, is_ok}
use Rattle.store_kv.specs.Draft.{DraftReads, Held, state_of}
use Rattle.store_kv.specs.State.{KeeperCause, KeeperState, Quiet, StaysAfter}
use Rattle.store_rows.specs.declared.fail.StoreFail.{StoreFail}
use Rattle.store_rows.specs.declared.fail.StoreFail.TheVariants.{Keeper, Memory, Damaged}
use Rattle.store_abstraction.specs.Calls.{Calls, ended}

module _ {K : Type 0} (state : K → KeeperState) (shown : ℕ) (a b : Held K) where
  -- the frame of a call that reads
  pub calls_of : {X : Type 0} (row : Result X StoreFail) → DraftReads state shown a b → StaysAfter (is_ok row) (state_of state a) (state_of state b)
      → KeeperCause (state_of state a) (state_of state b) (IsErrOf row Keeper) → Quiet (state_of state a) (state_of state b) (IsErrOf row Keeper) → Calls state shown (ended row) a b
  calls_of (Ok x) reads stays cause quiet = record { reads = reads; stays = stays; cause = record { rose = λ f. absurd f; never = λ sure f. f }; quiet = λ none. quiet (λ f. absurd cc) }
  calls_of (Err Keeper) reads stays cause quiet = record { reads = reads; stays = stays; cause = record { rose = λ f. cause.rose refl; never = λ sure f. cause.never sure refl }; quiet = λ none. absurd (none tt) }
  calls_of (Err Memory) reads stays cause quiet = record { reads = reads; stays = stays; cause = record { rose = λ f. absurd f; never = λ sure f. f }; quiet = λ none. quiet (λ f. absurd cc) }
  calls_of (Err Damaged) reads stays cause quiet = record { reads = reads; stays = stays; cause = record { rose = λ f. absurd f; never = λ sure f. f }; quiet = λ none. quiet (λ f. absurd cc) }
