-- What every call over a draft keeps, whatever it answers, as one relation.
use Rattle.std.specs.Prelude.{ℕ, Bool, true, false, Result, Ok, Err}
use Rattle.store_kv.specs.Draft.{DraftReads, DraftWorks, Held}
use Rattle.store_kv.specs.State.{KeeperCause, KeeperState, Quiet, StaysAfter}
use Rattle.store_rows.specs.declared.fail.StoreFail.{StoreFail}
use Rattle.store_rows.specs.declared.fail.StoreFail.TheVariants.{Damaged, Keeper, Memory}
use Rattle.store_abstraction.specs.declared.fail.EditFail.{EditFail}
use Rattle.store_abstraction.specs.declared.fail.EditFail.TheVariants.{Refused, Store}
use Rattle.store_abstraction.specs.declared.fail.OpenFail.{OpenFail}
use Rattle.store_abstraction.specs.declared.fail.OpenFail.TheVariants as opening

-- how a call ended: it was done (a refusal is an answer too), the keeper failed, or it stopped of itself
pub data Ending : Type 0 where
  done : Ending
  fell : Ending
  stopped : Ending

abbrev pub ended_by : StoreFail → Ending
ended_by Keeper = fell
ended_by Memory = stopped
ended_by Damaged = stopped

abbrev pub ended : {X : Type 0} → Result X StoreFail → Ending
ended (Ok x) = done
ended (Err e) = ended_by e

abbrev pub ended_edit : {X : Type 0} → Result X EditFail → Ending
ended_edit (Ok x) = done
ended_edit (Err (Refused r)) = done
ended_edit (Err (Store e)) = ended_by e

abbrev pub ended_opening : {X : Type 0} → Result X OpenFail → Ending
ended_opening (Ok x) = done
ended_opening (Err opening.UnknownVersion) = done
ended_opening (Err (opening.Store e)) = ended_by e

abbrev pub is_done : Ending → Bool
is_done done = true
is_done fell = false
is_done stopped = false

abbrev pub HasFallen : Ending → Type 0
HasFallen done = ⊥
HasFallen fell = Unit {0}
HasFallen stopped = ⊥

module _ {K : Type 0} (state : K → KeeperState) where
  -- a call that reads, to which at most so many data rows are shown: if it was done the keeper is still trusted, and the keeper's
  -- failure has its cause: the count of faults stays the same in every other call
  pub record Calls (shown : ℕ) (e : Ending) (old new : Held K) : Type 0 where
    pub reads : DraftReads state shown old new
    pub stays : StaysAfter (is_done e) (state old.keeper.now) (state new.keeper.now)
    pub cause : KeeperCause (state old.keeper.now) (state new.keeper.now) (HasFallen e)
    pub quiet : Quiet (state old.keeper.now) (state new.keeper.now) (HasFallen e)

  -- a call that changes at most so many places more, and removes at most so many data rows more
  pub record Makes (most gone shown : ℕ) (e : Ending) (old new : Held K) : Type 0 where
    pub works : DraftWorks state most gone shown old new
    pub stays : StaysAfter (is_done e) (state old.keeper.now) (state new.keeper.now)
    pub cause : KeeperCause (state old.keeper.now) (state new.keeper.now) (HasFallen e)
    pub quiet : Quiet (state old.keeper.now) (state new.keeper.now) (HasFallen e)
