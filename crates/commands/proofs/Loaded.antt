-- How a load ends at a batch.
use Rattle.std.proofs.Common.{◌≡◌, ◌≤◌, ◌⊎◌, inl, inr, ◌∙◌, ℕ, Bool, true, false, IsTrue, Result, Err, refl, sym, subst, arith}
use Rattle.std.specs.Prelude.{IsErrOf}
use Rattle.std.proofs.lemmas.Bool.{true≢false as true_isnt_false}
use Rattle.base_value.specs.Causes.{Cause}
use Rattle.store_kv.proofs.Calls.{steps_on}
use Rattle.store_kv.specs.State.{IsSettled, KeeperCause, KeeperState, StaysAfter, Steps, TrustedAfter}
use Rattle.store_kv.specs.Tables.{Tables}
use Rattle.model.specs.World.{World}
use Rattle.commands.specs.Statuses.{Fell, status_in}
use Rattle.store_abstraction.specs.Stands.{Stands}
use Rattle.commands.specs.Commands.{is_one_of}
use Rattle.commands.specs.Loading.{LoadEnds, later_stop, rows_statuses}
use Rattle.commands.specs.Stops.{is_done, store_end}
use Rattle.commands.specs.declared.printing.StoreStop.{StoreStop}
use Rattle.commands.specs.declared.printing.StoreStop.TheVariants as storing
use Rattle.commands.specs.declared.stop.Stop.{Stop}
use Rattle.commands.specs.declared.stop.Stop.TheVariants as stop

abbrev pub Ended : Type 0
Ended = Result ℕ Stop

abbrev pub Failing : StoreStop → Result ℕ StoreStop
Failing e = Err e

abbrev pub Stopping : Stop → Ended
Stopping e = Err e

pub later_own : (e : StoreStop) → is_one_of (status_in (Err (later_stop e))) rows_statuses ≡ true
later_own storing.NoMemory = refl
later_own storing.KeeperFailed = refl
later_own storing.SinkFailed = refl
later_own storing.Damaged = refl
later_own storing.UnknownVersion = refl

fell_so : (e : StoreStop) → IsErrOf (Stopping (later_stop e)) stop.KeeperFailed → IsErrOf (Failing e) storing.KeeperFailed
fell_so storing.NoMemory h = absurd cc
fell_so storing.KeeperFailed h = refl
fell_so storing.SinkFailed h = absurd cc
fell_so storing.Damaged h = absurd cc
fell_so storing.UnknownVersion h = absurd cc

sank_so : (e : StoreStop) → IsErrOf (Stopping (later_stop e)) stop.SinkFailed → IsErrOf (Failing e) storing.SinkFailed
sank_so storing.NoMemory h = absurd cc
sank_so storing.KeeperFailed h = absurd cc
sank_so storing.SinkFailed h = refl
sank_so storing.Damaged h = absurd cc
sank_so storing.UnknownVersion h = absurd cc

pub sink_caused : (n m k : ℕ) (e : StoreStop) → n ≤ m → Cause m k (IsErrOf (Failing e) storing.SinkFailed) → Cause n k (IsErrOf (Stopping (later_stop e)) stop.SinkFailed)
sink_caused n m k e later h =
    let last = h.later in
    record { later = omega (arith, later, last); rose = λ sank. let rose = h.rose (sank_so e sank) in omega (arith, later, rose) }

done_so : (e : StoreStop) → is_done (Stopping (later_stop e)) ≡ true → is_done (store_end (Err e)) ≡ true
done_so storing.NoMemory h = absurd (true_isnt_false (sym h))
done_so storing.KeeperFailed h = absurd (true_isnt_false (sym h))
done_so storing.SinkFailed h = refl
done_so storing.Damaged h = absurd (true_isnt_false (sym h))
done_so storing.UnknownVersion h = absurd (true_isnt_false (sym h))

module _ (a b c : KeeperState) (first : Steps a b) (later : Steps b c) where
  pub ends_failed : (e : StoreStop) → TrustedAfter (is_done (store_end (Err e))) c → KeeperCause b c (IsErrOf (Failing e) storing.KeeperFailed) → LoadEnds a c (Err (later_stop e))
  ends_failed e trusted cause = record {
    steps = steps_on a b c first later;
    trusted = λ before done clean. trusted (done_so e done) clean;
    cause = record {
      rose = λ h. let rose = cause.rose (fell_so e h) in omega (arith, rose, first.counts);
      never = λ sure h. cause.never (first.sure sure).0 (fell_so e h);
    };
  }

-- what isn't a failure of the keeper
pub ends_well : (a b : KeeperState) (r : Ended) → Steps a b → StaysAfter true a b → (IsErrOf r stop.KeeperFailed → ⊥) → LoadEnds a b r
ends_well a b r steps stays never = record { steps = steps; trusted = λ before done clean. stays before refl clean; cause = record { rose = λ h. absurd (never h); never = λ sure h. never h } }

-- a keeper that is still trusted didn't fall
pub stood : {S : Type 0} (a b : KeeperState) → StaysAfter true a b → Fell a b → S
stood a b stays fell = absurd (true_isnt_false (sym (stays fell.1 refl fell.3) ∙ fell.2))

-- it fell in a batch, whose printout wasn't made
pub undone : (c : KeeperState) (e : StoreStop) → TrustedAfter (is_done (store_end (Err e))) c → c.trusted ≡ false → IsTrue c.is_clean → is_done (store_end (Err e)) ≡ false
undone c e trusted fell clean = by (is_done (store_end (Err e))) refl
  where
    by : (v : Bool) → is_done (store_end (Err e)) ≡ v → is_done (store_end (Err e)) ≡ false
    by false is = is
    by true is = absurd (true_isnt_false (sym (trusted is clean) ∙ fell))

-- what a crash leaves then
pub left_so : (b c : KeeperState) (w next : World) → IsSettled b → Stands b.tables w → ((m : Tables) → c.may_leave m → b.may_leave m ⊎ Stands m next) → (m : Tables) → c.may_leave m → Stands m w ⊎ Stands m next
left_so b c w next settled s crash m left = by (crash m left)
  where
    by : b.may_leave m ⊎ Stands m next → Stands m w ⊎ Stands m next
    by (inl old) = inl (subst (λ (t : Tables). Stands t w) (sym (settled.only m old)) s)
    by (inr h) = inr h
