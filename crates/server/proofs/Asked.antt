-- A message over a keeper that was asked first: what it comes to is the same as over the keeper before.
use Rattle.std.proofs.Common.{◌≡◌, ◌⊎◌, inl, inr, ℕ, Bool, true, IsTrue, List, Option, Some, None, Result, Ok, Err, refl, sym, ap, subst, ◌∙◌, arith}
use Rattle.std.specs.Prelude.{IsErrOf, OnErr, is_ok}
use Rattle.std.specs.FinMap as map
use Rattle.store_kv.proofs.Calls.{reads_same, steps_on}
use Rattle.store_kv.specs.State.{KeeperCause, KeeperState, Quiet, Reads, Shows, Steps, Tells, TrustedAfter, data_table, more_shown, shown_by_get}
use Rattle.store_kv.specs.Tables.{Tables}
use Rattle.store_kv.specs.declared.keeper.KeepFail.{KeepFail}
use Rattle.store_kv.specs.declared.keeper.KeepFail.TheVariants.{Failed, Memory}
use Rattle.store_rows.specs.declared.fail.StoreFail.{StoreFail}
use Rattle.store_rows.specs.declared.fail.StoreFail.TheVariants.{Damaged, Keeper}
use Rattle.store_rows.specs.Fails.{of_keeper}
use Rattle.model.specs.Callers.{Named}
use Rattle.model.specs.Step.{Message}
use Rattle.model.specs.Tenant.{Tenant}
use Rattle.store_abstraction.specs.Local.{KeepsOthers, StandsIn}
use Rattle.store_abstraction.specs.Operations.{DoesIn}
use Rattle.model.specs.declared.reply.Reply.{Reply}
use Rattle.store_abstraction.specs.declared.judged.Judged.{Judged}
use Rattle.store_abstraction.specs.declared.judged.Judged.TheVariants.{Changed, Same}
use Rattle.server.specs.Own.{Asks, AsksFirst, DoesBy, DoesUnnamed, IsStepped, KeepsIfSame, Replies, own_does}

-- ---- asking

-- a keeper that is known to be trusted isn't asked
pub asked_none : (old : KeeperState) → TrustedAfter true old → AsksFirst old old (Ok tt)
asked_none old trusted = record {
  reads = reads_same old;
  shown = refl;
  trusted = λ done. trusted refl;
  undamaged = tt;
  cause = record { rose = λ failed. absurd cc; never = λ sure failed. cc };
  quiet = λ none. refl;
}

module _ {X : Type 0} (old new : KeeperState) (r : Result (Option X) KeepFail) (reads : Reads old new) (shown : new.shown ≡ more_shown 0 (shown_by_get r) old.shown)
    (trusted : TrustedAfter (is_ok r) new) (cause : KeeperCause old new (IsErrOf r Failed)) (quiet : Quiet old new (IsErrOf r Failed)) where
  none_shown : new.shown data_table ≡ old.shown data_table
  none_shown = ap (λ (f : ℕ → ℕ). f data_table) shown ∙ by r
    where
      by : (r : Result (Option X) KeepFail) → more_shown 0 (shown_by_get r) old.shown data_table ≡ old.shown data_table
      by (Ok (Some x)) = refl
      by (Ok None) = refl
      by (Err e) = refl

  pub asked_done : (x : Option X) → r ≡ Ok x → AsksFirst old new (Ok tt)
  asked_done x is = record {
    reads = reads;
    shown = none_shown;
    trusted = λ done. trusted (ap (λ (q : Result (Option X) KeepFail). is_ok q) is);
    undamaged = tt;
    cause = record { rose = λ failed. absurd cc; never = λ sure failed. cc };
    quiet = λ none. quiet (λ failed. cc);
  }

  pub asked_failed : (e : KeepFail) → r ≡ Err e → AsksFirst old new (Err (of_keeper e))
  asked_failed e is = record {
    reads = reads;
    shown = none_shown;
    trusted = λ done. absurd cc;
    undamaged = undamaged e;
    cause = record { rose = λ failed. cause.rose (fell e is failed); never = λ sure failed. cause.never sure (fell e is failed) };
    quiet = λ none. quiet (λ failed. none (told e is failed));
  }
    where
      undamaged : (e : KeepFail) → of_keeper e ≡ Damaged → ⊥
      undamaged Failed d = cc
      undamaged Memory d = cc

      fell : (e : KeepFail) → r ≡ Err e → ◌≡◌ {A = Result (Unit {0}) StoreFail} (Err (of_keeper e)) (Err Keeper) → r ≡ Err Failed
      fell Failed is f = is
      fell Memory is f = absurd cc

      told : (e : KeepFail) → r ≡ Err e → r ≡ Err Failed → ◌≡◌ {A = Result (Unit {0}) StoreFail} (Err (of_keeper e)) (Err Keeper)
      told Failed is f = refl
      told Memory is f = absurd cc

-- ---- what was asked was answered

module _ (old mid : KeeperState) (first : AsksFirst old mid (Ok tt)) (new : KeeperState) where
  abbrev Later : Type 0
  Later = Steps mid new

  -- what is told over both is told over the second, from the same tables on
  same_tables : Later → Tells old new → Shows mid old.tables
  same_tables steps told = first.reads.same (told.0, steps.stood told.1)

  told_later : Later → Tells old new → Tells mid new
  told_later steps told = ((same_tables steps told).0, told.1)

  trusted_mid : Later → IsTrue new.is_clean → IsTrue mid.trusted
  trusted_mid steps clean = first.trusted refl (steps.was_clean clean)

  crash_tables : Later → old.tells → IsTrue new.is_clean → Shows mid old.tables
  crash_tables steps tells clean = first.reads.same (tells, trusted_mid steps clean)

  left_before : Later → IsTrue new.is_clean → (m : Tables) → mid.may_leave m → old.may_leave m
  left_before steps clean m left = first.reads.crash (steps.was_clean clean) m left

  named_after : {X : Type 0} (steps : Later) (org : ℕ) (does : Option Tenant → X × Option Tenant) (r : Result X StoreFail) → DoesIn org does mid new r → DoesIn org does old new r
  named_after steps org does r h = record {
    others = λ t. subst (λ (m : Tables). KeepsOthers org m new.tables) (same_tables steps t).1 (h.others (told_later steps t));
    kept = λ t. subst (λ (m : Tables). OnErr r (Shows new m)) (same_tables steps t).1 (h.kept (told_later steps t));
    done = λ t q s stands. h.done (told_later steps t) q s (subst (λ (m : Tables). StandsIn org q m s) (sym (same_tables steps t).1) stands);
    crash = λ tells trusted clean m left.
        let same = crash_tables steps tells clean in
        elim (h.crash same.0 (trusted_mid steps clean) clean m left) [
          | inl before ↦ inl (left_before steps clean m before)
          | inr done ↦ inr (subst (λ (x : Tables). KeepsOthers org x m) same.1 done.0, (λ q s stands. done.1 q s (subst (λ (x : Tables). StandsIn org q x s) (sym same.1) stands)))
        ];
  }

  unnamed_after : (steps : Later) (m : Message) (close : Bool) (r : Result (List ℕ) StoreFail) → DoesUnnamed m close mid new r → DoesUnnamed m close old new r
  unnamed_after steps m close r h = record {
    reply = λ t. h.reply (told_later steps t);
    undamaged = λ t. h.undamaged (told_later steps t);
    kept = λ t. subst (Shows new) (same_tables steps t).1 (h.kept (told_later steps t));
    crash = λ tells trusted clean left may. left_before steps clean left (h.crash (crash_tables steps tells clean).0 (trusted_mid steps clean) clean left may);
  }

  pub does_after : Later → (key : Option Named) (m : Message) (close : Bool) (now : ℕ) (r : Result (List ℕ) StoreFail) → DoesBy key m close now mid new r → DoesBy key m close now old new r
  does_after steps None m close now r h = unnamed_after steps m close r h
  does_after steps (Some n) m close now r h = ((λ lo. named_after steps n.org (own_does n m close now) r (h.0 lo)), (λ hi. unnamed_after steps m close r (h.1 hi)))

  same_after : Later → (m : Message) (j : Judged Reply) → KeepsIfSame m j mid new → KeepsIfSame m j old new
  same_after steps m (Same q) h = record { written = let few = h.written in omega (arith, few, first.reads.written); kept = by h.kept }
    where
      by : ((Tells mid new → Shows new mid.tables) × (new.written ≡ mid.written)) ⊎ (Tells mid new → IsStepped m mid.tables)
          → ((Tells old new → Shows new old.tables) × (new.written ≡ old.written)) ⊎ (Tells old new → IsStepped m old.tables)
      by (inl k) = inl ((λ t. subst (Shows new) (same_tables steps t).1 (k.0 (told_later steps t))), k.1 ∙ first.reads.written)
      by (inr k) = inr (λ t. subst (IsStepped m) (same_tables steps t).1 (k (told_later steps t)))
  same_after steps m (Changed q) h = tt

  pub replies_after : Later → (m : Message) (close : Bool) (r : Result (List ℕ) StoreFail) → Replies m close mid new r → Replies m close old new r
  replies_after steps m close (Ok bytes) (j, form, is, kept) = (j, form, is, same_after steps m j kept)
  replies_after steps m close (Err e) h = tt

  pub asks_after : {X : Type 0} (m : Message) (r : Result X StoreFail) → Asks m mid new r → Asks m old new r
  asks_after m r h = record {
    steps = steps_on old mid new first.reads.steps h.steps;
    trusted = h.trusted;
    cause = record {
      rose = λ failed. let rose = h.cause.rose failed in omega (arith, rose, first.reads.steps.counts);
      never = λ sure failed. h.cause.never (first.reads.steps.sure sure).0 failed;
    };
    quiet = λ none. h.quiet none ∙ first.quiet (λ failed. cc);
    written = let few = h.written in omega (arith, few, first.reads.written);
    unwritten = λ told is. h.unwritten (told_later h.steps told) is ∙ first.reads.written;
    shown = λ told. let few = h.shown (told_later h.steps told) in omega (arith, few, first.shown);
    told = λ told. h.told (told_later h.steps told);
  }

-- ---- it failed

module _ (old new : KeeperState) (e : StoreFail) (first : AsksFirst old new (Err e)) where
  named_none : {X : Type 0} (org : ℕ) (does : Option Tenant → X × Option Tenant) → DoesIn org does old new (Err e)
  named_none org does = record {
    others = λ t place other. ap (λ (m : Tables). map.get m place) (first.reads.same t).1;
    kept = λ t. first.reads.same t;
    done = λ t q s stands. (first.undamaged, ((first.reads.same t).0, (q, subst (λ (m : Tables). StandsIn org q m s) (sym (first.reads.same t).1) stands)));
    crash = λ tells trusted clean m left. inl (first.reads.crash clean m left);
  }

  unnamed_none : (m : Message) (close : Bool) → DoesUnnamed m close old new (Err e)
  unnamed_none m close = record {
    reply = λ t. tt;
    undamaged = λ t damaged. first.undamaged cc;
    kept = first.reads.same;
    crash = λ tells trusted. first.reads.crash;
  }

  pub does_none : (key : Option Named) (m : Message) (close : Bool) (now : ℕ) → DoesBy key m close now old new (Err e)
  does_none None m close now = unnamed_none m close
  does_none (Some n) m close now = ((λ lo. named_none n.org (own_does n m close now)), (λ hi. unnamed_none m close))

  fell_as : {X Y : Type 0} → ◌≡◌ {A = Result X StoreFail} (Err e) (Err Keeper) → ◌≡◌ {A = Result Y StoreFail} (Err e) (Err Keeper)
  fell_as failed = let is : e ≡ Keeper = cc in ap (λ f. Err f) is

  pub asks_none : {X : Type 0} (m : Message) → Asks {X = X} m old new (Err e)
  asks_none m = record {
    steps = first.reads.steps;
    trusted = λ done. absurd cc;
    cause = record { rose = λ failed. first.cause.rose (fell_as failed); never = λ sure failed. first.cause.never sure (fell_as failed) };
    quiet = λ none. first.quiet (λ failed. none (fell_as failed));
    written = let same = first.reads.written in omega (arith, same);
    unwritten = λ told is. first.reads.written;
    shown = λ told. let same = first.shown in omega (arith, same);
    told = λ told. (first.reads.same told).0;
  }
