-- One message over a keeper: judged over a draft, which is then ended.
use Rattle.std.proofs.Common.{◌≡◌, ◌⊎◌, inl, inr, ℕ, ◌+◌, ◌≤◌, Bool, true, false, IsTrue, List, Option, Some, None, Result, Ok, Err, refl, sym, ap, subst, ◌∙◌, arith}
use Rattle.std.specs.Prelude.{IfErr, IfOk, IsErrOf, is_ok, length}
use Rattle.store_kv.specs.Draft.{ChangesNothing, DraftWorks, Held, count_of, removals_of}
use Rattle.store_kv.specs.Laid.{removals}
use Rattle.store_kv.proofs.Calls.{steps_on}
use Rattle.store_kv.specs.State.{KeeperCause, KeeperState, Quiet, Shows, StaysAfter, Steps, Tells, TrustedAfter, data_table}
use Rattle.store_kv.specs.Tables.{Tables}
use Rattle.store_rows.specs.declared.fail.StoreFail.{StoreFail}
use Rattle.store_rows.specs.declared.fail.StoreFail.TheVariants.{Damaged, Keeper, Memory}
use Rattle.model.specs.declared.reply.Reply.{Reply}
use Rattle.model.specs.Callers.{Named}
use Rattle.model.specs.Step.{Message}
use Rattle.store_abstraction.specs.Local.{KeepsOthers, StandsFor}
use Rattle.store_abstraction.specs.Operations.{DoesIn, Ends, FailsAtCommit, Finishes, IsChange, Judges, Returns}
use Rattle.store_abstraction.specs.declared.judged.Judged.{Judged}
use Rattle.store_abstraction.specs.declared.judged.Judged.TheVariants.{Changed, Same}
use Rattle.model.specs.Bounds.{request_gone}
use Rattle.store_abstraction.proofs.Ended.{done, kept_if_failed, others_stay, unchanged}
use Rattle.server.specs.Own.{Asks, DoesBy, DoesUnnamed, IsSmall, IsStepped, JudgesBy, JudgesNamed, JudgesReply, JudgesUnnamed, KeepsIfSame, Replies, after_step, asked_shown, judged_bytes, message_changes, message_shown_beside, own_does, unnamed_bytes}
use Rattle.server.specs.Requests.{in_bytes}

abbrev Returned : Type 0
Returned = Result (Judged (List ℕ)) StoreFail

-- what a change leaves stands for what the operation leaves
changed_stands : {S X : Type 0} (stands : Tables → S → Type 0) (does : S → X × S) (s : S) (after : Tables) (j : Result (Judged X) StoreFail) → IsChange j → Judges stands does s after j → stands after (does s).1
changed_stands stands does s after (Ok (Same x)) change h = absurd change
changed_stands stands does s after (Ok (Changed x)) change h = h.1
changed_stands stands does s after (Err e) change h = absurd change

-- a draft over the keeper `old`, with `drafted` as its tables once `j` was judged, that ended with `r` over the keeper `new`
pub record Ended (old new : KeeperState) (told : Type 0) (drafted : Tables) (j : Returned) (r : Result (List ℕ) StoreFail) : Type 0 where
  pub drafts : Tells old new → told
  pub ends : Tells old new → Ends j old.tables drafted new r
  pub crash : old.tells → IsTrue old.trusted → IsTrue new.is_clean → (m : Tables) → new.may_leave m → old.may_leave m ⊎ (IsChange j × told × (m ≡ drafted))

module _ (old new : KeeperState) (told : Type 0) (drafted : Tables) (j : Returned) (r : Result (List ℕ) StoreFail) (e : Ended old new told drafted j r) where
  named_does : (n : Named) (m : Message) (close : Bool) (now : ℕ) → (told → JudgesNamed n m close now old.tables drafted j) → DoesIn n.org (own_does n m close now) old new r
  named_does n m close now judged = record {
    others = λ t. others_stay old.tables drafted new n.org j r (e.ends t) (judged (e.drafts t)).others;
    kept = λ t. kept_if_failed old.tables drafted new j r (e.ends t);
    done = λ t q s stands. done old.tables drafted new (StandsFor n.org) (own_does n m close now) s j r (e.ends t) ((judged (e.drafts t)).judged q s stands) (q, stands);
    crash = λ tells trusted clean left may. elim (e.crash tells trusted clean left may) [
      | inl before ↦ inl before
      | inr (change, is_told, is) ↦ inr (
        subst (λ (x : Tables). KeepsOthers n.org old.tables x) (sym is) ((judged is_told).others change),
        (λ q s stands. subst (λ (x : Tables). StandsFor n.org x (own_does n m close now s).1) (sym is) (changed_stands (StandsFor n.org) (own_does n m close now) s drafted j change ((judged is_told).judged q s stands))),
      )
    ];
  }

  unnamed_change : (m : Message) (close : Bool) (j : Returned) → JudgesUnnamed m close j → IsChange j → ⊥
  unnamed_change m close (Ok (Same x)) h c = c
  unnamed_change m close (Ok (Changed x)) h c = h
  unnamed_change m close (Err f) h c = c

  undamaged_by : (m : Message) (close : Bool) (j : Returned) (r : Result (List ℕ) StoreFail) → JudgesUnnamed m close j → Ends j old.tables drafted new r → IsErrOf r Damaged → ⊥
  undamaged_by m close (Ok (Same x)) (Ok y) h k d = cc
  undamaged_by m close (Ok (Same x)) (Err f) h k d = k
  undamaged_by m close (Ok (Changed x)) r h k d = h
  undamaged_by m close (Err g) (Ok y) h k d = k
  undamaged_by m close (Err g) (Err f) h k d = cc (h, k.0, d)

  reply_by : (m : Message) (close : Bool) (j : Returned) (r : Result (List ℕ) StoreFail) → JudgesUnnamed m close j → Ends j old.tables drafted new r → IfOk r (λ bytes. bytes ≡ unnamed_bytes m close)
  reply_by m close j (Err f) h k = tt
  reply_by m close (Ok (Same x)) (Ok y) h k = k.0 ∙ h
  reply_by m close (Ok (Changed x)) (Ok y) h k = absurd h
  reply_by m close (Err g) (Ok y) h k = absurd k

  unnamed_does : (m : Message) (close : Bool) → (told → JudgesUnnamed m close j) → DoesUnnamed m close old new r
  unnamed_does m close h = record {
    reply = λ t. reply_by m close j r (h (e.drafts t)) (e.ends t);
    undamaged = λ t. undamaged_by m close j r (h (e.drafts t)) (e.ends t);
    kept = λ t. unchanged old.tables drafted new j r (e.ends t) (unnamed_change m close j (h (e.drafts t)));
    crash = λ tells trusted clean left may. elim (e.crash tells trusted clean left may) [
      | inl before ↦ before
      | inr (change, is_told, is) ↦ absurd (unnamed_change m close j (h is_told) change)
    ];
  }

  -- a message is done as it was judged
  pub does_by : (key : Option Named) (m : Message) (close : Bool) (now : ℕ) → (told → JudgesBy key m close now old.tables drafted j) → DoesBy key m close now old new r
  does_by None m close now judged = unnamed_does m close judged
  does_by (Some n) m close now judged = ((λ lo. named_does n m close now (λ t. (judged t).0 lo)), (λ hi. unnamed_does m close (λ t. (judged t).1 hi)))

-- ---- the reply

module _ (m : Message) (close : Bool) (old new : KeeperState) where
  -- nothing was written, and the tables are what they were
  abbrev AsItWas : Type 0
  AsItWas = (Tells old new → Shows new old.tables) × (new.written ≡ old.written)

  as_it_was : (q : Judged Reply) → AsItWas → KeepsIfSame m q old new
  as_it_was (Same r) k = record { written = let same = k.1 in omega (arith, same); kept = inl k }
  as_it_was (Changed r) k = tt

  -- so many rows were written for a caller
  small_step : (q : Judged Reply) (before after : ℕ) → before ≡ 0 → new.written ≤ old.written + after → IsSmall q before after → (Tells old new → IsStepped m old.tables) → KeepsIfSame m q old new
  small_step (Same r) before after none written few called = record { written = omega (arith, none, written, few); kept = inr called }
  small_step (Changed r) before after none written few called = tt

  -- the bytes, and what goes with them
  replied : (called : Type 0) (before after : ℕ) (made : Bool) (q : Judged Reply) (j : Judged (List ℕ)) (y : List ℕ) → after_step made (Ok (in_bytes m.method close q)) ≡ Ok j → Returns (Ok j) y
      → (made ≡ true → Tells old new → IsStepped m old.tables) → IsSmall q before after → ((IsChange {X = List ℕ} (Ok j) → ⊥) → AsItWas) → before ≡ 0 → new.written ≤ old.written + after
      → (y ≡ judged_bytes m close q) × KeepsIfSame m q old new
  replied called before after false (Same r) (Same x) y is back caller few quiet none written = (back ∙ cc, as_it_was (Same r) (quiet (λ change. change)))
  replied called before after false (Same r) (Changed x) y is back caller few quiet none written = absurd cc
  replied called before after false (Changed r) (Same x) y is back caller few quiet none written = absurd cc
  replied called before after false (Changed r) (Changed x) y is back caller few quiet none written = (back ∙ cc, tt)
  replied called before after true (Same r) (Same x) y is back caller few quiet none written = absurd cc
  replied called before after true (Same r) (Changed x) y is back caller few quiet none written = (back ∙ cc, small_step (Same r) before after none written few (caller refl))
  replied called before after true (Changed r) (Same x) y is back caller few quiet none written = absurd cc
  replied called before after true (Changed r) (Changed x) y is back caller few quiet none written = (back ∙ cc, tt)

  -- the reply that was judged, and what goes with it
  pub replies_by : (called : Type 0) (before after : ℕ) (j : Returned) (r : Result (List ℕ) StoreFail) → JudgesReply m close called before after j → IfOk r (Returns j) → ((IsChange j → ⊥) → AsItWas)
      → (called → Tells old new → IsStepped m old.tables) → before ≡ 0 → new.written ≤ old.written + after → Replies m close old new r
  replies_by called before after j (Err f) h back quiet caller none written = tt
  replies_by called before after (Ok j) (Ok y) h back quiet caller none written =
      let k = replied called before after h.made h.reply j y h.judged back (λ is. caller (h.caller is)) h.small quiet none written in
      (h.reply, h.form, k.0, k.1)
  replies_by called before after (Err g) (Ok y) h back quiet caller none written = absurd back

-- ---- the keeper

-- however it ended, the keeper still tells
pub still_tells : (before drafted : Tables) (new : KeeperState) (j : Returned) (r : Result (List ℕ) StoreFail) → Ends j before drafted new r → new.tells
still_tells before drafted new (Ok (Same x)) (Ok y) h = h.1.0
still_tells before drafted new (Ok (Same x)) (Err e) h = absurd h
still_tells before drafted new (Ok (Changed x)) (Ok y) h = h.1.0
still_tells before drafted new (Ok (Changed x)) (Err e) h = h.1.0
still_tells before drafted new (Err e) (Ok y) h = absurd h
still_tells before drafted new (Err e) (Err f) h = h.1.0

-- what is damaged was judged so, and nothing is to be made
damaged_before : (before drafted : Tables) (new : KeeperState) (j : Returned) (r : Result (List ℕ) StoreFail) → Ends j before drafted new r → r ≡ Err Damaged → IsChange j → ⊥
damaged_before before drafted new (Ok (Same x)) r h is change = change
damaged_before before drafted new (Ok (Changed x)) (Ok y) h is change = absurd cc
damaged_before before drafted new (Ok (Changed x)) (Err e) h is change = let damaged : e ≡ Damaged = cc in h.0 damaged
damaged_before before drafted new (Err e) r h is change = change

-- the data rows that may be shown over a draft
abbrev pub shown_most : {K : Type 0} → Message → (K → KeeperState) → Held K → ℕ
shown_most m state d = message_shown_beside m (removals_of state data_table d)

module _ {K : Type 0} (state : K → KeeperState) (d e : Held K) (new : KeeperState) (j : Returned) (r : Result (List ℕ) StoreFail) where
  stays_by : StaysAfter (is_ok j) (state d.keeper.now) (state e.keeper.now) → (IsTrue (is_ok j) → StaysAfter (is_ok r) (state e.keeper.now) new) → IfErr j (λ f. r ≡ Err f) → Steps (state e.keeper.now) new
      → StaysAfter (is_ok r) (state d.keeper.now) new
  stays_by first then stopped steps trusted done clean = by j r first then stopped done
    where
      by : (j : Returned) (r : Result (List ℕ) StoreFail) → StaysAfter (is_ok j) (state d.keeper.now) (state e.keeper.now) → (IsTrue (is_ok j) → StaysAfter (is_ok r) (state e.keeper.now) new) → IfErr j (λ f. r ≡ Err f) → IsTrue (is_ok r) → IsTrue new.trusted
      by (Ok x) r first then stopped done = then refl (first trusted refl (steps.was_clean clean)) done clean
      by (Err f) (Ok y) first then stopped done = absurd cc
      by (Err f) (Err h) first then stopped done = absurd cc

  -- a reply is made only while the keeper is trusted, if the draft began so
  trusted_by : TrustedAfter true (state d.keeper.now) → StaysAfter (is_ok j) (state d.keeper.now) (state e.keeper.now) → (IsTrue (is_ok j) → StaysAfter (is_ok r) (state e.keeper.now) new) → IfErr j (λ f. r ≡ Err f)
      → Steps (state d.keeper.now) (state e.keeper.now) → Steps (state e.keeper.now) new → TrustedAfter (is_ok r) new
  trusted_by before first then stopped one two done clean = stays_by first then stopped two (before refl (one.was_clean (two.was_clean clean))) done clean

  quiet_by : Quiet (state d.keeper.now) (state e.keeper.now) (IsErrOf j Keeper) → Quiet (state e.keeper.now) new (FailsAtCommit j r) → IfErr j (λ f. r ≡ Err f) → Quiet (state d.keeper.now) new (IsErrOf r Keeper)
  quiet_by first later stopped none = by j first later stopped
    where
      by : (j : Returned) → Quiet (state d.keeper.now) (state e.keeper.now) (IsErrOf j Keeper) → Quiet (state e.keeper.now) new (FailsAtCommit j r) → IfErr j (λ f. r ≡ Err f) → new.faults ≡ (state d.keeper.now).faults
      by (Ok x) first later stopped = later none ∙ first (λ fell. cc)
      by (Err f) first later stopped = later (λ none. none) ∙ first (λ fell. none (let is : f ≡ Keeper = cc in stopped ∙ ap (λ e. Err e) is))

  cause_by : KeeperCause (state d.keeper.now) (state e.keeper.now) (IsErrOf j Keeper) → KeeperCause (state e.keeper.now) new (FailsAtCommit j r) → IfErr j (λ f. r ≡ Err f) → Steps (state d.keeper.now) (state e.keeper.now) → Steps (state e.keeper.now) new
      → KeeperCause (state d.keeper.now) new (IsErrOf r Keeper)
  cause_by first later stopped before after = by j r first later stopped
    where
      by : (j : Returned) (r : Result (List ℕ) StoreFail) → KeeperCause (state d.keeper.now) (state e.keeper.now) (IsErrOf j Keeper) → KeeperCause (state e.keeper.now) new (FailsAtCommit j r) → IfErr j (λ f. r ≡ Err f) → KeeperCause (state d.keeper.now) new (IsErrOf r Keeper)
      by (Ok x) r first later stopped = record {
        rose = λ f. let rose = later.rose f in omega (arith, rose, before.counts);
        never = λ sure f. later.never (before.sure sure).0 f;
      }
      by (Err f) (Ok y) first later stopped = absurd cc
      by (Err f) (Err h) first later stopped = record {
        rose = λ fell. let rose = first.rose (ap (λ e. Err e) (sym (same f h stopped) ∙ same Keeper h fell)) in omega (arith, rose, after.counts);
        never = λ sure fell. first.never sure (ap (λ e. Err e) (sym (same f h stopped) ∙ same Keeper h fell));
      }
        where
          same : (f h : StoreFail) → ◌≡◌ {A = Result (List ℕ) StoreFail} (Err h) (Err f) → h ≡ f
          same f h e = cc

  -- what the request keeps of the keeper
  pub asks_by : (m : Message) → ChangesNothing d → DraftWorks state message_changes request_gone (shown_most m state d) d e → StaysAfter (is_ok j) (state d.keeper.now) (state e.keeper.now)
      → KeeperCause (state d.keeper.now) (state e.keeper.now) (IsErrOf j Keeper) → Quiet (state d.keeper.now) (state e.keeper.now) (IsErrOf j Keeper) → Finishes j (count_of e) (state e.keeper.now) new r → (before drafted : Tables) → (Tells (state d.keeper.now) new → Ends j before drafted new r) → TrustedAfter true (state d.keeper.now) → Asks m (state d.keeper.now) new r
  asks_by m empty works stays cause quiet finishes first drafted ends before = record {
    steps = steps_on (state d.keeper.now) (state e.keeper.now) new works.reads.steps finishes.steps;
    trusted = trusted_by before stays finishes.stays finishes.stopped works.reads.steps finishes.steps;
    cause = cause_by cause finishes.cause finishes.stopped works.reads.steps finishes.steps;
    quiet = quiet_by quiet finishes.quiet finishes.stopped;
    written = let few : count_of e ≤ count_of d + message_changes = works.changes in let none : count_of d ≡ 0 = ap length empty in omega (arith, few, none, finishes.written, works.reads.written);
    unwritten = λ told is. finishes.unwritten (damaged_before first drafted new j r (ends told) is) ∙ works.reads.written;
    shown = λ told.
        let most = works.shows (told.0, finishes.steps.stood told.1) in
        let none : removals_of state data_table d ≡ 0 = ap (removals data_table) empty in
        let at : asked_shown m (removals_of state data_table d) ≡ asked_shown m 0 = ap (asked_shown m) none in
        let same : new.shown data_table ≡ (state e.keeper.now).shown data_table = ap (λ (f : ℕ → ℕ). f data_table) finishes.shown in
        omega (arith, most, none, at, same);
    told = λ told. still_tells first drafted new j r (ends told);
  }

-- ---- answers that are made of it

-- out of memory for the reply of damaged tables
pub does_memory : (key : Option Named) (m : Message) (close : Bool) (now : ℕ) (old new : KeeperState) → DoesBy key m close now old new (Err Damaged) → DoesBy key m close now old new (Err Memory)
does_memory None m close now old new h = record { reply = λ t. tt; undamaged = λ t d. cc; kept = h.kept; crash = h.crash }
does_memory (Some n) m close now old new h = (
  (λ lo. let d = h.0 lo in record { others = d.others; kept = d.kept; done = λ t q s stands. absurd ((d.done t q s stands).0 refl); crash = d.crash }),
  (λ hi. let d = h.1 hi in record { reply = λ t. tt; undamaged = λ t e. cc; kept = d.kept; crash = d.crash }),
)
