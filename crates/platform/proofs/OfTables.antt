-- The promise of `run` for a command that makes a printout of the tables.
use Rattle.std.proofs.Common.{◌≡◌, ◌⊎◌, inl, inr, ℕ, Bool, true, false, IsTrue, List, [], ◌∷◌, Option, Result, Ok, Err, refl, sym, ap, subst, ◌∙◌, arith}
use Rattle.std.specs.Io.KnownBytes.{Appends}
use Rattle.std.specs.Prelude.{IfOk, IsErrOf}
use Rattle.base_value.specs.Causes.{Cause}
use Rattle.store_kv.specs.State.{IsSettled, KeeperCause, Shows, Steps, Tells, TrustedAfter}
use Rattle.store_kv.specs.Tables.{Tables}
use Rattle.model.specs.World.{World}
use Rattle.server.specs.Falls.{Fell}
use Rattle.store_abstraction.specs.Stands.{HasKnownVersion, HasUnknownVersion, Stands}
use Rattle.commands.specs.Commands.{Asks, Command, Printing, Uses, has_status, is_one_of, may_write, printed, prints, table_changes, table_uses, uses}
use Rattle.commands.specs.Deeds.{CutShort, Printed, Prints, one_deed}
use Rattle.commands.specs.Printed.{PrintoutText}
use Rattle.platform.specs.Promise.{Causes, Promise}
use Rattle.platform.specs.Run.{AskedSo, IsWorldOf, KeepsIf, KeepsWorld, MayBe, status_in}
use Rattle.platform.specs.Seen.{Seen}
use Rattle.commands.specs.Stops.{IsKnownStatus, VersionStops, behind, is_done, store_end}
use Rattle.commands.specs.declared.printing.StoreStop.{StoreStop}
use Rattle.commands.specs.declared.printing.StoreStop.TheVariants as storing
use Rattle.commands.proofs.Deeds.{nothing}
use Rattle.platform.proofs.Runs.{caused, keeper_caused, not_own, quiet, true_isnt_false, version_ends}

-- ---- by the status

module _ (keeps : Bool) (clock : Asks) (dated : Bool) where
  abbrev Its : Uses
  Its = table_uses keeps clock dated

  owned : (r : Result ℕ StoreStop) (status : ℕ) → IsKnownStatus r → status ≡ status_in (store_end r) → is_one_of status Its.statuses ≡ true
  owned (Ok s) status (inl e) same = rw (same, e) refl
  owned (Ok s) status (inr e) same = rw (same, e) refl
  owned (Err storing.NoMemory) status known same = rw same refl
  owned (Err storing.KeeperFailed) status known same = rw same refl
  owned (Err storing.SinkFailed) status known same = rw same refl
  owned (Err storing.Damaged) status known same = rw same refl
  owned (Err storing.UnknownVersion) status known same = rw same refl

  written : (r : Result ℕ StoreStop) (status : ℕ) → IsKnownStatus r → status ≡ status_in (store_end r) → is_one_of status Its.writes ≡ is_done (store_end r)
  written (Ok s) status (inl e) same = rw (same, e) refl
  written (Ok s) status (inr e) same = rw (same, e) refl
  written (Err storing.NoMemory) status known same = rw same refl
  written (Err storing.KeeperFailed) status known same = rw same refl
  written (Err storing.SinkFailed) status known same = rw same refl
  written (Err storing.Damaged) status known same = rw same refl
  written (Err storing.UnknownVersion) status known same = rw same refl

changed_not : (keeps : Bool) (n status : ℕ) → is_one_of n (table_changes keeps) ≡ true → status ≡ n → is_one_of status (table_changes keeps) ≡ false → ⊥
changed_not keeps n status one same none = true_isnt_false (sym one ∙ (ap (λ k. is_one_of k (table_changes keeps)) (sym same) ∙ none))

done_changes : (keeps : Bool) → is_one_of 0 (table_changes keeps) ≡ true
done_changes true = refl
done_changes false = refl

sink_changes : (keeps : Bool) → is_one_of 73 (table_changes keeps) ≡ true
sink_changes true = refl
sink_changes false = refl

-- a refusal
refused_by : (keeps : Bool) (S : Type 0) (status : ℕ) → status ≡ 65 → (keeps ≡ true → S) → is_one_of status (table_changes keeps) ≡ false → S
refused_by true S status e refused none = refused refl
refused_by false S status e refused none = absurd (changed_not false 65 status refl e none)

-- nothing was done
kept_by : (keeps : Bool) (S : Type 0) (r : Result ℕ StoreStop) (status : ℕ) → IsKnownStatus r → status ≡ status_in (store_end r) → (is_done (store_end r) ≡ false → S) → (keeps ≡ true → IfOk r (λ s. s ≡ 65 → S))
    → is_one_of status (table_changes keeps) ≡ false → S
kept_by keeps S (Ok s) status (inl e) same kept refused none = absurd (changed_not keeps 0 status (done_changes keeps) (same ∙ e) none)
kept_by keeps S (Ok s) status (inr e) same kept refused none = refused_by keeps S status (same ∙ e) (λ k. refused k e) none
kept_by keeps S (Err storing.NoMemory) status known same kept refused none = kept refl
kept_by keeps S (Err storing.KeeperFailed) status known same kept refused none = kept refl
kept_by keeps S (Err storing.SinkFailed) status known same kept refused none = absurd (changed_not keeps 73 status (sink_changes keeps) same none)
kept_by keeps S (Err storing.Damaged) status known same kept refused none = kept refl
kept_by keeps S (Err storing.UnknownVersion) status known same kept refused none = kept refl

store_known : (r : Result ℕ StoreStop) → IsKnownStatus r → IsKnownStatus (store_end r)
store_known (Ok status) h = h
store_known (Err e) h = tt

keeper_failed : (r : Result ℕ StoreStop) (status : ℕ) → IsKnownStatus r → status ≡ status_in (store_end r) → status ≡ 72 → r ≡ Err storing.KeeperFailed
keeper_failed (Ok s) status known same e = absurd (omega (arith, same, e, known))
keeper_failed (Err storing.NoMemory) status known same e = absurd (omega (arith, same, e))
keeper_failed (Err storing.KeeperFailed) status known same e = refl
keeper_failed (Err storing.SinkFailed) status known same e = absurd (omega (arith, same, e))
keeper_failed (Err storing.Damaged) status known same e = absurd (omega (arith, same, e))
keeper_failed (Err storing.UnknownVersion) status known same e = absurd (omega (arith, same, e))

sink_failed : (r : Result ℕ StoreStop) (status : ℕ) → IsKnownStatus r → status ≡ status_in (store_end r) → status ≡ 73 → r ≡ Err storing.SinkFailed
sink_failed (Ok s) status known same e = absurd (omega (arith, same, e, known))
sink_failed (Err storing.NoMemory) status known same e = absurd (omega (arith, same, e))
sink_failed (Err storing.KeeperFailed) status known same e = absurd (omega (arith, same, e))
sink_failed (Err storing.SinkFailed) status known same e = refl
sink_failed (Err storing.Damaged) status known same e = absurd (omega (arith, same, e))
sink_failed (Err storing.UnknownVersion) status known same e = absurd (omega (arith, same, e))

is_printout : (r : Result ℕ StoreStop) (status : ℕ) → status ≡ status_in (store_end r) → (status ≡ 0) ⊎ (status ≡ 65) → is_done (store_end r) ≡ true
is_printout (Ok s) status same h = refl
is_printout (Err storing.NoMemory) status same h = absurd (omega (arith, same, h))
is_printout (Err storing.KeeperFailed) status same h = absurd (omega (arith, same, h))
is_printout (Err storing.SinkFailed) status same h = absurd (omega (arith, same, h))
is_printout (Err storing.Damaged) status same h = absurd (omega (arith, same, h))
is_printout (Err storing.UnknownVersion) status same h = absurd (omega (arith, same, h))

-- ---- a command that uses this

-- the one deed of a command that is done at once: nothing of it was written
pub one_cut : (w : World) (printout : PrintoutText) (next : World) (old new : Option (List ℕ)) (end : World) → new ≡ old → (end ≡ w) ⊎ (end ≡ next) → CutShort w (one_deed printout next) old new end
one_cut w printout next old new end same is = record {
  past = [];
  rest = record { text = printout.text; world = next } ∷ [];
  all = refl;
  text = subst (λ (t : Option (List ℕ)). Appends old t []) (sym same) (nothing old);
  world = is;
}

module _ (p : Printing) (keeps : Bool) (clock : Asks) (dated : Bool) (is : uses p ≡ table_uses keeps clock dated) where
  abbrev This : Command
  This = prints p

  keeper_used : (uses p).keeper ≡ true
  keeper_used = ap (λ (u : Uses). u.keeper) is

  no_source : (uses p).source ≡ false
  no_source = ap (λ (u : Uses). u.source) is

  source_unused : (uses p).source ≡ true → ⊥
  source_unused used = true_isnt_false (sym used ∙ ap (λ (u : Uses). u.source) is)

  pub own : (r : Result ℕ StoreStop) (status : ℕ) → IsKnownStatus r → status ≡ status_in (store_end r) → has_status This status ≡ true
  own r status known same = subst (λ (u : Uses). is_one_of status u.statuses ≡ true) (sym is) (owned keeps clock dated r status known same)

  pub writes : (r : Result ℕ StoreStop) (status : ℕ) → IsKnownStatus r → status ≡ status_in (store_end r) → may_write This status ≡ is_done (store_end r)
  writes r status known same = subst (λ (u : Uses). is_one_of status u.writes ≡ is_done (store_end r)) (sym is) (written keeps clock dated r status known same)

  no_status : (n : ℕ) → is_one_of n (table_uses keeps clock dated).statuses ≡ false → has_status This n ≡ false
  no_status n none = subst (λ (u : Uses). is_one_of n u.statuses ≡ false) (sym is) none

  module _ (a b : Seen) (r : Result ℕ StoreStop) (status : ℕ) (known : IsKnownStatus r) (same : status ≡ status_in (store_end r))
      (doors : b.door_faults ≡ a.door_faults) (lines : b.line_faults ≡ a.line_faults) (reads : b.read_faults ≡ a.read_faults) where
    never : (n : ℕ) → is_one_of n (table_uses keeps clock dated).statuses ≡ false → status ≡ n → ⊥
    never n none = not_own This status n (own r status known same) (no_status n none)

    pub table_causes : Steps a.keeper b.keeper → TrustedAfter (is_done (store_end r)) b.keeper → KeeperCause a.keeper b.keeper (IsErrOf r storing.KeeperFailed)
        → Cause a.write_faults b.write_faults (IsErrOf r storing.SinkFailed) → Causes This a b status
    table_causes steps trusted keeper sink = record {
      steps = steps;
      lines = omega (arith, lines);
      keeper = keeper_caused a.keeper b.keeper keeper (keeper_failed r status known same);
      sink = caused a.write_faults b.write_faults sink (sink_failed r status known same);
      source = quiet a.read_faults b.read_faults reads (never 74 refl);
      door = quiet a.door_faults b.door_faults doors (never 75 refl);
      acknowledged = λ serving uses printout. trusted (is_printout r status same printout);
    }

    module _ (does : World → PrintoutText × World) where
      abbrev next : World → World
      next w = (does w).1

      pub table_promise : (a.keeper.tells → IsTrue a.keeper.trusted → IsSettled a.keeper) → ((m : Tables) → HasKnownVersion m → HasUnknownVersion m → ⊥) → Causes This a b status
          → (moments : List ℕ) → MayBe dated a.coming moments → ((w : World) (bytes : List ℕ) → printed p w bytes moments ≡ one_deed (does w).0 (does w).1)
          → TrustedAfter (is_done (store_end r)) b.keeper
          → (is_done (store_end r) ≡ false → b.written ≡ a.written)
          → AskedSo clock a.coming b.coming
          → (Tells a.keeper b.keeper → (w : World) → Stands a.keeper.tables w → Prints w (one_deed (does w).0 (does w).1) a.written b.written (store_end r) (behind w (next w) (store_end r)))
          → (Tells a.keeper b.keeper → (w : World) → Stands a.keeper.tables w → KeepsWorld (behind w (next w) (store_end r)) b.keeper)
          → (Tells a.keeper b.keeper → VersionStops a.keeper.tables (store_end r))
          → (Tells a.keeper b.keeper → is_done (store_end r) ≡ false → Shows b.keeper a.keeper.tables)
          → (keeps ≡ true → Tells a.keeper b.keeper → IfOk r (λ s. s ≡ 65 → Shows b.keeper a.keeper.tables))
          → (a.keeper.tells → IsTrue a.keeper.trusted → IsTrue b.keeper.is_clean → (w : World) → Stands a.keeper.tables w → (m : Tables) → b.keeper.may_leave m → a.keeper.may_leave m ⊎ Stands m (next w))
          → Promise This a b status
      table_promise settled one causes moments are said trusted unwritten asked printing keeping version kept refused crash = record {
        does = λ w world. (store_end r, same, by w world);
        isolated = λ serving. absurd (true_isnt_false (sym serving));
        leads = λ serving. absurd (true_isnt_false (sym serving));
        fell = λ fell w s. record {
          crash = ([], moments, inl no_source, is_moments, λ m left. doubted fell w s m (crash fell.0 fell.1 fell.3 w s m left));
          told = tt;
        };
        kept = λ told none. kept_by keeps (Shows b.keeper a.keeper.tables) r status known same (kept told) (λ k. refused k told)
            (subst (λ (u : Uses). is_one_of status u.changes ≡ false) is none);
        version = λ uses told. version_ends one a.keeper.tables (store_end r) status (store_known r known) same (version told);
        causes = causes;
        reads = λ serving. record { whole = λ used. absurd (source_unused used); asked = subst (λ (u : Uses). AskedSo u.clock a.coming b.coming) (sym is) asked };
      }
        where
          is_moments : MayBe (uses p).dated a.coming moments
          is_moments = subst (λ (u : Uses). MayBe u.dated a.coming moments) (sym is) are

          by : (w : World) → IsWorldOf This a.keeper b.keeper w
              → (bytes some : List ℕ) × MayBe (uses p).source a.left bytes × MayBe (uses p).dated a.coming some × (end : World) × Prints w (printed p w bytes some) a.written b.written (store_end r) end × KeepsIf (uses p).keeper end b.keeper
          by w (inl wrong) = absurd (true_isnt_false (sym keeper_used ∙ wrong))
          by w (inr (told, s)) = (
            [],
            moments,
            inl no_source,
            is_moments,
            behind w (next w) (store_end r),
            subst (λ (x : Printed). Prints w x a.written b.written (store_end r) (behind w (next w) (store_end r))) (sym (said w [])) (printing told w s),
            subst (λ (u : Bool). KeepsIf u (behind w (next w) (store_end r)) b.keeper) (sym keeper_used) (keeping told w s),
          )

          -- once its printout was made the keeper is trusted
          undone : Fell a.keeper b.keeper → (v : Bool) → is_done (store_end r) ≡ v → v ≡ false
          undone fell false is = refl
          undone fell true is = absurd (true_isnt_false (sym (trusted is fell.3) ∙ fell.2))

          cut : Fell a.keeper b.keeper → (w end : World) → (end ≡ w) ⊎ (end ≡ next w) → CutShort w (printed p w [] moments) a.written b.written end
          cut fell w end is =
              let none = undone fell (is_done (store_end r)) refl in
              subst (λ (x : Printed). CutShort w x a.written b.written end) (sym (said w [])) (one_cut w (does w).0 (next w) a.written b.written end (unwritten none) is)

          doubted : Fell a.keeper b.keeper → (w : World) → Stands a.keeper.tables w → (m : Tables) → a.keeper.may_leave m ⊎ Stands m (next w)
              → (end : World) × CutShort w (printed p w [] moments) a.written b.written end × Stands m end
          doubted fell w s m (inl old) = (w, cut fell w w (inl refl), subst (λ (t : Tables). Stands t w) (sym ((settled fell.0 fell.1).only m old)) s)
          doubted fell w s m (inr h) = (next w, cut fell w (next w) (inr refl), h)
