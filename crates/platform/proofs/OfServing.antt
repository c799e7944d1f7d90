-- The promise of `run` for the commands that serve connections.
use Rattle.std.proofs.Common.{◌≡◌, ◌⊎◌, inl, inr, ℕ, true, false, IsTrue, [], Result, Ok, Err, refl, sym, subst, ◌∙◌}
use Rattle.std.specs.Prelude.{IfOk}
use Rattle.store_kv.specs.State.{IsSettled, KeeperState, Shows, Tells}
use Rattle.store_kv.specs.Tables.{Tables}
use Rattle.model.specs.World.{World}
use Rattle.server.specs.Falls.{Fell}
use Rattle.server.specs.Leads.{LeadsFrom, StandsReached}
use Rattle.server.specs.Senses.{Sense, StandsAs, all_but, of_all}
use Rattle.store_abstraction.specs.Stands.{HasKnownVersion, HasUnknownVersion, Stands}
use Rattle.commands.specs.Commands.{Command, answers, has_status, is_opening, is_serving, may_change, may_write, prints, serves}
use Rattle.platform.specs.Falling.{CrashLeaves, FallsTold}
use Rattle.platform.specs.Promise.{Causes, Promise}
use Rattle.platform.specs.Run.{IsWorldOf, Runs, ServesAs, status_in}
use Rattle.platform.specs.Seen.{Seen}
use Rattle.commands.specs.Stops.{VersionStops}
use Rattle.commands.specs.declared.stop.Stop.{Stop}
use Rattle.commands.specs.declared.stop.Stop.TheVariants.{Damaged, DoorFailed, KeeperFailed, NoMemory, SinkFailed, SourceFailed, UnknownVersion}
use Rattle.platform.proofs.Runs.{known_zero, true_isnt_false, version_ends}

-- the world of a command that serves is told
told_world : (c : Command) (k l : KeeperState) (w : World) → is_serving c ≡ true → IsWorldOf c k l w → Tells k l × Stands k.tables w
told_world (prints p) k l w serving h = absurd (true_isnt_false (sym serving))
told_world answers k l w serving (inl wrong) = absurd (true_isnt_false wrong)
told_world answers k l w serving (inr h) = h
told_world (serves count) k l w serving (inl wrong) = absurd (true_isnt_false wrong)
told_world (serves count) k l w serving (inr h) = h

reached : (c : Command) (w : World) (a b : Seen) → is_serving c ≡ true → ((m : Tables) → b.keeper.may_leave m → StandsReached w m) → CrashLeaves c w a b
reached (prints p) w a b serving h = absurd (true_isnt_false (sym serving))
reached answers w a b serving h = h
reached (serves count) w a b serving h = h

-- nothing was written before the first message
pub unwritten : (r : Result ℕ Stop) → IfOk r (λ s. s ≡ 0) → has_status answers (status_in r) ≡ true → may_write answers (status_in r) ≡ false → is_opening (status_in r) ≡ true
unwritten (Ok s) zero own none = absurd (true_isnt_false (sym (subst (λ (n : ℕ). may_write answers n ≡ true) (sym zero) refl) ∙ none))
unwritten (Err NoMemory) zero own none = refl
unwritten (Err KeeperFailed) zero own none = refl
unwritten (Err SinkFailed) zero own none = absurd (true_isnt_false none)
unwritten (Err SourceFailed) zero own none = absurd (true_isnt_false none)
unwritten (Err DoorFailed) zero own none = absurd (true_isnt_false (sym own))
unwritten (Err Damaged) zero own none = refl
unwritten (Err UnknownVersion) zero own none = refl

module _ (c : Command) (serving : is_serving c ≡ true) (a b : Seen) (r : Result ℕ Stop) (status : ℕ) (same : status ≡ status_in r) (zero : IfOk r (λ s. s ≡ 0)) where
  pub serving_promise : (a.keeper.tells → IsTrue a.keeper.trusted → IsSettled a.keeper) → ((m : Tables) → HasKnownVersion m → HasUnknownVersion m → ⊥) → ((m : Tables) (w : World) → Stands m w → HasKnownVersion m) → Causes c a b status
      → (Tells a.keeper b.keeper → HasKnownVersion a.keeper.tables → (sense : Sense) (w : World) → StandsAs sense a.keeper.tables w → ServesAs sense c w a b r)
      → LeadsFrom a.keeper b.keeper
      → (Fell a.keeper b.keeper → (w : World) → Stands a.keeper.tables w → FallsTold c w a b (status_in r))
      → (Tells a.keeper b.keeper → may_change c (status_in r) ≡ false → Shows b.keeper a.keeper.tables)
      → (Tells a.keeper b.keeper → VersionStops a.keeper.tables r)
      → Promise c a b status
  serving_promise settled one known causes runs leads falls kept version = record {
    does = λ w world. let told = told_world c a.keeper b.keeper w serving world in (r, same, whole c w serving (runs told.0 (known a.keeper.tables w told.1) of_all w told.1));
    isolated = λ _ told is apart w s. (r, same, runs told is (all_but apart) w s);
    leads = λ _ told w s. (leads told.0 (causes.steps.stood told.1) w s).tables told.1;
    fell = λ fell w s. record {
      crash = reached c w a b serving (λ m left. led fell w s m ((leads fell.0 fell.1 w s).crash fell.3 m left));
      told = subst (λ (n : ℕ). FallsTold c w a b n) (sym same) (falls fell w s);
    };
    kept = λ told none. kept told (subst (λ (n : ℕ). may_change c n ≡ false) same none);
    version = λ uses told. version_ends one a.keeper.tables r status (known_zero r zero) same (version told);
    causes = causes;
    reads = λ printing. absurd (true_isnt_false (sym serving ∙ printing));
  }
    where
      whole : (d : Command) (w : World) → is_serving d ≡ true → ServesAs of_all d w a b r → Runs d w a b r
      whole (prints p) w serving h = absurd (true_isnt_false (sym serving))
      whole answers w serving h = h
      whole (serves count) w serving h = h

      led : Fell a.keeper b.keeper → (w : World) → Stands a.keeper.tables w → (m : Tables) → a.keeper.may_leave m ⊎ StandsReached w m → StandsReached w m
      led fell w s m (inl old) = (w, ([], refl), subst (λ (t : Tables). Stands t w) (sym ((settled fell.0 fell.1).only m old)) s)
      led fell w s m (inr h) = h
