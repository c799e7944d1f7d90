-- The promise of `run` for `load`.
use Rattle.std.proofs.Common.{◌≡◌, ◌⊎◌, inl, inr, ◌∙◌, ℕ, Bool, true, false, List, [], ◌∷◌, Option, Result, Ok, Err, refl, sym, ap, subst, arith}
use Rattle.std.specs.Io.KnownBytes.{IsAtEnd}
use Rattle.std.specs.Prelude.{◌==◌, ◌||◌, IsErrOf, is_ok}
use Rattle.base_value.specs.Causes.{Cause}
use Rattle.cmd_load.specs.Batches.{MayTell}
use Rattle.store_kv.specs.State.{KeeperCause, Shows, Steps, Tells, TrustedAfter}
use Rattle.store_kv.specs.Tables.{Tables}
use Rattle.model.specs.Callers.{Named, named_by}
use Rattle.model.specs.World.{World}
use Rattle.server.specs.Falls.{Fell}
use Rattle.store_abstraction.specs.Stands.{HasKnownVersion, HasUnknownVersion, Stands}
use Rattle.commands.specs.Commands.{Command, has_status, is_one_of, load, may_change, prints}
use Rattle.commands.specs.Deeds.{Prints}
use Rattle.commands.specs.Load.{load_printed}
use Rattle.commands.specs.Loading.{FallsBy, PrintsBy}
use Rattle.platform.specs.Promise.{Causes, Promise}
use Rattle.platform.specs.Run.{IsWorldOf, KeepsWorld, MayBe, status_in}
use Rattle.platform.specs.Seen.{Seen}
use Rattle.commands.specs.Stops.{IsKnownStatus, VersionStops}
use Rattle.commands.specs.declared.stop.Stop.{Stop}
use Rattle.commands.specs.declared.stop.Stop.TheVariants as stop
use Rattle.platform.proofs.Runs.{caused, is_72, is_73, is_74, keeper_caused, not_own, quiet, true_isnt_false, version_ends}

-- ---- all of it

pub is_77 : (status : ℕ) → is_one_of status (77 ∷ []) ≡ true → status ≡ 77
is_77 status h = by (77 == status) refl
  where
    by : (b : Bool) → (77 == status) ≡ b → status ≡ 77
    by true e = grind (arith, e)
    by false e = absurd (true_isnt_false (sym h ∙ ap (λ (b : Bool). b || false) e))

module _ (org user secret object : List ℕ) (a b : Seen) (r : Result ℕ Stop) (status : ℕ) (same : status ≡ status_in r) (known : IsKnownStatus r)
    (doors : b.door_faults ≡ a.door_faults) (lines : b.line_faults ≡ a.line_faults) where
  abbrev This : Command
  This = prints (load org user secret object)

  abbrev key : Option Named
  key = named_by org user secret

  own : has_status This (status_in r) ≡ true → has_status This status ≡ true
  own h = subst (λ (n : ℕ). has_status This n ≡ true) (sym same) h

  all_printed : (r : Result ℕ Stop) (status : ℕ) → IsKnownStatus r → status ≡ status_in r → (status ≡ 0) ⊎ (status ≡ 65) → is_ok r ≡ true
  all_printed (Ok s) status known same is = refl
  all_printed (Err stop.NoMemory) status known same is = absurd (omega (arith, same, is))
  all_printed (Err stop.KeeperFailed) status known same is = absurd (omega (arith, same, is))
  all_printed (Err stop.SinkFailed) status known same is = absurd (omega (arith, same, is))
  all_printed (Err stop.SourceFailed) status known same is = absurd (omega (arith, same, is))
  all_printed (Err stop.DoorFailed) status known same is = absurd (omega (arith, same, is))
  all_printed (Err stop.Damaged) status known same is = absurd (omega (arith, same, is))
  all_printed (Err stop.UnknownVersion) status known same is = absurd (omega (arith, same, is))

  pub load_causes : has_status This (status_in r) ≡ true → Steps a.keeper b.keeper → TrustedAfter (is_ok r) b.keeper → KeeperCause a.keeper b.keeper (IsErrOf r stop.KeeperFailed) → Cause a.write_faults b.write_faults (IsErrOf r stop.SinkFailed)
      → Cause a.read_faults b.read_faults (IsErrOf r stop.SourceFailed) → Causes This a b status
  load_causes has steps trusted keeper sink source = record {
    steps = steps;
    lines = omega (arith, lines);
    keeper = keeper_caused a.keeper b.keeper keeper (is_72 r status known same);
    sink = caused a.write_faults b.write_faults sink (is_73 r status known same);
    source = caused a.read_faults b.read_faults source (is_74 r status known same);
    door = quiet a.door_faults b.door_faults doors (not_own This status 75 (own has) refl);
    acknowledged = λ serving uses printout. trusted (all_printed r status known same printout);
  }

  pub load_promise : ((m : Tables) → HasKnownVersion m → HasUnknownVersion m → ⊥) → Causes This a b status
      → (Tells a.keeper b.keeper → (w : World) → Stands a.keeper.tables w → (bytes : List ℕ) × MayTell a.left bytes × PrintsBy (λ moments. load_printed key object bytes moments w) w a.coming a.written b.written r b.keeper)
      → (Fell a.keeper b.keeper → (w : World) → Stands a.keeper.tables w → (bytes : List ℕ) × MayTell a.left bytes × FallsBy (λ moments. load_printed key object bytes moments w) w a.coming a.written b.written b.keeper)
      → (Tells a.keeper b.keeper → VersionStops a.keeper.tables r) → (Tells a.keeper b.keeper → may_change This (status_in r) ≡ false → Shows b.keeper a.keeper.tables) → (status_in r ≡ 0 → IsAtEnd b.left) → Promise This a b status
  load_promise one causes printing falling version kept whole = record {
    does = λ w world. (r, same, by w world);
    isolated = λ serving. absurd (true_isnt_false (sym serving));
    leads = λ serving. absurd (true_isnt_false (sym serving));
    fell = λ fell w s.
        let h = falling fell w s in
        record { crash = (h.0, h.2.0, inr h.1, inr h.2.1, h.2.2); told = tt };
    kept = λ told none. kept told (subst (λ (n : ℕ). may_change This n ≡ false) same none);
    version = λ uses told. version_ends one a.keeper.tables r status known same (version told);
    causes = causes;
    reads = λ serving. record { whole = λ used is. whole (sym same ∙ is); asked = tt };
  }
    where
      by : (w : World) → IsWorldOf This a.keeper b.keeper w
          → (bytes some : List ℕ) × MayBe true a.left bytes × MayBe true a.coming some × (end : World) × Prints w (load_printed key object bytes some w) a.written b.written r end × KeepsWorld end b.keeper
      by w (inl wrong) = absurd (true_isnt_false wrong)
      by w (inr (told, s)) = let h = printing told w s in (h.0, h.2.0, inr h.1, inr h.2.1, h.2.2, h.2.3, h.2.4)
