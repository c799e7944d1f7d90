-- The promise of `run` for a command that uses no keeper: it has tables of its own.
use Rattle.std.proofs.Common.{◌≡◌, ◌≤◌, ℕ, Bool, true, false, IsTrue, List, [], ◌∷◌, Option, Some, None, Result, inr, nat_le, pos, refl, sym, ap, subst, ◌∙◌, arith}
use Rattle.std.proofs.lemmas.Bool.Decides.{nat_tests}
use Rattle.std.specs.Io.KnownBytes.{IsAtEnd}
use Rattle.base_value.specs.Causes.{Cause}
use Rattle.base_value.specs.Dates.{is_moment}
use Rattle.base_io.specs.Moments.{IsFirstMoment, last_moment}
use Rattle.store_kv.specs.State.{KeeperState, Shows}
use Rattle.model.specs.World.{World}
use Rattle.server.specs.Falls.{Fell}
use Rattle.cmd_load.specs.Batches.{first_moment}
use Rattle.commands.specs.Commands.{Printing, has_status, printed, prints, uses}
use Rattle.commands.specs.Deeds.{Prints}
use Rattle.platform.specs.Promise.{Causes, Promise}
use Rattle.platform.specs.Run.{AskedSo, KeepsIf, MayBe, status_in}
use Rattle.platform.specs.Seen.{Seen}
use Rattle.commands.specs.declared.stop.Stop.{Stop}
use Rattle.platform.proofs.Runs.{not_own, quiet, true_isnt_false, untouched}

-- what a clock returns is a moment of the calendar
pub is_clocked : (n : ℕ) → n ≤ last_moment → IsTrue (is_moment (pos n))
is_clocked n h = within n h
  where
    within : (n : ℕ) → n ≤ 253402300799 → nat_le n 253402300799 ≡ true
    within n h = grind (arith, nat_tests)

-- the moments that are told, or else this one
pub record Moments (coming : Option (List ℕ)) (now : ℕ) : Type 0 where
  pub moments : List ℕ
  pub are : MayBe true coming moments
  pub first : now ≡ first_moment moments

pub moments_at : (coming : Option (List ℕ)) (now : ℕ) → IsFirstMoment coming now → Moments coming now
moments_at None now first = record { moments = now ∷ []; are = inr tt; first = refl }
moments_at (Some []) now first = absurd first
moments_at (Some (m ∷ ms)) now first = record { moments = m ∷ ms; are = inr refl; first = first }

-- from some input and some moments, it prints what it should
abbrev pub PrintsAll : Printing → World → Seen → Seen → Result ℕ Stop → Type 0
PrintsAll p w a b r =
    (bytes moments : List ℕ) × MayBe (uses p).source a.left bytes × MayBe (uses p).dated a.coming moments × Prints w (printed p w bytes moments) a.written b.written r w

module _ (p : Printing) (a b : Seen) (r : Result ℕ Stop) (status : ℕ) (same : status ≡ status_in r) (own : has_status (prints p) status ≡ true)
    (no_keeper : (uses p).keeper ≡ false) (no_72 : has_status (prints p) 72 ≡ false) (no_75 : has_status (prints p) 75 ≡ false)
    (keeper : b.keeper ≡ a.keeper) (doors : b.door_faults ≡ a.door_faults) (lines : b.line_faults ≡ a.line_faults) where
  own_causes : Cause a.read_faults b.read_faults (status ≡ 74) → Cause a.write_faults b.write_faults (status ≡ 73) → Causes (prints p) a b status
  own_causes source sink = record {
    steps = untouched a.keeper b.keeper keeper;
    lines = omega (arith, lines);
    keeper = record { rose = λ e. absurd (not_own (prints p) status 72 own no_72 e); never = λ sure e. not_own (prints p) status 72 own no_72 e };
    sink = sink;
    source = source;
    door = quiet a.door_faults b.door_faults doors (not_own (prints p) status 75 own no_75);
    acknowledged = λ serving uses. absurd (true_isnt_false (sym uses ∙ no_keeper));
  }

  stood : Fell a.keeper b.keeper → ⊥
  stood fell = true_isnt_false (sym fell.1 ∙ (ap (λ (k : KeeperState). k.trusted) (sym keeper) ∙ fell.2))

  pub own_promise : ((w : World) → PrintsAll p w a b r) → ((uses p).source ≡ true → status ≡ 0 → IsAtEnd b.left) → AskedSo (uses p).clock a.coming b.coming
      → Cause a.read_faults b.read_faults (status ≡ 74) → Cause a.write_faults b.write_faults (status ≡ 73) → Promise (prints p) a b status
  own_promise does whole asked source sink = record {
    does = λ w world. (r, same, let h = does w in (h.0, h.1, h.2, h.3, w, h.4, subst (λ (u : Bool). KeepsIf u w b.keeper) (sym no_keeper) tt));
    isolated = λ serving. absurd (true_isnt_false (sym serving));
    leads = λ serving. absurd (true_isnt_false (sym serving));
    fell = λ fell w s. absurd (stood fell);
    kept = λ told none. subst (λ (k : KeeperState). Shows k a.keeper.tables) (sym keeper) (told.0, refl);
    version = λ uses. absurd (true_isnt_false (sym uses ∙ no_keeper));
    causes = own_causes source sink;
    reads = λ serving. record { whole = whole; asked = asked };
  }
