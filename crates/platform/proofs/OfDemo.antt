-- The promise of `run` for `demo`.
use Rattle.std.proofs.Common.{◌≡◌, ℕ, true, List, [], Result, inl, refl, sym, subst}
use Rattle.std.specs.Prelude.{IsErrOf}
use Rattle.base_value.specs.Causes.{Cause}
use Rattle.base_io.specs.Moments.{AskedOnce, IsFirstMoment}
use Rattle.model.specs.World.{World}
use Rattle.cmd_load.specs.Batches.{first_moment}
use Rattle.commands.specs.Commands.{demo, has_status, printed, prints}
use Rattle.commands.specs.Deeds.{Prints}
use Rattle.platform.specs.Promise.{Promise}
use Rattle.platform.specs.Run.{status_in}
use Rattle.platform.specs.Seen.{Seen}
use Rattle.commands.specs.Stops.{IsKnownStatus}
use Rattle.commands.specs.declared.stop.Stop.{Stop}
use Rattle.commands.specs.declared.stop.Stop.TheVariants as stop
use Rattle.platform.proofs.OfOwn.{moments_at, own_promise}
use Rattle.platform.proofs.Runs.{caused, is_73, not_own, quiet}

module _ (count : ℕ) (a b : Seen) (r : Result ℕ Stop) (status : ℕ) (known : IsKnownStatus r) (same : status ≡ status_in r) (own : has_status (prints (demo count)) status ≡ true)
    (keeper : b.keeper ≡ a.keeper) (doors : b.door_faults ≡ a.door_faults) (lines : b.line_faults ≡ a.line_faults) (reads : b.read_faults ≡ a.read_faults) where
  failed : status ≡ 73 → IsErrOf r stop.SinkFailed
  failed e = subst (λ (x : Result ℕ Stop). IsErrOf x stop.SinkFailed) (sym (is_73 r status known same e)) refl

  pub demo_promise : (now : ℕ) → IsFirstMoment a.coming now
      → ((w : World) (bytes moments : List ℕ) → now ≡ first_moment moments → Prints w (printed (demo count) w bytes moments) a.written b.written r w)
      → AskedOnce a.coming b.coming → Cause a.write_faults b.write_faults (IsErrOf r stop.SinkFailed) → Promise (prints (demo count)) a b status
  demo_promise now first does asked sink =
      own_promise (demo count) a b r status same own refl refl refl keeper doors lines
      (λ w. let m = moments_at a.coming now first in ([], m.moments, inl refl, m.are, does w [] m.moments m.first))
      (λ used. absurd cc) asked
      (quiet a.read_faults b.read_faults reads (not_own (prints (demo count)) status 74 own refl)) (caused a.write_faults b.write_faults sink failed)
