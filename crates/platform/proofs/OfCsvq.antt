-- The promise of `run` for `csvq`.
use Rattle.std.proofs.Common.{◌≡◌, inl, inr, ℕ, true, List, Result, Ok, Err, refl, sym, ◌∙◌, arith}
use Rattle.std.specs.Prelude.{IfOk, IsErrOf}
use Rattle.std.specs.Io.KnownBytes.{IsAtEnd}
use Rattle.base_value.specs.Causes.{Cause}
use Rattle.base_io.specs.Moments.{AskedOnce, IsFirstMoment}
use Rattle.model.specs.World.{World}
use Rattle.commands.specs.Commands.{Command, csvq, has_status, may_write, printed, prints}
use Rattle.commands.specs.Csvq.{reads_input}
use Rattle.cmd_load.specs.Batches.{first_moment}
use Rattle.commands.specs.Deeds.{Prints}
use Rattle.platform.specs.Promise.{Promise}
use Rattle.platform.specs.Run.{MayBe, status_in}
use Rattle.platform.specs.Seen.{Seen}
use Rattle.commands.specs.Stops.{IsKnownStatus, csvq_end, is_done}
use Rattle.commands.specs.declared.printing.CsvqStop.{CsvqStop}
use Rattle.commands.specs.declared.printing.CsvqStop.TheVariants as csvq_stop
use Rattle.platform.proofs.OfOwn.{moments_at, own_promise}
use Rattle.platform.proofs.Runs.{caused}

module _ (query : List ℕ) where
  abbrev This : Command
  This = prints (csvq query)

  pub own : (r : Result ℕ CsvqStop) (status : ℕ) → IsKnownStatus r → status ≡ status_in (csvq_end r) → has_status This status ≡ true
  own (Ok s) status (inl e) same = rw (same, e) refl
  own (Ok s) status (inr e) same = rw (same, e) refl
  own (Err csvq_stop.NoMemory) status known same = rw same refl
  own (Err csvq_stop.SourceFailed) status known same = rw same refl
  own (Err csvq_stop.SinkFailed) status known same = rw same refl

  pub writes : (r : Result ℕ CsvqStop) (status : ℕ) → IsKnownStatus r → status ≡ status_in (csvq_end r) → may_write This status ≡ is_done (csvq_end r)
  writes (Ok s) status (inl e) same = rw (same, e) refl
  writes (Ok s) status (inr e) same = rw (same, e) refl
  writes (Err csvq_stop.NoMemory) status known same = rw same refl
  writes (Err csvq_stop.SourceFailed) status known same = rw same refl
  writes (Err csvq_stop.SinkFailed) status known same = rw same refl

sink_failed : (r : Result ℕ CsvqStop) (status : ℕ) → IsKnownStatus r → status ≡ status_in (csvq_end r) → status ≡ 73 → r ≡ Err csvq_stop.SinkFailed
sink_failed (Ok s) status known same e = absurd (omega (arith, same, e, known))
sink_failed (Err csvq_stop.NoMemory) status known same e = absurd (omega (arith, same, e))
sink_failed (Err csvq_stop.SourceFailed) status known same e = absurd (omega (arith, same, e))
sink_failed (Err csvq_stop.SinkFailed) status known same e = refl

source_failed : (r : Result ℕ CsvqStop) (status : ℕ) → IsKnownStatus r → status ≡ status_in (csvq_end r) → status ≡ 74 → r ≡ Err csvq_stop.SourceFailed
source_failed (Ok s) status known same e = absurd (omega (arith, same, e, known))
source_failed (Err csvq_stop.NoMemory) status known same e = absurd (omega (arith, same, e))
source_failed (Err csvq_stop.SourceFailed) status known same e = refl
source_failed (Err csvq_stop.SinkFailed) status known same e = absurd (omega (arith, same, e))

read_whole : (E : Type 0) (r : Result ℕ CsvqStop) (status : ℕ) → IfOk r (λ s. s ≡ 0 → E) → status ≡ status_in (csvq_end r) → status ≡ 0 → E
read_whole E (Ok s) status whole same e = whole (sym same ∙ e)
read_whole E (Err csvq_stop.NoMemory) status whole same e = absurd (omega (arith, same, e))
read_whole E (Err csvq_stop.SourceFailed) status whole same e = absurd (omega (arith, same, e))
read_whole E (Err csvq_stop.SinkFailed) status whole same e = absurd (omega (arith, same, e))

module _ (query : List ℕ) (a b : Seen) (r : Result ℕ CsvqStop) (status : ℕ) (known : IsKnownStatus r) (same : status ≡ status_in (csvq_end r))
    (keeper : b.keeper ≡ a.keeper) (doors : b.door_faults ≡ a.door_faults) (lines : b.line_faults ≡ a.line_faults) where
  pub csvq_promise : (now : ℕ) → IsFirstMoment a.coming now
      → ((w : World) (moments : List ℕ) → now ≡ first_moment moments → (bytes : List ℕ) × MayBe (reads_input query) a.left bytes × Prints w (printed (csvq query) w bytes moments) a.written b.written (csvq_end r) w)
      → IfOk r (λ s. s ≡ 0 → IsAtEnd b.left) → AskedOnce a.coming b.coming
      → Cause a.read_faults b.read_faults (IsErrOf r csvq_stop.SourceFailed) → Cause a.write_faults b.write_faults (IsErrOf r csvq_stop.SinkFailed) → Promise (This query) a b status
  csvq_promise now first does whole asked source sink =
      own_promise (csvq query) a b (csvq_end r) status same (own query r status known same) refl refl refl keeper doors lines
      (λ w. let m = moments_at a.coming now first in let h = does w m.moments m.first in (h.0, m.moments, h.1, m.are, h.2))
      (λ used. read_whole (IsAtEnd b.left) r status whole same) asked
      (caused a.read_faults b.read_faults source (source_failed r status known same)) (caused a.write_faults b.write_faults sink (sink_failed r status known same))
