use Rattle.std.proofs.Common.{length, ◌-◌, ◌≤◌, take}
use Rattle.std.specs.Io.KnownBytes.{Appends}
use Rattle.base_io.proofs.whole.write_all.Given as goal

abbrev pub invariant-loop-at : goal.invariant-loop-at
invariant-loop-at g l =
    let written = g.W.Sink.written in
    let faults = g.W.Sink.faults in
    record {
      within : l.at ≤ length l.piece;
      wrote : Appends (written l.fn.sink) (written l.sink) (take l.at l.piece);
      stays : g.W.Sink.stays l.fn.sink l.sink;
      faults : faults l.fn.sink ≤ faults l.sink;
    }

abbrev pub decreases-loop-at : goal.decreases-loop-at
decreases-loop-at g l = length l.piece - l.at
