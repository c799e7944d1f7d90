use Rattle.std.proofs.Common.{◌≤◌, ◌+◌, ◌-◌, vec_len}
use Rattle.std.specs.Io.KnownBytes.{Keeps, prepend_known}
use Rattle.base_io.proofs.all.read_all.Given as goal

abbrev pub invariant-loop-source : goal.invariant-loop-source
invariant-loop-source g l =
    let left = g.S.Source.left in
    let faults = g.S.Source.faults in
    record {
      kept : Keeps (left l.fn.source) (prepend_known l.bytes.items (left l.source));
      stays : g.S.Source.stays l.fn.source l.source;
      later : faults l.fn.source ≤ faults l.source;
    }

abbrev pub decreases-loop-source : goal.decreases-loop-source
decreases-loop-source g l = l.limit + 1 - vec_len l.bytes
