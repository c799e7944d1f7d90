use Rattle.std.proofs.Common.{◌≡◌, ◌≤◌, length, ◌-◌, vec_len}
use Rattle.std.specs.Io.KnownBytes.{Keeps, prepend_known}
use Rattle.server_http.specs.Reads.{IsUnfinished, Reads}
use Rattle.server_http.proofs.head.read_head.Given as goal

abbrev pub invariant-loop-spans : goal.invariant-loop-spans
invariant-loop-spans g l =
    let left = g.S.Source.left in
    let faults = g.S.Source.faults in
    record {
      kept : Keeps (prepend_known l.fn.bytes.items (left l.fn.source)) (prepend_known l.bytes.items (left l.source));
      room : length l.lines ≡ 16384;
      stays : g.S.Source.stays l.fn.source l.source;
      reads : Reads left IsUnfinished l.fn.bytes.items l.fn.source l.bytes.items l.source;
      later : faults l.fn.source ≤ faults l.source;
    }

abbrev pub decreases-loop-spans : goal.decreases-loop-spans
decreases-loop-spans g l = 16384 - vec_len l.bytes
