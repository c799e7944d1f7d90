use Rattle.std.proofs.Common.{◌≤◌, ◌<◌, ◌-◌, length, vec_len}
use Rattle.std.specs.Io.{StartsWith}
use Rattle.std.specs.Io.KnownBytes.{Keeps, prepend_known}
use Rattle.server_http.specs.Reads.{Reads}
use Rattle.server_http.proofs.input.fill.Given as goal

abbrev pub invariant-loop-source : goal.invariant-loop-source
invariant-loop-source g l =
    let left = g.S.Source.left in
    let faults = g.S.Source.faults in
    record {
      kept : Keeps (prepend_known l.fn.bytes.items (left l.fn.source)) (prepend_known l.bytes.items (left l.source));
      front : StartsWith l.bytes.items l.fn.bytes.items;
      stays : g.S.Source.stays l.fn.source l.source;
      reads : Reads left (λ seen. length seen < l.end) l.fn.bytes.items l.fn.source l.bytes.items l.source;
      later : faults l.fn.source ≤ faults l.source;
    }

abbrev pub decreases-loop-source : goal.decreases-loop-source
decreases-loop-source g l = l.end - vec_len l.bytes
