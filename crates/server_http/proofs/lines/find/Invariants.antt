use Rattle.std.proofs.Common.{take, map}
use Rattle.httparse.specs.Spans.{header_bytes}
use Rattle.server_http.specs.Framing.{values_named}
use Rattle.server_http.specs.Found.{FoundIs}
use Rattle.server_http.proofs.lines.find.Given as goal

abbrev pub invariant-loop-line : goal.invariant-loop-line
invariant-loop-line l = FoundIs l.bytes (values_named l.name (map (header_bytes l.bytes) (take l.line-index l.lines))) l.found
