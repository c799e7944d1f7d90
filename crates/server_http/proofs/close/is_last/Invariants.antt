use Rattle.std.proofs.Common.{◌≡◌, take, map, false, codes}
use Rattle.std.specs.List.{list_any}
use Rattle.httparse.specs.Spans.{header_bytes}
use Rattle.server_http.specs.Framing.{has_close, values_named}
use Rattle.server_http.proofs.close.is_last.Given as goal

abbrev pub invariant-loop-line : goal.invariant-loop-line
invariant-loop-line l = list_any has_close (values_named (codes "connection") (map (header_bytes l.text) (take l.line-index l.lines))) ≡ false
