use Rattle.std.proofs.Common.{rules, map, ◌+◌, subst, sym, take}
use Rattle.httparse.specs.Spans.{header_bytes}
use Rattle.server_http.specs.Framing.{values_named}
use Rattle.server_http.specs.Found.{FoundIs}
use Rattle.server_http.proofs.Values.{found_step}
use Rattle.server_http.proofs.lines.find.Goals as goal

pub loop-line-preserved : goal.loop-line-preserved
loop-line-preserved c =
    let P = FoundIs c.args.bytes.now (values_named c.args.name.now (map (header_bytes c.args.bytes.now) (take (c.loop-line.line-index + 1) c.args.lines.now))) in
    subst P (sym c.with_line-found.ensures) (found_step c.args.name.now c.args.bytes.now c.args.lines.now c.loop-line.line-index _ c.loop-line.found (search rules) c.loop-line.invariant (search (rules, c.requires)))
