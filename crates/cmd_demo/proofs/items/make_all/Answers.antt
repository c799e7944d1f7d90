use Rattle.std.proofs.Common.{pos}
use Rattle.cmd_sandbox.specs.Own.{asker}
use Rattle.cmd_demo.specs.Demos.{with_all, with_items, with_object}
use Rattle.cmd_demo.proofs.Coming.{come_ok, come_then, handed_on, stopped_on}
use Rattle.cmd_demo.proofs.Watching.{Owns}
use Rattle.cmd_demo.proofs.items.make_all.Goals as goal

pub returns-in_err-make_both : goal.returns-in_err-make_both
returns-in_err-make_both c stands sure =
    let now = c.args.now in
    let a = asker (pos now) in
    let both = c.make_both.new.draft in
    handed_on (Owns now both) (Owns now both) (with_object a) (with_items c.args.count) c.from_residual-in_err-make_both.result c.in_err-make_both.field-0.0
    c.from_residual-in_err-make_both.ensures (c.in_err-make_both.ensures now a (c.in_ok-make_org.ensures stands sure now))

pub returns : goal.returns
returns c stands sure =
    let now = c.args.now in
    let a = asker (pos now) in
    let both = c.make_both.new.draft in
    let h = come_ok (Owns now both) (with_object a) tt (c.in_ok-make_both.ensures now a (c.in_ok-make_org.ensures stands sure now)) in
    come_then (Owns now both) (Owns now c.make_items.new.draft) (with_object a) (with_items c.args.count) h.0 c.make_items.result h.1 (c.make_items.ensures h.0 h.2)

pub returns-in_err-make_org : goal.returns-in_err-make_org
returns-in_err-make_org c stands sure =
    let now = c.args.now in
    stopped_on (Owns now c.make_org.new.draft) (with_all c.args.count (pos now)) c.from_residual.result c.in_err-make_org.field-0.0 (c.in_err-make_org.ensures stands sure now) c.from_residual.ensures
