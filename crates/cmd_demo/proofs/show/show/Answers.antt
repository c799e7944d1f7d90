use Rattle.std.proofs.Common.{◌∙◌, ℕ, List, Ok, ap, pos}
use Rattle.cmd_demo.specs.Demos.{begun, watched}
use Rattle.cmd_demo.specs.declared.repeats.Repeats.{Repeats}
use Rattle.cmd_demo.specs.declared.show.Demo.{Demo}
use Rattle.cmd_demo.proofs.Coming.{come_ok, come_then, handed_on}
use Rattle.cmd_demo.proofs.Counting.{HasSeen}
use Rattle.cmd_demo.proofs.Watching.{IsIt, demo_behind, demo_from, demo_told}
use Rattle.cmd_demo.proofs.show.show.Goals as goal

pub returns-in_err-first : goal.returns-in_err-first
returns-in_err-first c stands sure =
    handed_on (HasSeen c.args.now c.begin_demo.new.draft) (IsIt {X = Demo}) (begun c.args.count (pos c.args.now)) demo_from c.from_residual.result c.in_err-first.field-0.0
    c.from_residual.ensures (c.in_err-first.ensures stands sure)

pub returns-in_err-repeats : goal.returns-in_err-repeats
returns-in_err-repeats c stands sure =
    let seen = HasSeen c.args.now c.begin_demo.new.draft in
    let due = begun c.args.count (pos c.args.now) in
    let h = come_ok seen due c.in_ok-first.first (c.in_ok-first.ensures stands sure) in
    let out = c.from_residual-in_err-repeats.result in
    come_then seen (IsIt {X = Demo}) due demo_from h.0 out h.1
    (handed_on (IsIt {X = Repeats × ℕ}) (IsIt {X = Demo}) (watched h.0.0) (demo_behind h.0) out c.in_err-repeats.field-0.0 c.from_residual-in_err-repeats.ensures (c.in_err-repeats.ensures h.0.0 h.2.0))

pub returns : goal.returns
returns c stands sure =
    let seen = HasSeen c.args.now c.begin_demo.new.draft in
    let due = begun c.args.count (pos c.args.now) in
    let h = come_ok seen due c.in_ok-first.first (c.in_ok-first.ensures stands sure) in
    let both : Repeats × ℕ = (c.in_ok-repeats.repeats, c.in_ok-repeats.above) in
    let w = come_ok (IsIt {X = Repeats × ℕ}) (watched h.0.0) both (c.in_ok-repeats.ensures h.0.0 h.2.0) in
    let out = Ok (demo_told c.in_ok-first.first both) in
    come_then seen (IsIt {X = Demo}) due demo_from h.0 out h.1
    (come_then (IsIt {X = Repeats × ℕ}) (IsIt {X = Demo}) (watched h.0.0) (demo_behind h.0) w.0 out w.1
    (ap (λ (f : List ℕ). demo_told f both) h.2.1 ∙ ap (demo_told h.0.1) w.2))
