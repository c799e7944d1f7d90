use Rattle.std.proofs.Common.{◌∙◌, ℕ, List, Ok, ap}
use Rattle.model.specs.Asker.{stepped}
use Rattle.cmd_demo.specs.Demos.{above_query, answer_to_text, most_repeats, repeats_from, rows_in}
use Rattle.cmd_demo.specs.declared.repeats.Repeats.{Repeats}
use Rattle.cmd_demo.proofs.Coming.{come_ok, come_then, handed_on}
use Rattle.cmd_demo.proofs.Counting.{HasSeen}
use Rattle.cmd_demo.proofs.Watching.{IsIt, counted_behind, counted_of}
use Rattle.cmd_demo.specs.Demos.{watched}
use Rattle.cmd_demo.proofs.Coming.{stopped_on}
use Rattle.cmd_demo.proofs.show.watch.Goals as goal

pub returns-in_err-repeats : goal.returns-in_err-repeats
returns-in_err-repeats c a made =
    handed_on (HasSeen c.args.now c.repeat.new.draft) (IsIt {X = Repeats × ℕ}) (repeats_from most_repeats a) counted_of c.from_residual.result c.in_err-repeats.field-0.0
    c.from_residual.ensures (c.in_err-repeats.ensures a made)

pub returns-in_err-lines : goal.returns-in_err-lines
returns-in_err-lines c a made =
    let now = c.args.now in
    let seen = HasSeen now c.repeat.new.draft in
    let h = come_ok seen (repeats_from most_repeats a) c.in_ok-repeats.repeats (c.in_ok-repeats.ensures a made) in
    let owned = c.in_ok-make_step.ensures now h.0.0 h.2.0 in
    let out = c.from_residual-in_err-lines.result in
    come_then seen (IsIt {X = Repeats × ℕ}) (repeats_from most_repeats a) counted_of h.0 out h.1
    (handed_on (IsIt {X = List ℕ}) (IsIt {X = Repeats × ℕ}) (answer_to_text above_query (stepped h.0.0)) (counted_behind h.0) out c.in_err-lines.field-0.0 c.from_residual-in_err-lines.ensures
    (c.in_err-lines.ensures.lines (stepped h.0.0) owned))

pub returns : goal.returns
returns c a made =
    let now = c.args.now in
    let seen = HasSeen now c.repeat.new.draft in
    let h = come_ok seen (repeats_from most_repeats a) c.in_ok-repeats.repeats (c.in_ok-repeats.ensures a made) in
    let owned = c.in_ok-make_step.ensures now h.0.0 h.2.0 in
    let l = come_ok (IsIt {X = List ℕ}) (answer_to_text above_query (stepped h.0.0)) c.in_ok-lines.lines (c.in_ok-lines.ensures.lines (stepped h.0.0) owned) in
    let out = Ok (c.in_ok-repeats.repeats, c.rows_in.result) in
    come_then seen (IsIt {X = Repeats × ℕ}) (repeats_from most_repeats a) counted_of h.0 out h.1
    (come_then (IsIt {X = List ℕ}) (IsIt {X = Repeats × ℕ}) (answer_to_text above_query (stepped h.0.0)) (counted_behind h.0) l.0 out l.1
    (ap (λ (x : Repeats). (x, c.rows_in.result)) h.2.1 ∙ ap (λ (n : ℕ). (h.0.1, n)) (c.rows_in.ensures ∙ ap rows_in (c.as_slice.ensures ∙ l.2))))

pub returns-in_err-make_step : goal.returns-in_err-make_step
returns-in_err-make_step c a made =
    let now = c.args.now in
    let h = come_ok (HasSeen now c.repeat.new.draft) (repeats_from most_repeats a) c.in_ok-repeats.repeats (c.in_ok-repeats.ensures a made) in
    stopped_on (IsIt {X = Repeats × ℕ}) (watched a) c.from_residual-in_err-make_step.result c.in_err-make_step.field-0.0 (c.in_err-make_step.ensures now h.0.0 h.2.0)
    c.from_residual-in_err-make_step.ensures
