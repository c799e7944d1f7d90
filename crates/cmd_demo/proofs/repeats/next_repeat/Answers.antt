use Rattle.std.proofs.Common.{◌≡◌, ◌∙◌, Ok, arith, ap, suc, ℕ, List}
use Rattle.model.specs.Asker.{stepped}
use Rattle.cmd_demo.specs.Demos.{amount_line, answer_to_text, first_query, switched_by}
use Rattle.cmd_demo.proofs.Coming.{come_ok, come_then, handed_on}
use Rattle.cmd_demo.proofs.Counting.{HasSeen, same_repeats, seen_by}
use Rattle.cmd_demo.specs.Demos.{next_repeat}
use Rattle.cmd_demo.proofs.Coming.{stopped_on}
use Rattle.cmd_demo.proofs.repeats.next_repeat.Goals as goal

pub returns-in_err-lines-clause-comes : goal.returns-in_err-lines-clause-comes
returns-in_err-lines-clause-comes c a made =
    let owned = c.in_ok-make_step.ensures c.args.now a made in
    handed_on (λ (x y : List ℕ). y ≡ x) (HasSeen c.args.now c.ask.new.draft) (answer_to_text first_query (stepped a)) (seen_by a c.args.last.now)
    c.from_residual-in_err-lines.result c.in_err-lines.field-0.0 c.from_residual-in_err-lines.ensures (c.in_err-lines.ensures.lines (stepped a) owned)

pub returns-clause-comes : goal.returns-clause-comes
returns-clause-comes c a made =
    let now = c.args.now in
    let last = c.args.last.now in
    let after = c.switched_by.new.draft in
    let owned = c.in_ok-make_step.ensures now a made in
    let asked = c.in_ok-lines.ensures.kept now (stepped a) owned in
    let h = come_ok (λ (x y : List ℕ). y ≡ x) (answer_to_text first_query (stepped a)) c.in_ok-lines.lines (c.in_ok-lines.ensures.lines (stepped a) owned) in
    let number : c.args.number ≡ suc last.count = c.requires.number ∙ omega arith in
    come_then (λ (x y : List ℕ). y ≡ x) (HasSeen now after) (answer_to_text first_query (stepped a)) (seen_by a last) h.0 (Ok _) h.1 (
      c.in_ok-switched.ensures.kept now (stepped a) asked,
      same_repeats _ _ _ _ _ _ number (c.in_ok-switched.ensures.is now (stepped a) asked ∙ ap (λ (n : ℕ). switched_by last.switched n (stepped a).tenant) number)
          (c.in_ok-least.ensures ∙ ap amount_line (c.as_slice.ensures ∙ h.2)),
    )

pub returns-in_err-make_step-clause-comes : goal.returns-in_err-make_step-clause-comes
returns-in_err-make_step-clause-comes c a made =
    stopped_on (HasSeen c.args.now c.make_step.new.draft) (next_repeat a c.args.last.now) c.from_residual.result c.in_err-make_step.field-0.0 (c.in_err-make_step.ensures c.args.now a made)
    c.from_residual.ensures

pub returns-in_err-switched-clause-comes : goal.returns-in_err-switched-clause-comes
returns-in_err-switched-clause-comes c a made =
    let now = c.args.now in
    let asked = c.in_ok-lines.ensures.kept now (stepped a) (c.in_ok-make_step.ensures now a made) in
    stopped_on (HasSeen now c.switched_by.new.draft) (next_repeat a c.args.last.now) c.from_residual-in_err-switched.result c.in_err-switched.field-0.0
    (c.in_err-switched.ensures.is now (stepped a) asked) c.from_residual-in_err-switched.ensures
