use Rattle.std.proofs.Common.{◌≡◌, ◌∙◌, Ok, Option, Result, ap, map, subst, sym, ℕ}
use Rattle.csv.specs.Records.{fields_of}
use Rattle.model.specs.declared.refusal.Refusal.{Refusal}
use Rattle.cmd_csvq.specs.Organisation.{with_rows}
use Rattle.cmd_csvq.specs.Outcomes.{lines_outcome, rows_outcome}
use Rattle.cmd_csvq.specs.inner.Making.{Goes}
use Rattle.cmd_csvq.proofs.Turns.{goes_well, goes_wrong}
use Rattle.store_rows.specs.declared.fail.StoreFail.{StoreFail}
use Rattle.cmd_csvq.specs.declared.outcome.Outcome.{Outcome}
use Rattle.cmd_sandbox.specs.Making.{OrMemory}
use Rattle.cmd_csvq.proofs.Turns.{handed_on, went_out}
use Rattle.cmd_csvq.proofs.input.answer_rows.Goals as goal

pub returns-in-Some : goal.returns-in-Some
returns-in-Some c a made =
    let m = c.make_rows.new.draft in
    let r = with_rows (fields_of c.args.heading.now) 1 a (map fields_of c.args.rows.now) in
    let h = subst (λ (x : Option (ℕ × Refusal)). Goes c.args.now m r (Ok x)) c.in-Some.is (c.in_ok-refused.ensures a made) in
    sym (ap (rows_outcome c.args.query.now) (goes_wrong c.args.now m r _ h))

pub returns-in_ok-answer-in-None : goal.returns-in_ok-answer-in-None
returns-in_ok-answer-in-None c a made =
    let m = c.make_rows.new.draft in
    let r = with_rows (fields_of c.args.heading.now) 1 a (map fields_of c.args.rows.now) in
    let h = subst (λ (x : Option (ℕ × Refusal)). Goes c.args.now m r (Ok x)) c.in-None.is (c.in_ok-refused.ensures a made) in
    let w = goes_well c.args.now m r h in
    c.lines_outcome.ensures ∙ ap lines_outcome (c.in_ok-answer-in-None.ensures.lines w.0 w.2) ∙ sym (ap (rows_outcome c.args.query.now) w.1)

abbrev Comes : Result Outcome StoreFail → Outcome → Type 0
Comes r due = OrMemory r (λ outcome. outcome ≡ due)

pub returns-in_err-refused : goal.returns-in_err-refused
returns-in_err-refused c a made =
    handed_on (λ r. Comes r (rows_outcome c.args.query.now (with_rows (fields_of c.args.heading.now) 1 a (map fields_of c.args.rows.now)))) c.from_residual.result c.in_err-refused.field-0.0
    c.from_residual.ensures (went_out c.args.now c.make_rows.new.draft (with_rows (fields_of c.args.heading.now) 1 a (map fields_of c.args.rows.now)) c.in_err-refused.field-0.0 (c.in_err-refused.ensures a made))

pub returns-in_err-answer-in-None : goal.returns-in_err-answer-in-None
returns-in_err-answer-in-None c a made =
    let m = c.make_rows.new.draft in
    let r = with_rows (fields_of c.args.heading.now) 1 a (map fields_of c.args.rows.now) in
    let h = subst (λ (x : Option (ℕ × Refusal)). Goes c.args.now m r (Ok x)) c.in-None.is (c.in_ok-refused.ensures a made) in
    let w = goes_well c.args.now m r h in
    handed_on (λ x. Comes x (rows_outcome c.args.query.now r)) c.from_residual-in_err-answer-in-None.result c.in_err-answer-in-None.field-0.0 c.from_residual-in_err-answer-in-None.ensures
    (c.in_err-answer-in-None.ensures.lines w.0 w.2)
