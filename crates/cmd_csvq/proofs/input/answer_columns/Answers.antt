use Rattle.std.proofs.Common.{◌≡◌, List, Ok, Option, Result, ap, false, map, subst, sym, ℕ}
use Rattle.csv.specs.Records.{fields_of}
use Rattle.model.specs.Paths.{Asked}
use Rattle.cmd_csvq.specs.Organisation.{with_columns}
use Rattle.cmd_csvq.specs.Outcomes.{columns_outcome}
use Rattle.cmd_csvq.specs.inner.Making.{Goes}
use Rattle.cmd_csvq.proofs.Turns.{goes_well, goes_wrong}
use Rattle.store_rows.specs.declared.fail.StoreFail.{StoreFail}
use Rattle.cmd_csvq.specs.declared.outcome.Outcome.{Outcome}
use Rattle.cmd_sandbox.specs.Making.{OrMemory}
use Rattle.cmd_csvq.proofs.Turns.{handed_on, went_out}
use Rattle.cmd_csvq.proofs.input.answer_columns.Goals as goal

pub returns-in-Some : goal.returns-in-Some
returns-in-Some c a made =
    let m = c.make_columns.new.draft in
    let hs = fields_of c.args.heading.now in
    let r = with_columns false a hs in
    let h = subst (λ (x : Option (List ℕ)). Goes c.args.now m r (Ok x)) c.in-Some.is (c.in_ok-refused.ensures c.args.now a made) in
    sym (ap (columns_outcome c.args.query.now hs (map fields_of c.args.rows.now)) (goes_wrong c.args.now m r _ h))

pub returns-in-None : goal.returns-in-None
returns-in-None c a made =
    let m = c.make_columns.new.draft in
    let hs = fields_of c.args.heading.now in
    let r = with_columns false a hs in
    let h = subst (λ (x : Option (List ℕ)). Goes c.args.now m r (Ok x)) c.in-None.is (c.in_ok-refused.ensures c.args.now a made) in
    let w = goes_well c.args.now m r h in
    subst (λ (x : Result Asked (List ℕ)). OrMemory c.answer_rows.result (λ o. o ≡ columns_outcome c.args.query.now hs (map fields_of c.args.rows.now) x)) (sym w.1) (c.answer_rows.ensures w.0 w.2)

pub returns-in_err-refused : goal.returns-in_err-refused
returns-in_err-refused c a made =
    let hs = fields_of c.args.heading.now in
    handed_on (λ (r : Result Outcome StoreFail). OrMemory r (λ o. o ≡ columns_outcome c.args.query.now hs (map fields_of c.args.rows.now) (with_columns false a hs))) c.from_residual.result
    c.in_err-refused.field-0.0 c.from_residual.ensures (went_out c.args.now c.make_columns.new.draft (with_columns false a hs) c.in_err-refused.field-0.0 (c.in_err-refused.ensures c.args.now a made))
