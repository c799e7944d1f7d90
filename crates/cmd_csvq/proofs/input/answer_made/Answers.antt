use Rattle.std.proofs.Common.{◌≡◌, ◌∷◌, None, Ok, Option, Result, Some, map, pos, subst}
use Rattle.csv.specs.Records.{fields_of}
use Rattle.model.specs.Metadata.{add_object}
use Rattle.model.specs.declared.refusal.Refusal.{Refusal}
use Rattle.cmd_sandbox.specs.Own.{asker, past}
use Rattle.cmd_csvq.specs.Organisation.{new_rows}
use Rattle.cmd_csvq.specs.declared.outcome.Outcome.{Outcome}
use Rattle.cmd_sandbox.specs.Making.{OrMemory, StepsOwn}
use Rattle.cmd_csvq.proofs.Turns.{by_object}
use Rattle.store_rows.specs.declared.fail.StoreFail.{StoreFail}
use Rattle.cmd_csvq.specs.Outcomes.{table_outcome}
use Rattle.cmd_csvq.proofs.Turns.{handed_on}
use Rattle.cmd_csvq.proofs.input.answer_made.Goals as goal

pub returns-in-Some : goal.returns-in-Some
returns-in-Some c stands sure =
    let a = asker (pos c.args.now) in
    let v = add_object a.tenant new_rows in
    let h = subst (λ (x : Option Refusal). StepsOwn c.args.now c.make_object_of_rows.new.draft a v (Ok x)) c.in-Some.is (c.in_ok-refused.ensures c.args.now a (c.in_ok-make_org.ensures stands sure c.args.now)) in
    by_object c.args.query.now c.args.now (fields_of c.args.heading.now) (map fields_of c.args.rows.now) (Some c.in-Some.refusal) h

pub returns-in-None : goal.returns-in-None
returns-in-None c stands sure =
    let a = asker (pos c.args.now) in
    let v = add_object a.tenant new_rows in
    let h = subst (λ (x : Option Refusal). StepsOwn c.args.now c.make_object_of_rows.new.draft a v (Ok x)) c.in-None.is (c.in_ok-refused.ensures c.args.now a (c.in_ok-make_org.ensures stands sure c.args.now)) in
    subst (λ (x : Outcome). OrMemory c.answer_columns.result (λ o. o ≡ x))
    (by_object c.args.query.now c.args.now (fields_of c.args.heading.now) (map fields_of c.args.rows.now) None h.0)
    (c.answer_columns.ensures (past a v) h.1)

pub returns-in_err-make_org : goal.returns-in_err-make_org
returns-in_err-make_org c stands sure =
    handed_on (λ (r : Result Outcome StoreFail). OrMemory r (λ o. o ≡ table_outcome c.args.query.now (pos c.args.now) (fields_of c.args.heading.now ∷ map fields_of c.args.rows.now)))
    c.from_residual.result c.in_err-make_org.field-0.0 c.from_residual.ensures (c.in_err-make_org.ensures stands sure c.args.now)

pub returns-in_err-refused : goal.returns-in_err-refused
returns-in_err-refused c stands sure =
    handed_on (λ (r : Result Outcome StoreFail). OrMemory r (λ o. o ≡ table_outcome c.args.query.now (pos c.args.now) (fields_of c.args.heading.now ∷ map fields_of c.args.rows.now)))
    c.from_residual-in_err-refused.result c.in_err-refused.field-0.0 c.from_residual-in_err-refused.ensures
    (c.in_err-refused.ensures c.args.now (asker (pos c.args.now)) (c.in_ok-make_org.ensures stands sure c.args.now))
