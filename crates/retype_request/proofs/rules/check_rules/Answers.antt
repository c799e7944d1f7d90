use Rattle.std.proofs.Common.{◌∙◌}
use Rattle.store_kv.specs.Draft.{tables_of}
use Rattle.model.specs.Rules.{first_of}
use Rattle.retype_request.specs.inner.Rules.{row_use}
use Rattle.retype_request.proofs.Reading.{first_of_rows, unread_of}
use Rattle.store_edit.proofs.StepByStep.{passed_on}
use Rattle.retype_request.proofs.rules.check_rules.Goals as goal
use Rattle.schema_rules.specs.Objects.{object_of_layout}
use Rattle.schema_rules.specs.Rows.{rule_rows}
use Rattle.store_abstraction.specs.Fails.{of_store}

pub returns-in_err-rules-clause-passes : goal.returns-in_err-rules-clause-passes
returns-in_err-rules-clause-passes g c told q t s is =
    let l = c.args.layout.now in
    let e = c.in_err-rules.field-0.0 in
    let m = tables_of g.K.Keeper.state c.args.draft.now in
    let rule = first_of (row_use (object_of_layout l) c.args.place c.args.field.now) (rule_rows l.org l.object t) in
    passed_on rule (λ x. Unit {0}) c.from_residual.result (of_store e) c.from_residual.ensures.1
    (unread_of rule m q t l (rule_rows l.org l.object) c.rules_of.result e (c.rules_of.ensures.finds told) c.in_err-rules.was s is)

pub returns-in-None-clause-passes : goal.returns-in-None-clause-passes
returns-in-None-clause-passes g c told q t s is =
    let l = c.args.layout.now in
    let m = tables_of g.K.Keeper.state c.args.draft.now in
    let uses = row_use (object_of_layout l) c.args.place c.args.field.now in
    (first_of_rows m q t uses _ l (rule_rows l.org l.object) c.rules_of.result c.in_ok-rules.rules c.as_slice.result.now (c.rules_of.ensures.finds told) c.in_ok-rules.was s is c.as_slice.ensures c.in_ok-first_rule_use.ensures ∙ c.in-None.is, tt)

pub returns-clause-passes : goal.returns-clause-passes
returns-clause-passes g c told q t s is =
    let l = c.args.layout.now in
    let m = tables_of g.K.Keeper.state c.args.draft.now in
    let uses = row_use (object_of_layout l) c.args.place c.args.field.now in
    first_of_rows m q t uses _ l (rule_rows l.org l.object) c.rules_of.result c.in_ok-rules.rules c.as_slice.result.now (c.rules_of.ensures.finds told) c.in_ok-rules.was s is c.as_slice.ensures c.in_ok-first_rule_use.ensures ∙ c.in-Some.is
