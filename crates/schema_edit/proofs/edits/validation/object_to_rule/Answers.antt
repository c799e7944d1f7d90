use Rattle.std.proofs.Common.{◌∙◌, sym}
use Rattle.model.specs.ValidationRules.{add_validation_rule}
use Rattle.store_abstraction.specs.Fails.{of_store}
use Rattle.schema_edit.proofs.ObjectEdits.{rows_fail}
use Rattle.schema_edit.proofs.RuleReads.{passed_on, read_fails, read_so}
use Rattle.schema_edit.proofs.RuleStands.{few_read, rule_free, rule_refused}
use Rattle.schema_edit.proofs.edits.validation.object_to_rule.Goals as goal

pub returns-in_err-object-clause-accepts : goal.returns-in_err-object-clause-accepts
returns-in_err-object-clause-accepts g c told q t s =
    let b = c.args.new.now in
    let e = c.in_err-object.field-0.0 in
    passed_on c.args.org t b.object (add_validation_rule t b) e c.from_residual.result c.from_residual.ensures.1
    (read_fails c.args.org t b.object b.name c.read_object.result e (c.read_object.ensures.reads told q t s) c.in_err-object.was _)

pub returns-in_err-judge_rule-clause-accepts : goal.returns-in_err-judge_rule-clause-accepts
returns-in_err-judge_rule-clause-accepts g c told q t s =
    let org = c.args.org in
    let b = c.args.new.now in
    let is = read_so org t b.object b.name c.read_object.result c.in_ok-object.object (c.read_object.ensures.reads told q t s) c.in_ok-object.was in
    passed_on org t b.object (add_validation_rule t b) (of_store c.in_err-judge_rule.field-0.0) c.from_residual-in_err-judge_rule.result c.from_residual-in_err-judge_rule.ensures.1
    (rows_fail (add_validation_rule t b) c.judge_rule.result c.in_err-judge_rule.field-0.0 (c.judge_rule.ensures.damaged (few_read org t b.object b.name c.in_ok-object.object s.sound is)) c.in_err-judge_rule.was)

pub returns-in-None-clause-accepts : goal.returns-in-None-clause-accepts
returns-in-None-clause-accepts g c told q t s =
    let b = c.args.new.now in
    let is = read_so c.args.org t b.object b.name c.read_object.result c.in_ok-object.object (c.read_object.ensures.reads told q t s) c.in_ok-object.was in
    (rule_free t b is.numbered is.there (sym c.in-None.is ∙ c.in_ok-judge_rule.ensures.judged t is.numbered is.ruled), is.row)

pub returns-in-Some-clause-accepts : goal.returns-in-Some-clause-accepts
returns-in-Some-clause-accepts g c told q t s =
    let b = c.args.new.now in
    let is = read_so c.args.org t b.object b.name c.read_object.result c.in_ok-object.object (c.read_object.ensures.reads told q t s) c.in_ok-object.was in
    rule_refused t b is.numbered c.in-Some.refusal is.there (sym c.in-Some.is ∙ c.in_ok-judge_rule.ensures.judged t is.numbered is.ruled)
