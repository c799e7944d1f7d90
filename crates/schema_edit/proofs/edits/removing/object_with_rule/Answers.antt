use Rattle.model.specs.ValidationRules.{remove_validation_rule}
use Rattle.schema_edit.proofs.RuleGone.{removal_free, removal_refused}
use Rattle.schema_edit.proofs.RuleReads.{passed_on, read_fails, read_so}
use Rattle.schema_edit.proofs.edits.removing.object_with_rule.Goals as goal

pub returns-in_err-read-clause-accepts : goal.returns-in_err-read-clause-accepts
returns-in_err-read-clause-accepts g c told q t s =
    let org = c.args.org in
    let object = c.args.object.now in
    let name = c.args.name.now in
    let e = c.in_err-read.field-0.0 in
    passed_on org t object (remove_validation_rule t object name) e c.from_residual.result c.from_residual.ensures.1
    (read_fails org t object name c.read_object.result e (c.read_object.ensures.reads told q t s) c.in_err-read.was _)

pub returns-then-not-read-clause-accepts : goal.returns-then-not-read-clause-accepts
returns-then-not-read-clause-accepts g c told q t s =
    let org = c.args.org in
    let object = c.args.object.now in
    let name = c.args.name.now in
    let read = c.in_ok-read.read in
    removal_refused org t object name read (read_so org t object name c.read_object.result read (c.read_object.ensures.reads told q t s) c.in_ok-read.was) c.if-not-read.true

pub returns-clause-accepts : goal.returns-clause-accepts
returns-clause-accepts g c told q t s =
    let org = c.args.org in
    let object = c.args.object.now in
    let name = c.args.name.now in
    let read = c.in_ok-read.read in
    let is = read_so org t object name c.read_object.result read (c.read_object.ensures.reads told q t s) c.in_ok-read.was in
    (removal_free org t object name read is c.if-not-read.false, is.row)
