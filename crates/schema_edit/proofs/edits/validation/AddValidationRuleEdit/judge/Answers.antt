use Rattle.std.proofs.Common.{arith, subst}
use Rattle.store_edit.proofs.Judged.{done_so, passed_on}
use Rattle.store_kv.specs.Draft.{tables_of}
use Rattle.model.specs.Paths.{Asked}
use Rattle.model.specs.ValidationRules.{add_validation_rule}
use Rattle.store_abstraction.specs.Fails.{of_store}
use Rattle.schema_edit.specs.inner.RuleReads.{AcceptsRow}
use Rattle.schema_edit.specs.inner.RuleRows.{changes_of}
use Rattle.schema_edit.proofs.AccessEdits.{SamePlan}
use Rattle.schema_edit.proofs.ObjectEdits.{rows_fail}
use Rattle.schema_edit.proofs.RuleStands.{RuleLaws, rule_own, rule_spelled, rule_takes}
use Rattle.schema_edit.proofs.edits.validation.AddValidationRuleEdit.judge.Goals as goal

pub returns-in_err-rows-clause-what : goal.returns-in_err-rows-clause-what
returns-in_err-rows-clause-what g c told =
    let state = g.K.Keeper.state in
    let org = c.args.org in
    let b = c.args.self.now.new.now in
    let metadata = c.metadata_laws.ensures in
    let laws : RuleLaws = record { described = metadata.described; ruled = metadata.ruled; found = metadata.rule_found; put = metadata.rule_put; rule_fits = metadata.rule_fits; object_fits = metadata.object_fits; plan_fits = c.slot_laws.ensures.described; sound = c.objects_sound.ensures.add_validation_rule } in
    passed_on org (λ (a : Asked). add_validation_rule a.tenant b) SamePlan _ (tables_of state c.args.draft.now) (of_store c.in_err-rows.field-0.0) c.from_residual-in_err-rows.result c.from_residual-in_err-rows.ensures.1
    (λ q a s f.
    let accepted = subst (AcceptsRow org a.tenant b.object (add_validation_rule a.tenant b)) c.in_ok-row.was (c.object_to_rule.ensures.accepts told q a.tenant s) in
    let held = rule_spelled laws org a.tenant b c.in_ok-row.row (omega arith) s.sound f accepted.0 accepted.1 in
    rows_fail (add_validation_rule a.tenant b) c.rows_of.result c.in_err-rows.field-0.0 (c.rows_of.ensures.damaged held.0 held.1) c.in_err-rows.was)

pub returns-clause-what : goal.returns-clause-what
returns-clause-what g c told =
    let state = g.K.Keeper.state in
    let org = c.args.org in
    let b = c.args.self.now.new.now in
    let row = c.in_ok-row.row in
    let rows = c.in_ok-rows.rows in
    let metadata = c.metadata_laws.ensures in
    let laws : RuleLaws = record { described = metadata.described; ruled = metadata.ruled; found = metadata.rule_found; put = metadata.rule_put; rule_fits = metadata.rule_fits; object_fits = metadata.object_fits; plan_fits = c.slot_laws.ensures.described; sound = c.objects_sound.ensures.add_validation_rule } in
    done_so org (λ (a : Asked). add_validation_rule a.tenant b) SamePlan _ (tables_of state c.args.draft.now) (changes_of rows) c.decided.result c.decided.ensures.made c.decided.ensures.cause
    (rule_own org row b rows c.in_ok-rows.ensures.fits (c.in_ok-row.ensures.own told) c.in_ok-rows.ensures.same)
    (λ q a s f.
    let accepted = subst (AcceptsRow org a.tenant b.object (add_validation_rule a.tenant b)) c.in_ok-row.was (c.object_to_rule.ensures.accepts told q a.tenant s) in
    rule_takes laws org a.tenant b row rows q (omega arith) s.plan s.sound f accepted.0 accepted.1 c.in_ok-rows.ensures.same)
