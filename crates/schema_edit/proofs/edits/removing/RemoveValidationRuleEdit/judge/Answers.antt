use Rattle.std.proofs.Common.{arith, subst}
use Rattle.store_edit.proofs.Judged.{done_so, passed_on}
use Rattle.store_kv.specs.Draft.{tables_of}
use Rattle.model.specs.Paths.{Asked}
use Rattle.model.specs.ValidationRules.{remove_validation_rule}
use Rattle.store_abstraction.specs.Fails.{of_store}
use Rattle.schema_edit.specs.inner.RuleReads.{AcceptsRow}
use Rattle.schema_edit.specs.inner.RuleRemovals.{changes_of}
use Rattle.schema_edit.proofs.AccessEdits.{SamePlan}
use Rattle.schema_edit.proofs.ObjectEdits.{rows_fail}
use Rattle.schema_edit.proofs.RuleGone.{RemovalLaws, removal_own, removal_takes, some_rule}
use Rattle.schema_edit.proofs.edits.removing.RemoveValidationRuleEdit.judge.Goals as goal

pub returns-in_err-removal-clause-what : goal.returns-in_err-removal-clause-what
returns-in_err-removal-clause-what g c told =
    let org = c.args.org in
    let object = c.args.self.now.object.now in
    let name = c.args.self.now.name.now in
    passed_on org (λ (a : Asked). remove_validation_rule a.tenant object name) SamePlan _ (tables_of g.K.Keeper.state c.args.draft.now) (of_store c.in_err-removal.field-0.0) c.from_residual-in_err-removal.result c.from_residual-in_err-removal.ensures.1
    (λ q a s f.
    let accepted = subst (AcceptsRow org a.tenant object (remove_validation_rule a.tenant object name)) c.in_ok-row.was (c.object_with_rule.ensures.accepts told q a.tenant s) in
    rows_fail (remove_validation_rule a.tenant object name) c.removal_of.result c.in_err-removal.field-0.0 (c.removal_of.ensures.damaged (some_rule org a.tenant object name c.in_ok-row.row accepted.0 accepted.1)) c.in_err-removal.was)

pub returns-clause-what : goal.returns-clause-what
returns-clause-what g c told =
    let org = c.args.org in
    let object = c.args.self.now.object.now in
    let name = c.args.self.now.name.now in
    let row = c.in_ok-row.row in
    let removal = c.in_ok-removal.removal in
    let fits = c.in_ok-removal.ensures.fits in
    let laws : RemovalLaws = record {
      described = c.metadata_laws.ensures.described;
      object_fits = c.metadata_laws.ensures.object_fits;
      plan_fits = c.slot_laws.ensures.described;
      sound = c.objects_sound.ensures.remove_validation_rule;
    } in
    done_so org (λ (a : Asked). remove_validation_rule a.tenant object name) SamePlan _ (tables_of g.K.Keeper.state c.args.draft.now) (changes_of removal) c.decided.result c.decided.ensures.made c.decided.ensures.cause
    (removal_own org row name removal fits (c.in_ok-row.ensures.own told) c.in_ok-removal.ensures.same)
    (λ q a s f.
    let accepted = subst (AcceptsRow org a.tenant object (remove_validation_rule a.tenant object name)) c.in_ok-row.was (c.object_with_rule.ensures.accepts told q a.tenant s) in
    removal_takes laws org a.tenant object name row removal q (omega arith) s.plan s.sound accepted.0 accepted.1 c.in_ok-removal.ensures.same fits)
