use Rattle.std.proofs.Common.{[], ◌∷◌, Some, subst, sym}
use Rattle.store_edit.proofs.Reading.{two_reads}
use Rattle.store_kv.specs.Tables.{Tables}
use Rattle.model.specs.Rules.{first_of}
use Rattle.retype_request.specs.inner.Rules.{row_use, sharing_use, use_rule}
use Rattle.retype_request.proofs.StepByStep.{second_passes}
use Rattle.store_edit.proofs.StepByStep.{fails_here, passed_on}
use Rattle.retype_request.proofs.rules.check_unused.Goals as goal
use Rattle.schema_rules.specs.Objects.{object_of_layout}
use Rattle.schema_rules.specs.Rows.{rule_rows}
use Rattle.people_rows.specs.sharing.SharingRules.{sharing_rows}
use Rattle.store_abstraction.specs.Local.{StandsIn}

pub returns-in_err-check_rules-clause-passes : goal.returns-in_err-check_rules-clause-passes
returns-in_err-check_rules-clause-passes g c told q t s is =
    let l = c.args.layout.now in
    let name = c.args.field.now in
    let e = c.in_err-check_rules.field-0.0 in
    let first = first_of (row_use (object_of_layout l) c.args.place name) (rule_rows l.org l.object t) in
    let then = first_of (sharing_use l c.args.place name) (sharing_rows l.org (Some t)) in
    passed_on (use_rule l t c.args.place name) (λ x. Unit {0}) c.from_residual.result e c.from_residual.ensures.1 (fails_here first (then ∷ []) e (c.in_err-check_rules.ensures.passes told q t s is))

pub returns-clause-passes : goal.returns-clause-passes
returns-clause-passes g c told q t s is =
    let l = c.args.layout.now in
    let name = c.args.field.now in
    let calls = c.call_laws.ensures in
    let reads = two_reads g.K.Keeper.state calls.told_first calls.told_then calls.tables c.args.draft.now c.check_rules.new.draft c.check_sharing.new.draft c.check_rules.ensures.calls c.check_sharing.ensures.calls told in
    let stands = subst (λ (m : Tables). StandsIn l.org q m (Some t)) (sym reads.same) s in
    let first = first_of (row_use (object_of_layout l) c.args.place name) (rule_rows l.org l.object t) in
    let then = first_of (sharing_use l c.args.place name) (sharing_rows l.org (Some t)) in
    second_passes first then (λ x. Unit {0}) c.check_sharing.result (c.in_ok-check_rules.ensures.passes reads.first q t s is).0 (c.check_sharing.ensures.passes reads.then q t stands)
