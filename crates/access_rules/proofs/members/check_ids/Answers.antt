use Rattle.std.proofs.Common.{◌∙◌, sym}
use Rattle.model.specs.Rules.{first_of, rule_of}
use Rattle.access_rules.specs.inner.Adding.{id_rules}
use Rattle.access_rules.proofs.InTurn.{none_left, this_fails, this_passes}
use Rattle.store_edit.proofs.StepByStep.{passed_on}
use Rattle.access_rules.proofs.members.check_ids.Goals as goal

pub loop-member-preserved : goal.loop-member-preserved
loop-member-preserved c =
    this_passes (rule_of (id_rules c.args.new.now)) c.args.members.now c.loop-member.member-index c.member-item.result c.loop-member-test.true c.member-item.is c.loop-member.invariant c.in_ok-check_id.ensures.passes.0

pub returns-in_err-check_id-clause-passes : goal.returns-in_err-check_id-clause-passes
returns-in_err-check_id-clause-passes c =
    let rule = rule_of (id_rules c.args.new.now) in
    let e = c.in_err-check_id.field-0.0 in
    passed_on (first_of rule c.args.members.now) (λ x. Unit {0}) c.from_residual.result e c.from_residual.ensures.1
    (this_fails rule c.args.members.now c.loop-member.member-index c.member-item.result c.loop-member-test.true c.member-item.is e c.loop-member.invariant c.in_err-check_id.ensures.passes)

pub returns-clause-passes : goal.returns-clause-passes
returns-clause-passes c =
    let rule = rule_of (id_rules c.args.new.now) in
    (sym c.loop-member.invariant ∙ none_left rule c.args.members.now c.loop-member.member-index c.loop-member-test.false, tt)
