use Rattle.std.proofs.Common.{◌≡◌, ◌∙◌, ℕ, List, None, subst, sym}
use Rattle.model.specs.Rules.{in_body_order, rule_of}
use Rattle.store_edit.proofs.StepByStep.{passed_on}
use Rattle.people_edit.proofs.Members.{none_left, this_fails, this_passes}
use Rattle.store_edit.specs.Judging.{FailsRule}
use Rattle.access_shares.specs.inner.Finding.{member_rules}
use Rattle.access_shares.proofs.texts.check_texts.Goals as goal

pub loop-member-preserved : goal.loop-member-preserved
loop-member-preserved c =
    this_passes (rule_of (member_rules c.args.new.now)) c.as_slice-members.result.now c.loop-member.member-index c.member-item.result c.loop-member-test.true c.member-item.is c.loop-member.invariant c.in_ok-check_member.ensures.passes.0

pub returns-in_err-check_member-clause-passes : goal.returns-in_err-check_member-clause-passes
returns-in_err-check_member-clause-passes c =
    let rules = member_rules c.args.new.now in
    let e = c.in_err-check_member.field-0.0 in
    passed_on (in_body_order c.args.new.now.members rules) (λ x. Unit {0}) c.from_residual.result e c.from_residual.ensures.1
    (subst (λ (ms : List (List ℕ)). FailsRule (in_body_order ms rules) e) c.as_slice-members.ensures
    (this_fails (rule_of rules) c.as_slice-members.result.now c.loop-member.member-index c.member-item.result c.loop-member-test.true c.member-item.is e c.loop-member.invariant c.in_err-check_member.ensures.passes))

pub returns-clause-passes : goal.returns-clause-passes
returns-clause-passes c =
    let rules = member_rules c.args.new.now in
    (subst (λ (ms : List (List ℕ)). in_body_order ms rules ≡ None) c.as_slice-members.ensures (sym c.loop-member.invariant ∙ none_left (rule_of rules) c.as_slice-members.result.now c.loop-member.member-index c.loop-member-test.false), tt)
