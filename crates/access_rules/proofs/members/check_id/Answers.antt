use Rattle.std.proofs.Common.{◌∙◌, true, false, None, ap, subst, sym}
use Rattle.model.specs.Cases.{in_case}
use Rattle.model.specs.declared.sharing_bodies.SpelledSource.{SpelledSource}
use Rattle.model.specs.Principals.{bad_id}
use Rattle.model.specs.Rules.{Rule}
use Rattle.model.specs.SharingRules.{source_owner}
use Rattle.store_edit.specs.Judging.{Passes}
use Rattle.access_rules.proofs.SpelledOnes.{at_from, at_none, at_to, is_from, is_to}
use Rattle.access_rules.proofs.members.check_id.Goals as goal

abbrev from : SpelledSource → Rule
from source = in_case (source_owner source) None (λ p. bad_id p.text)

pub returns-then-is_member-clause-passes : goal.returns-then-is_member-clause-passes
returns-then-is_member-clause-passes c =
    let b = c.args.new.now in
    let member = c.args.member.now in
    subst (λ (r : Rule). Passes r (λ x. Unit {0}) c.check_spelled.result) (sym (at_to (bad_id b.to.text) (from b.source) member (is_to member true c.if-is_member.ensures))) c.check_spelled.ensures.passes

pub returns-in-Owner-clause-passes : goal.returns-in-Owner-clause-passes
returns-in-Owner-clause-passes c =
    let b = c.args.new.now in
    let member = c.args.member.now in
    subst (λ (r : Rule). Passes r (λ x. Unit {0}) c.check_spelled-in-Owner.result)
    (sym (at_from (bad_id b.to.text) (from b.source) member (is_to member false c.if-is_member.ensures) (is_from member true c.if-is_member-2.ensures) ∙ ap from c.in-Owner.is))
    c.check_spelled-in-Owner.ensures.passes

pub returns-in-Criteria-clause-passes : goal.returns-in-Criteria-clause-passes
returns-in-Criteria-clause-passes c =
    let b = c.args.new.now in
    let member = c.args.member.now in
    (at_from (bad_id b.to.text) (from b.source) member (is_to member false c.if-is_member.ensures) (is_from member true c.if-is_member-2.ensures) ∙ ap from c.in-Criteria.is, tt)

pub returns-else-is_member-2-clause-passes : goal.returns-else-is_member-2-clause-passes
returns-else-is_member-2-clause-passes c =
    let b = c.args.new.now in
    let member = c.args.member.now in
    (at_none (bad_id b.to.text) (from b.source) member (is_to member false c.if-is_member.ensures) (is_from member false c.if-is_member-2.ensures), tt)
