use Rattle.std.proofs.Common.{◌∙◌, List, ℕ, true, false, None, ap, codes, subst, sym}
use Rattle.model.specs.Cases.{in_case}
use Rattle.model.specs.declared.sharing_bodies.SpelledSource.{SpelledSource}
use Rattle.model.specs.Principals.{not_there, principal_of}
use Rattle.model.specs.Rules.{Rule}
use Rattle.model.specs.SharingRules.{source_owner}
use Rattle.model.specs.Tenant.{Tenant}
use Rattle.store_edit.specs.Judging.{Passes}
use Rattle.access_rules.proofs.SpelledOnes.{at_from, at_none, at_to, from_text, is_from, is_to, to_text}
use Rattle.access_rules.proofs.members.find_principal.Goals as goal

abbrev from : Tenant → SpelledSource → Rule
from t source = in_case (source_owner source) None (λ p. not_there t (codes "from") (principal_of p))

pub returns-then-is_member-clause-passes : goal.returns-then-is_member-clause-passes
returns-then-is_member-clause-passes g c told q t s =
    let b = c.args.new.now in
    let member = c.args.member.now in
    subst (λ (r : Rule). Passes r (λ x. Unit {0}) c.find_spelled.result)
    (ap (λ (m : List ℕ). not_there t m (principal_of b.to)) to_text ∙ sym (at_to (not_there t (codes "to") (principal_of b.to)) (from t b.source) member (is_to member true c.if-is_member.ensures)))
    (c.find_spelled.ensures.passes told q t s)

pub returns-in-Owner-clause-passes : goal.returns-in-Owner-clause-passes
returns-in-Owner-clause-passes g c told q t s =
    let b = c.args.new.now in
    let member = c.args.member.now in
    subst (λ (r : Rule). Passes r (λ x. Unit {0}) c.find_spelled-in-Owner.result)
    (ap (λ (m : List ℕ). not_there t m (principal_of c.in-Owner.owner)) from_text
    ∙ sym (at_from (not_there t (codes "to") (principal_of b.to)) (from t b.source) member (is_to member false c.if-is_member.ensures) (is_from member true c.if-is_member-2.ensures) ∙ ap (from t) c.in-Owner.is))
    (c.find_spelled-in-Owner.ensures.passes told q t s)

pub returns-in-Criteria-clause-passes : goal.returns-in-Criteria-clause-passes
returns-in-Criteria-clause-passes g c told q t s =
    let b = c.args.new.now in
    let member = c.args.member.now in (
      at_from (not_there t (codes "to") (principal_of b.to)) (from t b.source) member (is_to member false c.if-is_member.ensures) (is_from member true c.if-is_member-2.ensures) ∙ ap (from t) c.in-Criteria.is,
      tt,
    )

pub returns-else-is_member-2-clause-passes : goal.returns-else-is_member-2-clause-passes
returns-else-is_member-2-clause-passes g c told q t s =
    let b = c.args.new.now in
    let member = c.args.member.now in
    (at_none (not_there t (codes "to") (principal_of b.to)) (from t b.source) member (is_to member false c.if-is_member.ensures) (is_from member false c.if-is_member-2.ensures), tt)
