use Rattle.std.proofs.Common.{◌∙◌, Some, subst, sym}
use Rattle.store_kv.specs.Tables.{Tables}
use Rattle.model.specs.Rules.{first_of, rule_of}
use Rattle.store_abstraction.specs.Calls.{done}
use Rattle.store_abstraction.specs.Local.{StandsIn}
use Rattle.access_rules.specs.inner.Adding.{there_rules}
use Rattle.access_rules.proofs.InTurn.{none_left, this_fails, this_passes}
use Rattle.store_edit.proofs.StepByStep.{passed_on}
use Rattle.access_rules.proofs.members.find_principals.Goals as goal

pub loop-member-preserved : goal.loop-member-preserved
loop-member-preserved g c =
    let a = c.args.draft.now in
    let b = c.loop-member.draft in
    let d = c.find_principal.new.draft in
    let before = c.loop-member.invariant in
    let next = c.in_ok-find_principal.ensures in
    record {
      calls = c.call_laws.ensures.then 0 0 done a b d before.calls next.calls;
      passes = λ told q t s.
          let tells = c.draft_laws.ensures.both 0 0 a b d before.calls.reads next.calls.reads told in
          let stands = subst (λ (m : Tables). StandsIn c.args.org q m (Some t)) (sym tells.2) s in
          this_passes (rule_of (there_rules t c.args.new.now)) c.args.members.now c.loop-member.member-index c.member-item.result c.loop-member-test.true c.member-item.is (before.passes tells.0 q t s) (next.passes tells.1 q t stands).0;
    }

pub returns-in_err-find_principal-clause-passes : goal.returns-in_err-find_principal-clause-passes
returns-in_err-find_principal-clause-passes g c told q t s =
    let rule = rule_of (there_rules t c.args.new.now) in
    let before = c.loop-member.invariant in
    let e = c.in_err-find_principal.field-0.0 in
    let next = c.in_err-find_principal.ensures in
    let tells = c.draft_laws.ensures.both 0 0 c.args.draft.now c.loop-member.draft c.find_principal.new.draft before.calls.reads next.calls.reads told in
    let stands = subst (λ (m : Tables). StandsIn c.args.org q m (Some t)) (sym tells.2) s in
    passed_on (first_of rule c.args.members.now) (λ x. Unit {0}) c.from_residual.result e c.from_residual.ensures.1
    (this_fails rule c.args.members.now c.loop-member.member-index c.member-item.result c.loop-member-test.true c.member-item.is e (before.passes tells.0 q t s) (next.passes tells.1 q t stands))

pub returns-clause-passes : goal.returns-clause-passes
returns-clause-passes g c told q t s =
    let rule = rule_of (there_rules t c.args.new.now) in
    (sym (c.loop-member.invariant.passes told q t s) ∙ none_left rule c.args.members.now c.loop-member.member-index c.loop-member-test.false, tt)
