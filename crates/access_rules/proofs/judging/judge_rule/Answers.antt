use Rattle.std.proofs.Common.{Some, subst, sym}
use Rattle.store_kv.specs.Tables.{Tables}
use Rattle.model.specs.Rules.{first_refusal}
use Rattle.store_abstraction.specs.Local.{StandsIn}
use Rattle.access_rules.specs.inner.Adding.{rules_by}
use Rattle.access_rules.proofs.NewRules.{formula_fails, ids_fail, name_fails, none_fails, object_fails, room_fails, taken_fails, there_fails}
use Rattle.store_edit.proofs.StepByStep.{passed_on}
use Rattle.access_rules.proofs.judging.judge_rule.Goals as goal

pub returns-in_err-check_object-clause-passes : goal.returns-in_err-check_object-clause-passes
returns-in_err-check_object-clause-passes g c told q t s few =
    let l = c.args.layout.now in
    let row = c.args.row.now in
    let b = c.args.new.now in
    let e = c.in_err-check_object.field-0.0 in
    passed_on (first_refusal (rules_by l row t b)) (λ x. Unit {0}) c.from_residual.result e c.from_residual.ensures.1 (object_fails l row t b e c.in_err-check_object.ensures.passes)

pub returns-in_err-check_name-clause-passes : goal.returns-in_err-check_name-clause-passes
returns-in_err-check_name-clause-passes g c told q t s few =
    let l = c.args.layout.now in
    let row = c.args.row.now in
    let b = c.args.new.now in
    let e = c.in_err-check_name.field-0.0 in
    passed_on (first_refusal (rules_by l row t b)) (λ x. Unit {0}) c.from_residual-in_err-check_name.result e c.from_residual-in_err-check_name.ensures.1
    (name_fails l row t b c.in_ok-check_object.ensures.passes.0 e c.in_err-check_name.ensures.passes)

pub returns-in_err-check_free-clause-passes : goal.returns-in_err-check_free-clause-passes
returns-in_err-check_free-clause-passes g c told q t s few =
    let l = c.args.layout.now in
    let row = c.args.row.now in
    let b = c.args.new.now in
    let e = c.in_err-check_free.field-0.0 in
    passed_on (first_refusal (rules_by l row t b)) (λ x. Unit {0}) c.from_residual-in_err-check_free.result e c.from_residual-in_err-check_free.ensures.1
    (taken_fails l row t b c.in_ok-check_object.ensures.passes.0 c.in_ok-check_name.ensures.passes.0 e (c.in_err-check_free.ensures.passes told q t s))

pub returns-in_err-check_ids-clause-passes : goal.returns-in_err-check_ids-clause-passes
returns-in_err-check_ids-clause-passes g c told q t s few =
    let l = c.args.layout.now in
    let row = c.args.row.now in
    let b = c.args.new.now in
    let e = c.in_err-check_ids.field-0.0 in
    passed_on (first_refusal (rules_by l row t b)) (λ x. Unit {0}) c.from_residual-in_err-check_ids.result e c.from_residual-in_err-check_ids.ensures.1
    (ids_fail l row t b c.in_ok-check_object.ensures.passes.0 c.in_ok-check_name.ensures.passes.0 (c.in_ok-check_free.ensures.passes told q t s).0 c.as_slice-members.result.now c.as_slice-members.ensures e c.in_err-check_ids.ensures.passes)

pub returns-in_err-find_principals-clause-passes : goal.returns-in_err-find_principals-clause-passes
returns-in_err-find_principals-clause-passes g c told q t s few =
    let l = c.args.layout.now in
    let row = c.args.row.now in
    let b = c.args.new.now in
    let e = c.in_err-find_principals.field-0.0 in
    let next = c.in_err-find_principals.ensures in
    let tells = c.draft_laws.ensures.both 0 0 c.args.draft.now c.check_free.new.draft c.find_principals.new.draft c.in_ok-check_free.ensures.calls.reads next.calls.reads told in
    let stands = subst (λ (m : Tables). StandsIn c.args.org q m (Some t)) (sym tells.2) s in
    passed_on (first_refusal (rules_by l row t b)) (λ x. Unit {0}) c.from_residual-in_err-find_principals.result e c.from_residual-in_err-find_principals.ensures.1
    (there_fails l row t b c.in_ok-check_object.ensures.passes.0 c.in_ok-check_name.ensures.passes.0 (c.in_ok-check_free.ensures.passes tells.0 q t s).0 c.as_slice-members.result.now c.as_slice-members.ensures c.in_ok-check_ids.ensures.passes.0 e
    (next.passes tells.1 q t stands))

pub returns-in_err-check_formula-clause-passes : goal.returns-in_err-check_formula-clause-passes
returns-in_err-check_formula-clause-passes g c told q t s few =
    let l = c.args.layout.now in
    let row = c.args.row.now in
    let b = c.args.new.now in
    let e = c.in_err-check_formula.field-0.0 in
    let next = c.in_ok-find_principals.ensures in
    let tells = c.draft_laws.ensures.both 0 0 c.args.draft.now c.check_free.new.draft c.find_principals.new.draft c.in_ok-check_free.ensures.calls.reads next.calls.reads told in
    let stands = subst (λ (m : Tables). StandsIn c.args.org q m (Some t)) (sym tells.2) s in
    passed_on (first_refusal (rules_by l row t b)) (λ x. Unit {0}) c.from_residual-in_err-check_formula.result e c.from_residual-in_err-check_formula.ensures.1
    (formula_fails l row t b c.in_ok-check_object.ensures.passes.0 c.in_ok-check_name.ensures.passes.0 (c.in_ok-check_free.ensures.passes tells.0 q t s).0 c.as_slice-members.result.now c.as_slice-members.ensures c.in_ok-check_ids.ensures.passes.0
    (next.passes tells.1 q t stands).0 e (c.in_err-check_formula.ensures.passes few))

pub returns-in_err-check_room-clause-passes : goal.returns-in_err-check_room-clause-passes
returns-in_err-check_room-clause-passes g c told q t s few =
    let l = c.args.layout.now in
    let row = c.args.row.now in
    let b = c.args.new.now in
    let e = c.in_err-check_room.field-0.0 in
    let next = c.in_ok-find_principals.ensures in
    let tells = c.draft_laws.ensures.both 0 0 c.args.draft.now c.check_free.new.draft c.find_principals.new.draft c.in_ok-check_free.ensures.calls.reads next.calls.reads told in
    let stands = subst (λ (m : Tables). StandsIn c.args.org q m (Some t)) (sym tells.2) s in
    passed_on (first_refusal (rules_by l row t b)) (λ x. Unit {0}) c.from_residual-in_err-check_room.result e c.from_residual-in_err-check_room.ensures.1
    (room_fails l row t b c.in_ok-check_object.ensures.passes.0 c.in_ok-check_name.ensures.passes.0 (c.in_ok-check_free.ensures.passes tells.0 q t s).0 c.as_slice-members.result.now c.as_slice-members.ensures c.in_ok-check_ids.ensures.passes.0
    (next.passes tells.1 q t stands).0 (c.in_ok-check_formula.ensures.passes few).0 e c.in_err-check_room.ensures.passes)

pub returns-clause-passes : goal.returns-clause-passes
returns-clause-passes g c told q t s few =
    let l = c.args.layout.now in
    let row = c.args.row.now in
    let b = c.args.new.now in
    let next = c.in_ok-find_principals.ensures in
    let tells = c.draft_laws.ensures.both 0 0 c.args.draft.now c.check_free.new.draft c.find_principals.new.draft c.in_ok-check_free.ensures.calls.reads next.calls.reads told in
    let stands = subst (λ (m : Tables). StandsIn c.args.org q m (Some t)) (sym tells.2) s in (
      none_fails l row t b c.in_ok-check_object.ensures.passes.0 c.in_ok-check_name.ensures.passes.0 (c.in_ok-check_free.ensures.passes tells.0 q t s).0 c.as_slice-members.result.now c.as_slice-members.ensures c.in_ok-check_ids.ensures.passes.0
          (next.passes tells.1 q t stands).0 (c.in_ok-check_formula.ensures.passes few).0 c.in_ok-check_room.ensures.passes.0,
      tt,
    )
