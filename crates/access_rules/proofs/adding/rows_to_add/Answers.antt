use Rattle.std.proofs.Common.{◌∙◌, Some, refl, ap, subst, sym}
use Rattle.store_edit.proofs.Reading.{not_missed, two_reads}
use Rattle.store_kv.specs.Draft.{tables_of}
use Rattle.store_kv.specs.Tables.{Tables}
use Rattle.store_rows.specs.declared.org.OrgRow.{OrgRow}
use Rattle.model.specs.SharingRules.{add_sharing_rule}
use Rattle.store_abstraction.specs.declared.layout.Layout.{Layout}
use Rattle.store_abstraction.specs.Fails.{of_store}
use Rattle.store_abstraction.specs.Layouts.{own_row}
use Rattle.store_abstraction.specs.Local.{FindsThere, StandsIn}
use Rattle.store_abstraction.specs.Metadata.{org_of}
use Rattle.access_rules.specs.inner.Adding.{rows_by}
use Rattle.access_rules.proofs.RuleComes.{few_fields, judged_not, layout_is, passed_on, rows_fail, rule_spelled, rules_of, three_reads}
use Rattle.access_rules.proofs.RuleGone.{row_is}
use Rattle.access_rules.proofs.adding.rows_to_add.Goals as goal

pub returns-in_err-row-clause-adds : goal.returns-in_err-row-clause-adds
returns-in_err-row-clause-adds g c told q t s fit =
    let state = g.K.Keeper.state in
    let org = c.args.org in
    let b = c.args.new.now in
    let e = c.in_err-row.field-0.0 in
    let calls = c.call_laws.ensures in
    let reads = two_reads state calls.told_first calls.told_then calls.tables c.args.draft.now c.layout_there.new.draft c.org_there.new.draft c.layout_there.ensures.calls c.org_there.ensures.calls told in
    let read = subst (λ (m : Tables). FindsThere org (own_row org) m c.org_there.result) reads.same (c.org_there.ensures.finds reads.then).0 in
    passed_on org t b (of_store e) c.from_residual-in_err-row.result c.from_residual-in_err-row.ensures.1
    (not_missed org q (tables_of state c.args.draft.now) t (add_sharing_rule t b) c.org_there.result e c.in_err-row.was s (own_row org) (org_of org t) refl read)

pub returns-in_err-judge_rule-clause-adds : goal.returns-in_err-judge_rule-clause-adds
returns-in_err-judge_rule-clause-adds g c told q t s fit =
    let state = g.K.Keeper.state in
    let org = c.args.org in
    let b = c.args.new.now in
    let l = c.in_ok-layout.layout in
    let row = c.in_ok-row.row in
    let e = c.in_err-judge_rule.field-0.0 in
    let calls = c.call_laws.ensures in
    let reads = three_reads state calls.told_first calls.told_then calls.tables c.args.draft.now c.layout_there.new.draft c.org_there.new.draft c.judge_rule.new.draft c.layout_there.ensures.calls c.org_there.ensures.calls c.judge_rule.ensures.calls told in
    let m = tables_of state c.args.draft.now in
    let is = layout_is org q t b.object c.layout_there.result l (c.layout_there.ensures.names reads.before.first q t s) c.in_ok-layout.was in
    let read = subst (λ (m : Tables). FindsThere org (own_row org) m c.org_there.result) reads.before.same (c.org_there.ensures.finds reads.before.then).0 in
    let counts = row_is org q t m c.org_there.result row read c.in_ok-row.was s in
    let stands = subst (λ (m : Tables). StandsIn org q m (Some t)) (sym (reads.behind.same ∙ reads.before.same)) s in
    let few = few_fields org q t b.object is.0 l s.sound is.1 is.2 in
    passed_on org t b e c.from_residual-in_err-judge_rule.result c.from_residual-in_err-judge_rule.ensures.1
    (judged_not t b is.0 _ e is.1 (rules_of org q t is.0 b l row is.2 counts) (c.in_err-judge_rule.ensures.passes reads.behind.then q t stands few))

pub returns-in_err-rows-clause-adds : goal.returns-in_err-rows-clause-adds
returns-in_err-rows-clause-adds g c told q t s fit =
    let state = g.K.Keeper.state in
    let org = c.args.org in
    let b = c.args.new.now in
    let l = c.in_ok-layout.layout in
    let row = c.in_ok-row.row in
    let e = c.in_err-rows.field-0.0 in
    let calls = c.call_laws.ensures in
    let reads = three_reads state calls.told_first calls.told_then calls.tables c.args.draft.now c.layout_there.new.draft c.org_there.new.draft c.judge_rule.new.draft c.layout_there.ensures.calls c.org_there.ensures.calls c.judge_rule.ensures.calls told in
    let is = layout_is org q t b.object c.layout_there.result l (c.layout_there.ensures.names reads.before.first q t s) c.in_ok-layout.was in
    let stands = subst (λ (m : Tables). StandsIn org q m (Some t)) (sym (reads.behind.same ∙ reads.before.same)) s in
    let few = few_fields org q t b.object is.0 l s.sound is.1 is.2 in
    let free = (c.in_ok-judge_rule.ensures.passes reads.behind.then q t stands few).0 in
    passed_on org t b (of_store e) c.from_residual-in_err-rows.result c.from_residual-in_err-rows.ensures.1
    (rows_fail (add_sharing_rule t b) c.rows_of.result e (c.rows_of.ensures.damaged (rule_spelled l row t b fit free)) c.in_err-rows.was)

pub returns-clause-adds : goal.returns-clause-adds
returns-clause-adds g c told q t s fit =
    let state = g.K.Keeper.state in
    let org = c.args.org in
    let b = c.args.new.now in
    let l = c.in_ok-layout.layout in
    let row = c.in_ok-row.row in
    let calls = c.call_laws.ensures in
    let reads = three_reads state calls.told_first calls.told_then calls.tables c.args.draft.now c.layout_there.new.draft c.org_there.new.draft c.judge_rule.new.draft c.layout_there.ensures.calls c.org_there.ensures.calls c.judge_rule.ensures.calls told in
    let m = tables_of state c.args.draft.now in
    let is = layout_is org q t b.object c.layout_there.result l (c.layout_there.ensures.names reads.before.first q t s) c.in_ok-layout.was in
    let read = subst (λ (m : Tables). FindsThere org (own_row org) m c.org_there.result) reads.before.same (c.org_there.ensures.finds reads.before.then).0 in
    let counts = row_is org q t m c.org_there.result row read c.in_ok-row.was s in
    let stands = subst (λ (m : Tables). StandsIn org q m (Some t)) (sym (reads.behind.same ∙ reads.before.same)) s in
    let few = few_fields org q t b.object is.0 l s.sound is.1 is.2 in
    let free = (c.in_ok-judge_rule.ensures.passes reads.behind.then q t stands few).0 in
    (is.0, is.1, sym (rules_of org q t is.0 b l row is.2 counts) ∙ free, c.in_ok-rows.ensures.same ∙ ap (λ (x : OrgRow). rows_by x l.object b) counts ∙ ap (λ (l : Layout). rows_by (org_of org t) l.object b) is.2)
