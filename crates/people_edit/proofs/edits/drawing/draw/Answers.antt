use Rattle.std.proofs.Common.{◌≡◌, ◌∙◌, None, Some, ap, ap₂, sym, subst}
use Rattle.std.specs.Option.{option_copied}
use Rattle.store_kv.specs.Draft.{tables_of}
use Rattle.store_kv.specs.Tables.{Tables}
use Rattle.store_rows.specs.declared.org.OrgRow.{OrgRow}
use Rattle.model.specs.Rules.{first_refusal}
use Rattle.store_abstraction.specs.Fails.{of_store}
use Rattle.store_abstraction.specs.Local.{StandsIn}
use Rattle.store_abstraction.specs.Metadata.{org_of}
use Rattle.base_value.specs.Id.{made}
use Rattle.people_edit.specs.inner.Drawing.{IsDrawn, new_rules, one_more}
use Rattle.store_edit.specs.Judging.{FailsRule}
use Rattle.people_edit.proofs.Drawing.{row_is, row_missed}
use Rattle.store_edit.proofs.StepByStep.{passed_on}
use Rattle.people_edit.proofs.edits.drawing.draw.Goals as goal

pub returns-in_err-row-clause-draws : goal.returns-in_err-row-clause-draws
returns-in_err-row-clause-draws g c told q t s =
    let role = option_copied c.args.role in
    let rule = first_refusal (new_rules c.args.kind (org_of c.args.org t) t c.args.name.now role) in
    let e = c.in_err-row.field-0.0 in
    passed_on rule (IsDrawn c.args.kind c.args.org t role) c.from_residual.result (of_store e) c.from_residual.ensures.1
    (row_missed c.args.org q t (tables_of g.K.Keeper.state c.args.draft.now) rule e (c.in_err-row.ensures.finds told).0 s)

pub returns-in_err-named-clause-draws : goal.returns-in_err-named-clause-draws
returns-in_err-named-clause-draws g c told q t s =
    let state = g.K.Keeper.state in
    let role = option_copied c.args.role in
    let row = c.in_ok-row.row in
    let next = c.in_err-named.ensures in
    let tells = c.draft_laws.ensures.both 0 0 c.args.draft.now c.org_there.new.draft c.judge_new.new.draft c.in_ok-row.ensures.calls.reads next.calls.reads told in
    let is = row_is c.args.org q t (tables_of state c.args.draft.now) row (c.in_ok-row.ensures.finds tells.0).0 s in
    let stands = subst (λ (m : Tables). StandsIn c.args.org q m (Some t)) (sym tells.2) s in
    let e = c.in_err-named.field-0.0 in
    passed_on (first_refusal (new_rules c.args.kind (org_of c.args.org t) t c.args.name.now role)) (IsDrawn c.args.kind c.args.org t role) c.from_residual-in_err-named.result e c.from_residual-in_err-named.ensures.1
    (subst (λ (r : OrgRow). FailsRule (first_refusal (new_rules c.args.kind r t c.args.name.now role)) e) is (next.passes tells.1 q t stands))

pub returns-clause-draws : goal.returns-clause-draws
returns-clause-draws g c told q t s =
    let state = g.K.Keeper.state in
    let role = option_copied c.args.role in
    let row = c.in_ok-row.row in
    let next = c.in_ok-named.ensures in
    let tells = c.draft_laws.ensures.both 0 0 c.args.draft.now c.org_there.new.draft c.judge_new.new.draft c.in_ok-row.ensures.calls.reads next.calls.reads told in
    let is = row_is c.args.org q t (tables_of state c.args.draft.now) row (c.in_ok-row.ensures.finds tells.0).0 s in
    let stands = subst (λ (m : Tables). StandsIn c.args.org q m (Some t)) (sym tells.2) s in
    let passes = next.passes tells.1 q t stands in (
      subst (λ (r : OrgRow). first_refusal (new_rules c.args.kind r t c.args.name.now role) ≡ None) is passes.0,
      record {
        row = c.one_more.ensures.same ∙ ap (one_more c.args.kind) is;
        id = c.new-id.ensures ∙ ap₂ made c.prefix.ensures.same (ap (λ (r : OrgRow). r.counter) is);
        role = passes.1;
      },
    )
