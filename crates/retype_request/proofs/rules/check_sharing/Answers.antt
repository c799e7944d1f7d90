use Rattle.std.proofs.Common.{◌∙◌, Some}
use Rattle.store_kv.specs.Draft.{tables_of}
use Rattle.model.specs.Rules.{first_of}
use Rattle.retype_request.specs.inner.Rules.{sharing_use}
use Rattle.retype_request.proofs.Reading.{first_of_list, unlisted}
use Rattle.store_edit.proofs.StepByStep.{passed_on}
use Rattle.retype_request.proofs.rules.check_sharing.Goals as goal
use Rattle.people_rows.specs.sharing.SharingRules.{sharing_rows}
use Rattle.store_abstraction.specs.Fails.{of_store}

pub returns-in_err-rules-clause-passes : goal.returns-in_err-rules-clause-passes
returns-in_err-rules-clause-passes g c told q t s =
    let l = c.args.layout.now in
    let e = c.in_err-rules.field-0.0 in
    let m = tables_of g.K.Keeper.state c.args.draft.now in
    let rule = first_of (sharing_use l c.args.place c.args.field.now) (sharing_rows l.org (Some t)) in
    passed_on rule (λ x. Unit {0}) c.from_residual.result (of_store e) c.from_residual.ensures.1
    (unlisted rule m q t l.org (λ q t. sharing_rows l.org t) c.sharing_rules_of.result e (c.sharing_rules_of.ensures.finds told) c.in_err-rules.was s)

pub returns-in-None-clause-passes : goal.returns-in-None-clause-passes
returns-in-None-clause-passes g c told q t s =
    let l = c.args.layout.now in
    let m = tables_of g.K.Keeper.state c.args.draft.now in
    let uses = sharing_use l c.args.place c.args.field.now in
    (first_of_list m q t uses _ l.org (λ q t. sharing_rows l.org t) c.sharing_rules_of.result c.in_ok-rules.rules c.as_slice.result.now (c.sharing_rules_of.ensures.finds told) c.in_ok-rules.was s c.as_slice.ensures.value c.in_ok-first_sharing_use.ensures ∙ c.in-None.is, tt)

pub returns-clause-passes : goal.returns-clause-passes
returns-clause-passes g c told q t s =
    let l = c.args.layout.now in
    let m = tables_of g.K.Keeper.state c.args.draft.now in
    let uses = sharing_use l c.args.place c.args.field.now in
    first_of_list m q t uses _ l.org (λ q t. sharing_rows l.org t) c.sharing_rules_of.result c.in_ok-rules.rules c.as_slice.result.now (c.sharing_rules_of.ensures.finds told) c.in_ok-rules.was s c.as_slice.ensures.value c.in_ok-first_sharing_use.ensures ∙ c.in-Some.is
