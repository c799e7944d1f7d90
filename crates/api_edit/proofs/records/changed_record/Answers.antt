use Rattle.std.proofs.Common.{◌≡◌, ◌∙◌, List, ap, arith, of_z, pos, refl, rules, subst, sym, to_z, w64}
use Rattle.std.proofs.lemmas.Int.{to_z-of_z}
use Rattle.std.specs.Prelude.{Err, FitsSigned, Ok}
use Rattle.base_lemmas.proofs.Results.{err_from_parts as returned}
use Rattle.record_input.specs.Given.{IsInJson}
use Rattle.store_kv.specs.Draft.{tables_of}
use Rattle.model_requests.specs.RequestOf.{request_of}
use Rattle.model.specs.Updates.{update}
use Rattle.model_requests.specs.Requests.{updates}
use Rattle.model.specs.Verdict.{done}
use Rattle.model.specs.declared.record_bodies.Assignment.{Assignment}
use Rattle.model_requests.specs.declared.route.Route.TheVariants.{Update}
use Rattle.model_invariant.specs.Fit.{ReadsWell}
use Rattle.api_edit.specs.Administration.{AsksWith}
use Rattle.api_edit.specs.declared.answer.Answer.TheVariants as answer
use Rattle.api_edit.proofs.Asked.{answers_none, answers_so, asks_other, drafts_seen, edits_asked, edits_none, fit, none_drafts}
use Rattle.api_edit.proofs.Giving.{giving}
use Rattle.api_edit.proofs.records.changed_record.Goals as goal

-- ---- a body of another form

pub returns-in_err-values-clause-what : goal.returns-in_err-values-clause-what
returns-in_err-values-clause-what g c told =
    let caller = c.args.caller.now in
    let object = c.args.object.now in
    let key = c.args.key.now in
    let fail = c.in_err-values.field-0.0 in
    edits_none (updates object key) caller.org (AsksWith (g.R.Rights.whose c.args.rights.now) caller c.args.now) (Update object key) (Update object key) c.args.body.now fail (tables_of g.K.Keeper.state c.args.draft.now) c.from_residual.result refl
    (returned c.from_residual.result fail c.from_residual.ensures) (asks_other object key c.args.body.now (Err fail) (c.in_err-values.ensures.values (updates object key)))

pub returns-in_err-values-clause-form : goal.returns-in_err-values-clause-form
returns-in_err-values-clause-form g c = answers_none (Update c.args.object.now c.args.key.now) c.in_err-values.field-0.0 c.from_residual.result (returned c.from_residual.result c.in_err-values.field-0.0 c.from_residual.ensures)

pub returns-in_err-values-clause-makes : goal.returns-in_err-values-clause-makes
returns-in_err-values-clause-makes g c =
    let laws = c.call_laws.ensures in
    let object = c.args.object.now in
    let key = c.args.key.now in
    let fail = c.in_err-values.field-0.0 in
    none_drafts g.K.Keeper.state (record { weaker = laws.weaker; none = laws.none; makes = laws.makes; most = laws.most }) (updates object key) (request_of (Update object key) c.args.body.now) fail c.from_residual.result c.args.draft.now
    (returned c.from_residual.result fail c.from_residual.ensures) (asks_other object key c.args.body.now (Err fail) (c.in_err-values.ensures.values (updates object key)))

-- ---- the edit

pub invariant_of-update : goal.invariant_of-update
invariant_of-update g c = record { in_json = subst IsInJson (sym c.as_slice.ensures) c.in_ok-values.ensures.json }

pub returns-clause-what : goal.returns-clause-what
returns-clause-what g c told =
    let caller = c.args.caller.now in
    let object = c.args.object.now in
    let key = c.args.key.now in
    let body = c.args.body.now in
    let given = c.in_ok-values.values in
    let asked = asks_other object key body (Ok given) (c.in_ok-values.ensures.values (updates object key)) in
    let small : FitsSigned w64 c.moment.result = search rules in
    let at : to_z w64 (of_z w64 c.moment.result) ≡ pos c.args.now = to_z-of_z w64 c.moment.result small ∙ c.moment.ensures in
    edits_asked (λ _. answer.Done) (λ _. done) (λ _. refl) caller.org (AsksWith (g.R.Rights.whose c.args.rights.now) caller c.args.now) (Update object key) (Update object key) body (updates object key given) _ _ _ (tables_of g.K.Keeper.state c.args.draft.now) (tables_of g.K.Keeper.state c.make_edit.new.draft) c.make_edit.result c.done.result
    refl asked c.done.ensures
    (λ a. ap (λ (values : List Assignment). update a object key values) c.as_slice.ensures)
    (λ a. c.refusal_laws.ensures.refused a (updates object key given))
    (λ a sound asking. giving (g.R.Rights.whose c.args.rights.now) caller c.args.now _ (λ g b o. ReadsWell b o g) given c.as_slice.result.now a at c.requires c.as_slice.ensures (fit c.requests_fit.ensures.request a (Update object key) body (updates object key given) sound asked) asking)
    (c.make_edit.ensures.what told)

pub returns-clause-form : goal.returns-clause-form
returns-clause-form g c = answers_so (λ _. answer.Done) (Update c.args.object.now c.args.key.now) (Update c.args.object.now c.args.key.now) c.make_edit.result c.done.result refl c.done.ensures (λ _. tt)

pub returns-clause-makes : goal.returns-clause-makes
returns-clause-makes g c =
    let laws = c.call_laws.ensures in
    drafts_seen g.K.Keeper.state (record { weaker = laws.weaker; none = laws.none; makes = laws.makes; most = laws.most }) (λ _. answer.Done) _ _ _ c.args.draft.now c.make_edit.new.draft c.make_edit.result c.done.result c.done.ensures
    (omega arith) (omega arith) (omega arith) c.make_edit.ensures.makes
