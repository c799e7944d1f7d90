use Rattle.std.proofs.Common.{◌≡◌, ◌∙◌, List, ap, arith, of_z, pos, refl, rules, to_z, w64}
use Rattle.std.proofs.lemmas.Int.{to_z-of_z}
use Rattle.std.specs.Prelude.{Err, FitsSigned, Ok}
use Rattle.base_lemmas.proofs.Results.{err_from_parts as returned}
use Rattle.store_kv.specs.Draft.{tables_of}
use Rattle.model.specs.Creates.{create}
use Rattle.model_requests.specs.RequestOf.{request_of}
use Rattle.model_requests.specs.Requests.{creates}
use Rattle.model.specs.Verdict.{made_new}
use Rattle.model.specs.declared.record_bodies.Assignment.{Assignment}
use Rattle.model_requests.specs.declared.route.Route.TheVariants.{Create}
use Rattle.record_save.specs.Creating.{ReadsFound}
use Rattle.api_edit.specs.Administration.{AsksWith}
use Rattle.api_edit.specs.declared.answer.Answer.TheVariants as answer
use Rattle.api_edit.proofs.Asked.{answers_none, answers_so, asks_new, drafts_seen, edits_asked, edits_none, fit, none_drafts}
use Rattle.api_edit.proofs.Giving.{giving, reads_found}
use Rattle.api_edit.proofs.records.new_record.Goals as goal

-- ---- a body of another form

pub returns-in_err-values-clause-what : goal.returns-in_err-values-clause-what
returns-in_err-values-clause-what g c told =
    let caller = c.args.caller.now in
    let object = c.args.object.now in
    let fail = c.in_err-values.field-0.0 in
    edits_none (creates object) caller.org (AsksWith (g.R.Rights.whose c.args.rights.now) caller c.args.now) (Create object) (Create object) c.args.body.now fail (tables_of g.K.Keeper.state c.args.draft.now) c.from_residual.result refl
    (returned c.from_residual.result fail c.from_residual.ensures) (asks_new object c.args.body.now (Err fail) (c.in_err-values.ensures.values (creates object)))

pub returns-in_err-values-clause-form : goal.returns-in_err-values-clause-form
returns-in_err-values-clause-form g c = answers_none (Create c.args.object.now) c.in_err-values.field-0.0 c.from_residual.result (returned c.from_residual.result c.in_err-values.field-0.0 c.from_residual.ensures)

pub returns-in_err-values-clause-makes : goal.returns-in_err-values-clause-makes
returns-in_err-values-clause-makes g c =
    let laws = c.call_laws.ensures in
    let object = c.args.object.now in
    let fail = c.in_err-values.field-0.0 in
    none_drafts g.K.Keeper.state (record { weaker = laws.weaker; none = laws.none; makes = laws.makes; most = laws.most }) (creates object) (request_of (Create object) c.args.body.now) fail c.from_residual.result c.args.draft.now
    (returned c.from_residual.result fail c.from_residual.ensures) (asks_new object c.args.body.now (Err fail) (c.in_err-values.ensures.values (creates object)))

-- ---- the edit

pub returns-clause-what : goal.returns-clause-what
returns-clause-what g c told =
    let caller = c.args.caller.now in
    let object = c.args.object.now in
    let body = c.args.body.now in
    let given = c.in_ok-values.values in
    let asked = asks_new object body (Ok given) (c.in_ok-values.ensures.values (creates object)) in
    let small : FitsSigned w64 c.moment.result = search rules in
    let at : to_z w64 (of_z w64 c.moment.result) ≡ pos c.args.now = to_z-of_z w64 c.moment.result small ∙ c.moment.ensures in
    edits_asked (λ id. answer.Made id) (λ id. made_new id) (λ _. refl) caller.org (AsksWith (g.R.Rights.whose c.args.rights.now) caller c.args.now) (Create object) (Create object) body (creates object given) _ _ _ (tables_of g.K.Keeper.state c.args.draft.now) (tables_of g.K.Keeper.state c.make_edit.new.draft) c.make_edit.result c.made.result
    refl asked c.made.ensures
    (λ a. ap (λ (values : List Assignment). create a object values) c.as_slice.ensures)
    (λ a. c.refusal_laws.ensures.refused a (creates object given))
    (λ a sound asking. giving (g.R.Rights.whose c.args.rights.now) caller c.args.now _ (ReadsFound object _) given c.as_slice.result.now a at c.requires c.as_slice.ensures (reads_found c.given_laws.ensures.finds object given a (c.given_laws.ensures.json given c.in_ok-values.ensures.json) (fit c.requests_fit.ensures.request a (Create object) body (creates object given) sound asked)) asking)
    (c.make_edit.ensures.what told)

pub returns-clause-form : goal.returns-clause-form
returns-clause-form g c = answers_so (λ id. answer.Made id) (Create c.args.object.now) (Create c.args.object.now) c.make_edit.result c.made.result refl c.made.ensures (λ _. tt)

pub returns-clause-makes : goal.returns-clause-makes
returns-clause-makes g c =
    let laws = c.call_laws.ensures in
    drafts_seen g.K.Keeper.state (record { weaker = laws.weaker; none = laws.none; makes = laws.makes; most = laws.most }) (λ id. answer.Made id) _ _ _ c.args.draft.now c.make_edit.new.draft c.make_edit.result c.made.result c.made.ensures
    (omega arith) (omega arith) (omega arith) c.make_edit.ensures.makes
