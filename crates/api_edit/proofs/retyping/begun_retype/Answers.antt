use Rattle.std.proofs.Common.{arith, refl}
use Rattle.base_lemmas.proofs.Results.{err_from_parts as returned}
use Rattle.api_input.specs.Bodies.{begins_new_retype}
use Rattle.store_kv.specs.Draft.{tables_of}
use Rattle.model_requests.specs.RequestOf.{request_of}
use Rattle.model.specs.Verdict.{done}
use Rattle.model_requests.specs.declared.route.Route.TheVariants.{BeginRetype}
use Rattle.api_edit.specs.declared.answer.Answer.TheVariants as answer
use Rattle.api_edit.specs.inner.Edits.{Anyone}
use Rattle.api_edit.proofs.Asked.{answers_none, answers_so, drafts_seen, edits_asked, edits_none, fit, none_drafts}
use Rattle.api_edit.proofs.retyping.begun_retype.Goals as goal

-- ---- a body of another form

pub returns-in_err-new-clause-what : goal.returns-in_err-new-clause-what
returns-in_err-new-clause-what g c told =
    let fail = c.in_err-new.field-0.0 in
    edits_none begins_new_retype c.args.org Anyone BeginRetype BeginRetype c.args.body.now fail (tables_of g.K.Keeper.state c.args.draft.now) c.from_residual.result refl
    (returned c.from_residual.result fail c.from_residual.ensures) c.in_err-new.ensures

pub returns-in_err-new-clause-form : goal.returns-in_err-new-clause-form
returns-in_err-new-clause-form g c = answers_none BeginRetype c.in_err-new.field-0.0 c.from_residual.result (returned c.from_residual.result c.in_err-new.field-0.0 c.from_residual.ensures)

pub returns-in_err-new-clause-makes : goal.returns-in_err-new-clause-makes
returns-in_err-new-clause-makes g c =
    let laws = c.call_laws.ensures in
    let fail = c.in_err-new.field-0.0 in
    none_drafts g.K.Keeper.state (record { weaker = laws.weaker; none = laws.none; makes = laws.makes; most = laws.most }) begins_new_retype (request_of BeginRetype c.args.body.now) fail c.from_residual.result c.args.draft.now
    (returned c.from_residual.result fail c.from_residual.ensures) c.in_err-new.ensures

-- ---- the edit

pub returns-clause-what : goal.returns-clause-what
returns-clause-what g c told =
    let new = c.in_ok-new.new in
    let asked = c.in_ok-new.ensures in
    edits_asked (λ _. answer.Done) (λ _. done) (λ _. refl) c.args.org Anyone BeginRetype BeginRetype c.args.body.now (begins_new_retype new) _ _ _ (tables_of g.K.Keeper.state c.args.draft.now) (tables_of g.K.Keeper.state c.make_edit.new.draft) c.make_edit.result c.done.result
    refl asked c.done.ensures (λ a. refl) (λ a. c.refusal_laws.ensures.refused a (begins_new_retype new)) (λ a sound asking. fit c.requests_fit.ensures.request a BeginRetype c.args.body.now (begins_new_retype new) sound asked) (c.make_edit.ensures.what told)

pub returns-clause-form : goal.returns-clause-form
returns-clause-form g c = answers_so (λ _. answer.Done) BeginRetype BeginRetype c.make_edit.result c.done.result refl c.done.ensures (λ _. tt)

pub returns-clause-makes : goal.returns-clause-makes
returns-clause-makes g c =
    let laws = c.call_laws.ensures in
    drafts_seen g.K.Keeper.state (record { weaker = laws.weaker; none = laws.none; makes = laws.makes; most = laws.most }) (λ _. answer.Done) _ _ _ c.args.draft.now c.make_edit.new.draft c.make_edit.result c.done.result c.done.ensures
    (omega arith) (omega arith) (omega arith) c.make_edit.ensures.makes
