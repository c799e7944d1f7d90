use Rattle.std.proofs.Common.{arith, refl}
use Rattle.base_lemmas.proofs.Results.{err_from_parts as returned}
use Rattle.store_kv.specs.Draft.{tables_of}
use Rattle.model_requests.specs.RequestOf.{request_of}
use Rattle.model_requests.specs.Requests.{sets_organisation}
use Rattle.model.specs.Verdict.{done}
use Rattle.model_requests.specs.declared.route.Route.TheVariants.{SetOrganisation}
use Rattle.api_edit.specs.declared.answer.Answer.TheVariants as answer
use Rattle.api_edit.specs.inner.Edits.{Anyone}
use Rattle.api_edit.proofs.Asked.{answers_none, answers_so, drafts_seen, edits_asked, edits_none, none_drafts}
use Rattle.api_edit.proofs.people.changed_organisation.Goals as goal

-- ---- a body of another form

pub returns-in_err-name-clause-what : goal.returns-in_err-name-clause-what
returns-in_err-name-clause-what g c told =
    let fail = c.in_err-name.field-0.0 in
    edits_none sets_organisation c.args.org Anyone SetOrganisation SetOrganisation c.args.body.now fail (tables_of g.K.Keeper.state c.args.draft.now) c.from_residual.result refl
    (returned c.from_residual.result fail c.from_residual.ensures) c.in_err-name.ensures

pub returns-in_err-name-clause-form : goal.returns-in_err-name-clause-form
returns-in_err-name-clause-form g c =
    answers_none SetOrganisation c.in_err-name.field-0.0 c.from_residual.result (returned c.from_residual.result c.in_err-name.field-0.0 c.from_residual.ensures)

pub returns-in_err-name-clause-makes : goal.returns-in_err-name-clause-makes
returns-in_err-name-clause-makes g c =
    let laws = c.call_laws.ensures in
    let fail = c.in_err-name.field-0.0 in
    none_drafts g.K.Keeper.state (record { weaker = laws.weaker; none = laws.none; makes = laws.makes; most = laws.most }) sets_organisation (request_of SetOrganisation c.args.body.now) fail c.from_residual.result c.args.draft.now
    (returned c.from_residual.result fail c.from_residual.ensures) c.in_err-name.ensures

-- ---- the edit

pub returns-clause-what : goal.returns-clause-what
returns-clause-what g c told =
    let new = c.in_ok-name.name in
    edits_asked (λ _. answer.Done) (λ _. done) (λ _. refl) c.args.org Anyone SetOrganisation SetOrganisation c.args.body.now (sets_organisation new) _ _ _ (tables_of g.K.Keeper.state c.args.draft.now) (tables_of g.K.Keeper.state c.make_edit.new.draft) c.make_edit.result c.done.result
    refl c.in_ok-name.ensures c.done.ensures (λ a. refl) (λ a. c.refusal_laws.ensures.refused a (sets_organisation new)) (λ a sound asking. tt) (c.make_edit.ensures.what told)

pub returns-clause-form : goal.returns-clause-form
returns-clause-form g c = answers_so (λ _. answer.Done) SetOrganisation SetOrganisation c.make_edit.result c.done.result refl c.done.ensures (λ _. tt)

pub returns-clause-makes : goal.returns-clause-makes
returns-clause-makes g c =
    let laws = c.call_laws.ensures in
    drafts_seen g.K.Keeper.state (record { weaker = laws.weaker; none = laws.none; makes = laws.makes; most = laws.most }) (λ _. answer.Done) _ _ _ c.args.draft.now c.make_edit.new.draft c.make_edit.result c.done.result c.done.ensures
    (omega arith) (omega arith) (omega arith) c.make_edit.ensures.makes
