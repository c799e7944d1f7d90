use Rattle.std.proofs.Common.{arith, refl}
use Rattle.base_lemmas.proofs.Results.{err_from_parts as returned}
use Rattle.store_kv.specs.Draft.{tables_of}
use Rattle.model_requests.specs.RequestOf.{request_of}
use Rattle.model_requests.specs.Requests.{adds_group}
use Rattle.model.specs.Verdict.{made_new}
use Rattle.model_requests.specs.declared.route.Route.TheVariants.{AddGroup}
use Rattle.api_edit.specs.declared.answer.Answer.TheVariants as answer
use Rattle.api_edit.specs.inner.Edits.{Anyone}
use Rattle.api_edit.proofs.Asked.{answers_none, answers_so, drafts_seen, edits_asked, edits_none, none_drafts}
use Rattle.api_edit.proofs.people.new_group.Goals as goal

-- ---- a body of another form

pub returns-in_err-name-clause-what : goal.returns-in_err-name-clause-what
returns-in_err-name-clause-what g c told =
    let fail = c.in_err-name.field-0.0 in
    edits_none adds_group c.args.org Anyone AddGroup AddGroup c.args.body.now fail (tables_of g.K.Keeper.state c.args.draft.now) c.from_residual.result refl
    (returned c.from_residual.result fail c.from_residual.ensures) c.in_err-name.ensures

pub returns-in_err-name-clause-form : goal.returns-in_err-name-clause-form
returns-in_err-name-clause-form g c =
    answers_none AddGroup c.in_err-name.field-0.0 c.from_residual.result (returned c.from_residual.result c.in_err-name.field-0.0 c.from_residual.ensures)

pub returns-in_err-name-clause-makes : goal.returns-in_err-name-clause-makes
returns-in_err-name-clause-makes g c =
    let laws = c.call_laws.ensures in
    let fail = c.in_err-name.field-0.0 in
    none_drafts g.K.Keeper.state (record { weaker = laws.weaker; none = laws.none; makes = laws.makes; most = laws.most }) adds_group (request_of AddGroup c.args.body.now) fail c.from_residual.result c.args.draft.now
    (returned c.from_residual.result fail c.from_residual.ensures) c.in_err-name.ensures

-- ---- the edit

pub returns-clause-what : goal.returns-clause-what
returns-clause-what g c told =
    let new = c.in_ok-name.name in
    edits_asked (λ id. answer.Made id) (λ id. made_new id) (λ _. refl) c.args.org Anyone AddGroup AddGroup c.args.body.now (adds_group new) _ _ _ (tables_of g.K.Keeper.state c.args.draft.now) (tables_of g.K.Keeper.state c.make_edit.new.draft) c.make_edit.result c.made.result
    refl c.in_ok-name.ensures c.made.ensures (λ a. refl) (λ a. c.refusal_laws.ensures.refused a (adds_group new)) (λ a sound asking. tt) (c.make_edit.ensures.what told)

pub returns-clause-form : goal.returns-clause-form
returns-clause-form g c = answers_so (λ id. answer.Made id) AddGroup AddGroup c.make_edit.result c.made.result refl c.made.ensures (λ _. tt)

pub returns-clause-makes : goal.returns-clause-makes
returns-clause-makes g c =
    let laws = c.call_laws.ensures in
    drafts_seen g.K.Keeper.state (record { weaker = laws.weaker; none = laws.none; makes = laws.makes; most = laws.most }) (λ id. answer.Made id) _ _ _ c.args.draft.now c.make_edit.new.draft c.make_edit.result c.made.result c.made.ensures
    (omega arith) (omega arith) (omega arith) c.make_edit.ensures.makes
