use Rattle.std.proofs.Common.{List, arith, ap, refl}
use Rattle.base_lemmas.proofs.Results.{err_from_parts as returned}
use Rattle.store_kv.specs.Draft.{tables_of}
use Rattle.model_requests.specs.RequestOf.{request_of}
use Rattle.model_requests.specs.Requests.{sets_group}
use Rattle.model.specs.declared.people_bodies.Spelled.{Spelled}
use Rattle.model.specs.Verdict.{done}
use Rattle.model_requests.specs.declared.route.Route.TheVariants.{SetGroup}
use Rattle.api_edit.specs.declared.answer.Answer.TheVariants as answer
use Rattle.api_edit.specs.inner.Edits.{Anyone}
use Rattle.api_edit.proofs.Asked.{answers_none, answers_so, drafts_seen, edits_asked, edits_none, none_drafts}
use Rattle.api_edit.proofs.people.changed_group.Goals as goal

-- ---- a body of another form

pub returns-in_err-change-clause-what : goal.returns-in_err-change-clause-what
returns-in_err-change-clause-what g c told =
    let fail = c.in_err-change.field-0.0 in
    edits_none (sets_group c.args.group.now) c.args.org Anyone (SetGroup c.args.group.now) (SetGroup c.args.group.now) c.args.body.now fail (tables_of g.K.Keeper.state c.args.draft.now) c.from_residual.result refl
    (returned c.from_residual.result fail c.from_residual.ensures) (c.in_err-change.ensures c.args.group.now)

pub returns-in_err-change-clause-form : goal.returns-in_err-change-clause-form
returns-in_err-change-clause-form g c =
    answers_none (SetGroup c.args.group.now) c.in_err-change.field-0.0 c.from_residual.result (returned c.from_residual.result c.in_err-change.field-0.0 c.from_residual.ensures)

pub returns-in_err-change-clause-makes : goal.returns-in_err-change-clause-makes
returns-in_err-change-clause-makes g c =
    let laws = c.call_laws.ensures in
    let fail = c.in_err-change.field-0.0 in
    none_drafts g.K.Keeper.state (record { weaker = laws.weaker; none = laws.none; makes = laws.makes; most = laws.most }) (sets_group c.args.group.now) (request_of (SetGroup c.args.group.now) c.args.body.now) fail c.from_residual.result c.args.draft.now
    (returned c.from_residual.result fail c.from_residual.ensures) (c.in_err-change.ensures c.args.group.now)

-- ---- the edit

pub returns-clause-what : goal.returns-clause-what
returns-clause-what g c told =
    let new = c.in_ok-change.change in
    edits_asked (λ _. answer.Done) (λ _. done) (λ _. refl) c.args.org Anyone (SetGroup c.args.group.now) (SetGroup c.args.group.now) c.args.body.now (sets_group c.args.group.now new) _ _ _ (tables_of g.K.Keeper.state c.args.draft.now) (tables_of g.K.Keeper.state c.make_edit.new.draft) c.make_edit.result c.done.result
    refl (c.in_ok-change.ensures c.args.group.now) c.done.ensures (λ a. refl) (λ a. c.refusal_laws.ensures.refused a (sets_group c.args.group.now new)) (λ a sound asking. tt) (c.make_edit.ensures.what told)

pub returns-clause-form : goal.returns-clause-form
returns-clause-form g c = answers_so (λ _. answer.Done) (SetGroup c.args.group.now) (SetGroup c.args.group.now) c.make_edit.result c.done.result refl c.done.ensures (λ _. tt)

pub returns-clause-makes : goal.returns-clause-makes
returns-clause-makes g c =
    let laws = c.call_laws.ensures in
    drafts_seen g.K.Keeper.state (record { weaker = laws.weaker; none = laws.none; makes = laws.makes; most = laws.most }) (λ _. answer.Done) _ _ _ c.args.draft.now c.make_edit.new.draft c.make_edit.result c.done.result c.done.ensures
    (omega arith) (omega arith) (omega arith) c.make_edit.ensures.makes
