use Rattle.std.proofs.Common.{◌∙◌, List, Result, ap, arith, refl, subst, sym, ℕ}
use Rattle.std.specs.Option.{option_copied}
use Rattle.base_lemmas.proofs.Results.{err_from_parts as returned}
use Rattle.store_edit.specs.Edits.{DraftsEdit}
use Rattle.store_kv.specs.Draft.{tables_of}
use Rattle.store_rows.specs.declared.fail.StoreFail.TheVariants.{Memory}
use Rattle.model.specs.Members.{principal_in}
use Rattle.model.specs.Paths.{Asked}
use Rattle.model_requests.specs.Requests.{unshares}
use Rattle.model.specs.Shares.{unshare}
use Rattle.model.specs.Verdict.{done}
use Rattle.model_requests.specs.RequestOf.{request_of, verdict_or}
use Rattle.model_requests.specs.declared.route.Route.TheVariants.{Unshare}
use Rattle.store_abstraction.specs.declared.fail.EditFail.{EditFail}
use Rattle.store_abstraction.specs.declared.fail.EditFail.TheVariants.{Store}
use Rattle.model.specs.Bounds.{edit_shown, request_changes, request_gone}
use Rattle.api_edit.specs.declared.answer.Answer.{Answer}
use Rattle.api_edit.specs.declared.answer.Answer.TheVariants as answer
use Rattle.api_edit.specs.inner.Edits.{EditsFrom, HasRights}
use Rattle.api_edit.proofs.Asked.{answers_none, answers_so, asks_no_share, drafts_seen, edits_asked, edits_memory, memory_drafts}
use Rattle.api_edit.proofs.sharing.unshared_record.Goals as goal

-- ---- out of memory

pub returns-in_err-to-clause-what : goal.returns-in_err-to-clause-what
returns-in_err-to-clause-what g c told body =
    let m = tables_of g.K.Keeper.state c.args.draft.now in
    let verdict = λ (a : Asked). verdict_or a (request_of (Unshare c.args.item.now c.args.part.now) body) in
    subst (λ q. EditsFrom c.args.org (HasRights (g.R.Rights.whose c.args.rights.now)) verdict m m q) (sym (returned c.from_residual.result (Store Memory) c.from_residual.ensures))
    (edits_memory c.args.org (HasRights (g.R.Rights.whose c.args.rights.now)) verdict m)

pub returns-in_err-to-clause-form : goal.returns-in_err-to-clause-form
returns-in_err-to-clause-form g c =
    answers_none (Unshare c.args.item.now c.args.part.now) (Store Memory) c.from_residual.result (returned c.from_residual.result (Store Memory) c.from_residual.ensures)

pub returns-in_err-to-clause-makes : goal.returns-in_err-to-clause-makes
returns-in_err-to-clause-makes g c =
    let laws = c.call_laws.ensures in
    subst (λ (q : Result Answer EditFail). DraftsEdit g.K.Keeper.state request_changes request_gone edit_shown q c.args.draft.now c.args.draft.now) (sym (returned c.from_residual.result (Store Memory) c.from_residual.ensures))
    (memory_drafts g.K.Keeper.state (record { weaker = laws.weaker; none = laws.none; makes = laws.makes; most = laws.most }) c.args.draft.now)

-- ---- the edit

pub returns-clause-what : goal.returns-clause-what
returns-clause-what g c told body =
    let item = c.args.item.now in
    let part = c.args.part.now in
    let edit = c.share_end-edit.result in
    edits_asked (λ _. answer.Done) (λ _. done) (λ _. refl) c.args.org (HasRights (g.R.Rights.whose c.args.rights.now)) (Unshare item part) (Unshare item part) body (unshares item part (principal_in part)) _ _ _ (tables_of g.K.Keeper.state c.args.draft.now) (tables_of g.K.Keeper.state c.make_edit.new.draft) c.make_edit.result c.done.result
    refl (asks_no_share item part body) c.done.ensures
    (λ a. ap (λ (x : List ℕ). unshare a x edit.part.now (option_copied edit.to)) c.share_end-edit.ensures.item ∙ ap (λ (x : List ℕ). unshare a item x (option_copied edit.to)) c.share_end-edit.ensures.part
    ∙ ap (unshare a item part) (c.share_end-edit.ensures.to ∙ c.in_ok-to.ensures))
    (λ a. c.refusal_laws.ensures.refused a (unshares item part (principal_in part)))
    (λ a sound asking. subst (λ x. g.R.Rights.whose x a.tenant a.user) (sym c.share_end-edit.ensures.rights) asking) (c.make_edit.ensures.what told)

pub returns-clause-form : goal.returns-clause-form
returns-clause-form g c = answers_so (λ _. answer.Done) (Unshare c.args.item.now c.args.part.now) (Unshare c.args.item.now c.args.part.now) c.make_edit.result c.done.result refl c.done.ensures (λ _. tt)

pub returns-clause-makes : goal.returns-clause-makes
returns-clause-makes g c =
    let laws = c.call_laws.ensures in
    drafts_seen g.K.Keeper.state (record { weaker = laws.weaker; none = laws.none; makes = laws.makes; most = laws.most }) (λ _. answer.Done) _ _ _ c.args.draft.now c.make_edit.new.draft c.make_edit.result c.done.result c.done.ensures
    (omega arith) (omega arith) (omega arith) c.make_edit.ensures.makes
