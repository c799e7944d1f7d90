use Rattle.std.proofs.Common.{arith, refl}
use Rattle.store_kv.specs.Draft.{tables_of}
use Rattle.model_requests.specs.Requests.{removes_role}
use Rattle.model.specs.Verdict.{done}
use Rattle.model_requests.specs.declared.route.Route.TheVariants.{RemoveRole}
use Rattle.api_edit.specs.declared.answer.Answer.TheVariants as answer
use Rattle.api_edit.specs.inner.Edits.{Anyone}
use Rattle.api_edit.proofs.Asked.{answers_so, asks_no_role, drafts_seen, edits_asked}
use Rattle.api_edit.proofs.removals.removed_role.Goals as goal

pub returns-clause-what : goal.returns-clause-what
returns-clause-what g c told body =
    let id = c.args.role.now in
    edits_asked (λ _. answer.Done) (λ _. done) (λ _. refl) c.args.org Anyone (RemoveRole id) (RemoveRole id) body (removes_role id) _ _ _ (tables_of g.K.Keeper.state c.args.draft.now) (tables_of g.K.Keeper.state c.make_edit.new.draft) c.make_edit.result c.done.result
    refl (asks_no_role id body) c.done.ensures (λ a. refl) (λ a. c.refusal_laws.ensures.refused a (removes_role id)) (λ a sound asking. tt) (c.make_edit.ensures.what told)

pub returns-clause-form : goal.returns-clause-form
returns-clause-form g c = answers_so (λ _. answer.Done) (RemoveRole c.args.role.now) (RemoveRole c.args.role.now) c.make_edit.result c.done.result refl c.done.ensures (λ _. tt)

pub returns-clause-makes : goal.returns-clause-makes
returns-clause-makes g c =
    let laws = c.call_laws.ensures in
    drafts_seen g.K.Keeper.state (record { weaker = laws.weaker; none = laws.none; makes = laws.makes; most = laws.most }) (λ _. answer.Done) _ _ _ c.args.draft.now c.make_edit.new.draft c.make_edit.result c.done.result c.done.ensures
    (omega arith) (omega arith) (omega arith) c.make_edit.ensures.makes
