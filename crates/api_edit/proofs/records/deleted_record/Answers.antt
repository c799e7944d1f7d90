use Rattle.std.proofs.Common.{◌≡◌, ◌∙◌, arith, of_z, pos, refl, rules, to_z, w64}
use Rattle.std.proofs.lemmas.Int.{to_z-of_z}
use Rattle.std.specs.Prelude.{FitsSigned}
use Rattle.store_kv.specs.Draft.{tables_of}
use Rattle.model_requests.specs.Requests.{deletes}
use Rattle.model.specs.Verdict.{done}
use Rattle.model_requests.specs.declared.route.Route.TheVariants.{Delete}
use Rattle.api_edit.specs.Administration.{AsksWith}
use Rattle.api_edit.specs.declared.answer.Answer.TheVariants as answer
use Rattle.api_edit.proofs.Asked.{answers_so, asks_no_more, drafts_seen, edits_asked}
use Rattle.api_edit.proofs.Giving.{deleting}
use Rattle.api_edit.proofs.records.deleted_record.Goals as goal

pub returns-clause-what : goal.returns-clause-what
returns-clause-what g c told body =
    let caller = c.args.caller.now in
    let object = c.args.object.now in
    let key = c.args.key.now in
    let small : FitsSigned w64 c.moment.result = search rules in
    let at : to_z w64 (of_z w64 c.moment.result) ≡ pos c.args.now = to_z-of_z w64 c.moment.result small ∙ c.moment.ensures in
    edits_asked (λ _. answer.Done) (λ _. done) (λ _. refl) caller.org (AsksWith (g.R.Rights.whose c.args.rights.now) caller c.args.now) (Delete object key) (Delete object key) body (deletes object key) _ _ _ (tables_of g.K.Keeper.state c.args.draft.now) (tables_of g.K.Keeper.state c.make_edit.new.draft) c.make_edit.result c.done.result
    refl (asks_no_more object key body) c.done.ensures
    (λ a. refl)
    (λ a. c.refusal_laws.ensures.refused a (deletes object key))
    (λ a sound asking. deleting (g.R.Rights.whose c.args.rights.now) caller c.args.now _ a at c.requires asking)
    (c.make_edit.ensures.what told)

pub returns-clause-form : goal.returns-clause-form
returns-clause-form g c = answers_so (λ _. answer.Done) (Delete c.args.object.now c.args.key.now) (Delete c.args.object.now c.args.key.now) c.make_edit.result c.done.result refl c.done.ensures (λ _. tt)

pub returns-clause-makes : goal.returns-clause-makes
returns-clause-makes g c =
    let laws = c.call_laws.ensures in
    drafts_seen g.K.Keeper.state (record { weaker = laws.weaker; none = laws.none; makes = laws.makes; most = laws.most }) (λ _. answer.Done) _ _ _ c.args.draft.now c.make_edit.new.draft c.make_edit.result c.done.result c.done.ensures
    (omega arith) (omega arith) (omega arith) c.make_edit.ensures.makes
