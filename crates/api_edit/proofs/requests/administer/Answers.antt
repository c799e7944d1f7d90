use Rattle.store_kv.specs.Draft.{tables_of}
use Rattle.model.specs.Bounds.{edit_shown, request_changes, request_gone}
use Rattle.model_requests.specs.RequestOf.{request_of, verdict_or}
use Rattle.api_edit.specs.Administration.{AsksWith}
use Rattle.api_edit.proofs.Replied as replied
use Rattle.api_edit.proofs.requests.administer.Goals as goal

pub returns-clause-what : goal.returns-clause-what
returns-clause-what g c told =
    let caller = c.args.caller.now in
    replied.responds caller.org (AsksWith (g.R.Rights.whose c.args.rights.now) caller c.args.now) (λ a. verdict_or a (request_of c.args.route.now c.args.body.now)) (tables_of g.K.Keeper.state c.args.draft.now) (tables_of g.K.Keeper.state c.edit-edited.new.draft) c.edit-edited.result c.reply_to.result
    c.reply_to.ensures.value (c.edit-edited.ensures.what told)

pub returns-clause-form : goal.returns-clause-form
returns-clause-form g c = c.reply_to.ensures.form c.args.route.now c.edit-edited.ensures.form

pub returns-clause-drafts : goal.returns-clause-drafts
returns-clause-drafts g c =
    replied.drafts g.K.Keeper.state request_changes request_gone edit_shown c.args.draft.now c.edit-edited.new.draft c.edit-edited.result c.reply_to.result c.reply_to.ensures.value c.edit-edited.ensures.makes
