use Rattle.std.proofs.Common.{◌∙◌, ap, refl, subst}
use Rattle.store_edit.specs.Edits.{FailsBy}
use Rattle.cmd_sandbox.specs.Own.{refusal_of}
use Rattle.cmd_sandbox.proofs.Sure.{made_sure, never_fell, only_memory}
use Rattle.cmd_sandbox.proofs.organisation.step.Goals as goal

pub returns-in-Ok : goal.returns-in-Ok
returns-in-Ok g c now a made fits keeps =
    let edited = (c.in-Ok.ensures.what (tt, refl)).edited made.plan a made.stands fits in
    (ap refusal_of edited.0, record { plan = edited.1.0; stands = edited.1.2; sure = made_sure _ _ c.args.draft.now c.make_edit.new.draft _ _ c.in-Ok.ensures.makes.makes made.sure; users = keeps ∙ made.users; user = made.user; moment = made.moment })

pub returns-in-Err-Refused : goal.returns-in-Err-Refused
returns-in-Err-Refused g c now a made fits keeps =
    ap refusal_of (subst (FailsBy (g.E.Edit.verdict c.args.edit.now a)) c.in-Err-Refused.field-0-is ((c.in-Err-Refused.ensures.what (tt, refl)).edited made.plan a made.stands fits))

pub returns-in-Err-Store : goal.returns-in-Err-Store
returns-in-Err-Store g c now a made fits keeps =
    let is = c.in-Err-Store.field-0-is in
    only_memory c.in-Err-Store.fail (never_fell g.row.E-Answer.Denot c.in-Err-Store.field-0 c.in-Err-Store.fail is (c.in-Err-Store.ensures.makes.makes.cause.never made.sure))
    (subst (FailsBy (g.E.Edit.verdict c.args.edit.now a)) is ((c.in-Err-Store.ensures.what (tt, refl)).edited made.plan a made.stands fits))
