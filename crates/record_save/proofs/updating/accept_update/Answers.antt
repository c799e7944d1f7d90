use Rattle.std.proofs.Common.{◌∙◌, Some, ap, subst, sym, w64}
use Rattle.std.proofs.lemmas.Int.{to_z-of_z}
use Rattle.std.specs.Prelude.{List, Err}
use Rattle.record_input.specs.Given.{all_given, key_of}
use Rattle.store_kv.specs.Tables.{Tables}
use Rattle.store_rows.specs.declared.share.ShareRow.{ShareRow}
use Rattle.model.specs.Rights.{record_of_object}
use Rattle.store_abstraction.specs.Calls.{ended_edit}
use Rattle.store_abstraction.specs.Local.{StandsIn}
use Rattle.record_save.proofs.Accepted.{accepted, altered_calls, unadmitted_too, unaltered, update_passed}
use Rattle.record_save.proofs.Accepting.{object_layout}
use Rattle.record_save.proofs.GivenRules.{finds_there, reads_there}
use Rattle.record_save.proofs.Updates.{kept_found}
use Rattle.record_save.proofs.updating.accept_update.Goals as goal

pub returns-in_err-new-clause-accepts : goal.returns-in_err-new-clause-accepts
returns-in_err-new-clause-accepts g c told q a o id s at kept who now well finds =
    let l = c.args.layout.now in
    let k = c.args.kept.now in
    let given = c.args.given.now in
    let key = key_of given in
    let body = given.body.now in
    let there = ap (record_of_object a.tenant l.object) (kept_found l.org q a.tenant o l id k at kept).same ∙ kept.is in
    let changes = c.changed_record.ensures.changes told q a s who there (now ∙ sym (to_z-of_z w64 c.args.now c.ranges.now)) (reads_there l.org q a o l (all_given given) at.layout well) (finds_there l.org q a.tenant o l given at.layout finds) in
    let e = c.in_err-new.field-0.0 in
    update_passed a o key body k.item l e c.from_residual.result c.from_residual.ensures.1
    (unaltered a o key body k.item l q at c.changed_record.result e changes c.in_err-new.was)

pub returns-in_err-shares-clause-accepts : goal.returns-in_err-shares-clause-accepts
returns-in_err-shares-clause-accepts g c told q a o id s at kept who now well finds =
    let l = c.args.layout.now in
    let k = c.args.kept.now in
    let given = c.args.given.now in
    let key = key_of given in
    let body = given.body.now in
    let tells = c.draft_laws.ensures.both 4 164 c.args.draft.now c.changed_record.new.draft c.admit.new.draft c.changed_record.ensures.calls.reads c.admit.ensures.calls.reads told in
    let there = ap (record_of_object a.tenant l.object) (kept_found l.org q a.tenant o l id k at kept).same ∙ kept.is in
    let changes = c.changed_record.ensures.changes tells.0 q a s who there (now ∙ sym (to_z-of_z w64 c.args.now c.ranges.now)) (reads_there l.org q a o l (all_given given) at.layout well) (finds_there l.org q a.tenant o l given at.layout finds) in
    let stands = subst (λ (m : Tables). StandsIn l.org q m (Some a.tenant)) (sym tells.2) s in
    let e = c.in_err-shares.field-0.0 in
    update_passed a o key body k.item l e c.from_residual-in_err-shares.result c.from_residual-in_err-shares.ensures.1
    (unadmitted_too a o key body k.item l q at c.changed_record.result c.in_ok-new.new changes c.in_ok-new.was c.admit.result e
    (c.admit.ensures.admits tells.1 q a stands (object_layout l.org q a.tenant o l at) who) c.in_err-shares.was)

pub returns-in_err-shares-clause-calls : goal.returns-in_err-shares-clause-calls
returns-in_err-shares-clause-calls g c =
    let e = c.in_err-shares.field-0.0 in
    altered_calls g.K.Keeper.state c.args.draft.now c.admit.new.draft 168 e c.from_residual-in_err-shares.result c.from_residual-in_err-shares.ensures.1
    (c.call_laws.ensures.then 4 164 (ended_edit {X = List ShareRow} (Err e)) c.args.draft.now c.changed_record.new.draft c.admit.new.draft c.in_ok-new.ensures.calls c.in_err-shares.ensures.calls)

pub returns-clause-accepts : goal.returns-clause-accepts
returns-clause-accepts g c told q a o id s at kept who now well finds =
    let l = c.args.layout.now in
    let k = c.args.kept.now in
    let given = c.args.given.now in
    let key = key_of given in
    let body = given.body.now in
    let tells = c.draft_laws.ensures.both 4 164 c.args.draft.now c.changed_record.new.draft c.admit.new.draft c.changed_record.ensures.calls.reads c.admit.ensures.calls.reads told in
    let there = ap (record_of_object a.tenant l.object) (kept_found l.org q a.tenant o l id k at kept).same ∙ kept.is in
    let changes = c.changed_record.ensures.changes tells.0 q a s who there (now ∙ sym (to_z-of_z w64 c.args.now c.ranges.now)) (reads_there l.org q a o l (all_given given) at.layout well) (finds_there l.org q a.tenant o l given at.layout finds) in
    let stands = subst (λ (m : Tables). StandsIn l.org q m (Some a.tenant)) (sym tells.2) s in
    accepted a o key body k.item l q at c.changed_record.result c.in_ok-new.new changes c.in_ok-new.was c.admit.result c.in_ok-shares.shares
    (c.admit.ensures.admits tells.1 q a stands (object_layout l.org q a.tenant o l at) who) c.in_ok-shares.was
