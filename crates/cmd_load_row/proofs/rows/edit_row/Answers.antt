use Rattle.std.proofs.Common.{List, ap, subst, ◌∙◌}
use Rattle.cmd_load_plan.specs.Rows.{given_row, upsert_row}
use Rattle.cmd_load_plan.specs.declared.plan.LoadColumn.{LoadColumn}
use Rattle.store_kv.specs.Draft.{tables_of}
use Rattle.model_requests.specs.Requests.{Request, creates}
use Rattle.cmd_load_row.specs.inner.Edits.{AsksBy, EditsRow}
use Rattle.cmd_load_row.proofs.Requested.{texts, with_key, without_key}
use Rattle.cmd_load_row.proofs.rows.edit_row.Goals as goal

pub returns-in-None-clause-what : goal.returns-in-None-clause-what
returns-in-None-clause-what g c told =
    let state = g.K.Keeper.state in
    let caller = c.args.caller.now in
    let p = c.args.plan.now in
    let cells = texts c.args.cells.now in
    subst (λ (x : Request). EditsRow caller.org (AsksBy (g.R.Rights.whose c.args.rights.now) caller c.args.now) x (tables_of state c.args.draft.now) (tables_of state c.edit_cells.new.draft) c.edit_cells.result)
    (ap (λ (cs : List LoadColumn). creates p.object (given_row cs cells)) c.as_slice.ensures ∙ without_key p cells c.in-None.is) (c.edit_cells.ensures.what told)

pub returns-in-Some-clause-what : goal.returns-in-Some-clause-what
returns-in-Some-clause-what g c told =
    let state = g.K.Keeper.state in
    let caller = c.args.caller.now in
    let p = c.args.plan.now in
    let cells = texts c.args.cells.now in
    let key = c.in-Some.key in
    subst (λ (x : Request). EditsRow caller.org (AsksBy (g.R.Rights.whose c.args.rights.now) caller c.args.now) x (tables_of state c.args.draft.now) (tables_of state c.edit_by_key.new.draft) c.edit_by_key.result)
    (ap (λ (cs : List LoadColumn). upsert_row p.object key cs cells) c.as_slice-in-Some.ensures ∙ with_key p cells key c.in-Some.is) (c.edit_by_key.ensures.what told)
