use Rattle.store_kv.specs.Draft.{tables_of}
use Rattle.cmd_load_row.proofs.Requested.{texts}
use Rattle.cmd_load_row.proofs.Telling.{row_drafts, row_judged}
use Rattle.cmd_load_row.proofs.rows.row_done.Goals as goal

pub returns-clause-what : goal.returns-clause-what
returns-clause-what g c told =
    let state = g.K.Keeper.state in
    row_judged (g.R.Rights.whose c.args.rights.now) c.args.caller.now c.args.plan.now c.args.number (texts c.args.cells.now) c.args.now (tables_of state c.args.draft.now) (tables_of state c.edit_row-edited.new.draft) c.edit_row-edited.result c.told_row.result
    c.told_row.ensures (c.edit_row-edited.ensures.what told)

pub returns-clause-drafts : goal.returns-clause-drafts
returns-clause-drafts g c =
    row_drafts g.K.Keeper.state c.args.draft.now c.edit_row-edited.new.draft c.args.number c.edit_row-edited.result c.told_row.result c.told_row.ensures c.edit_row-edited.ensures.drafts
