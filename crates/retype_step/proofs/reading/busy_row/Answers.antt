use Rattle.retype_step.proofs.PagesRead.{busy_failed, busy_found}
use Rattle.retype_step.proofs.reading.busy_row.Goals as goal
use Rattle.store_kv.specs.Draft.{tables_of}

pub returns-in-Ok-clause-finds : goal.returns-in-Ok-clause-finds
returns-in-Ok-clause-finds g c told =
    busy_found c.args.org (tables_of g.K.Keeper.state c.args.draft.now) c.change_row.result c.in-Ok.row c.unless_done.result c.in-Ok.is c.unless_done.ensures (c.change_row.ensures.finds told)

pub returns-in-Err-clause-finds : goal.returns-in-Err-clause-finds
returns-in-Err-clause-finds g c told =
    busy_failed c.args.org (tables_of g.K.Keeper.state c.args.draft.now) c.change_row.result c.in-Err.fail c.in-Err.is (c.change_row.ensures.finds told)
