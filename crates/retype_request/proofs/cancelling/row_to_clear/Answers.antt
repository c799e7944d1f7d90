use Rattle.store_kv.specs.Draft.{tables_of}
use Rattle.model.specs.Retyping.{cancel_retype}
use Rattle.retype_request.proofs.Begun.{not_made}
use Rattle.retype_request.proofs.Cancelled.{cancels_not, cancels_so, copying_read, its_type, nothing_read}
use Rattle.retype_request.proofs.cancelling.row_to_clear.Goals as goal
use Rattle.store_abstraction.specs.Fails.{of_store}

pub returns-in_default-clause-cancels : goal.returns-in_default-clause-cancels
returns-in_default-clause-cancels g c told q t s =
    let org = c.args.org in
    let m = tables_of g.K.Keeper.state c.args.draft.now in
    nothing_read org q m t c.change_row.result c.in_ok-change_row.field-0 (c.change_row.ensures.finds told) c.in_ok-change_row.was s c.in_default.ensures

pub returns-in_err-row_of-clause-cancels : goal.returns-in_err-row_of-clause-cancels
returns-in_err-row_of-clause-cancels g c told q t s =
    let org = c.args.org in
    let m = tables_of g.K.Keeper.state c.args.draft.now in
    let e = c.in_err-row_of.field-0.0 in
    let read = copying_read org q m t c.change_row.result c.in_ok-change_row.field-0 (c.change_row.ensures.finds told) c.in_ok-change_row.was s c.in-Some.row c.in-Some.ensures in
    cancels_not org q t (of_store e) c.from_residual-in_err-row_of.result c.from_residual-in_err-row_of.ensures.1
    (not_made (cancel_retype t) c.row_of.result e (c.row_of.ensures.damaged (its_type org q t c.in-Some.row s.sound read)) c.in_err-row_of.was)

pub returns-clause-cancels : goal.returns-clause-cancels
returns-clause-cancels g c told q t s =
    let org = c.args.org in
    let m = tables_of g.K.Keeper.state c.args.draft.now in
    let read = copying_read org q m t c.change_row.result c.in_ok-change_row.field-0 (c.change_row.ensures.finds told) c.in_ok-change_row.was s c.in-Some.row c.in-Some.ensures in
    cancels_so org q t c.in-Some.row s.sound read c.in_ok-row_of.field-0 c.in_ok-row_of.ensures.same
