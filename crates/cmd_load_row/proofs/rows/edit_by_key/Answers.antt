use Rattle.std.proofs.Common.{refl, subst}
use Rattle.base_lemmas.proofs.Results.{err_from_parts as returned}
use Rattle.cmd_load_plan.specs.Rows.{upsert_row}
use Rattle.store_kv.specs.Draft.{tables_of}
use Rattle.store_rows.specs.declared.fail.StoreFail.TheVariants.{Memory}
use Rattle.model_requests.specs.Requests.{Request}
use Rattle.store_abstraction.specs.Calls.{done}
use Rattle.store_abstraction.specs.Fails.{of_store}
use Rattle.cmd_load_row.specs.inner.Edits.{AsksBy, EditsRow}
use Rattle.cmd_load_row.proofs.Editing.{memory_drafts, never_damaged, row_stopped}
use Rattle.cmd_load_row.proofs.Requested.{by_first, texts, without_cells, without_columns}
use Rattle.cmd_load_row.proofs.rows.edit_by_key.Goals as goal

pub returns-in_default-clause-what : goal.returns-in_default-clause-what
returns-in_default-clause-what g c told =
    let state = g.K.Keeper.state in
    let caller = c.args.caller.now in
    subst (λ (x : Request). EditsRow caller.org (AsksBy (g.R.Rights.whose c.args.rights.now) caller c.args.now) x (tables_of state c.args.draft.now) (tables_of state c.edit_cells.new.draft) c.edit_cells.result)
    (without_columns c.args.object.now c.args.key.now c.args.columns.now c.args.cells.now c.in_default.ensures.cases) (c.edit_cells.ensures.what told)

pub returns-in_default-split_first-clause-what : goal.returns-in_default-split_first-clause-what
returns-in_default-split_first-clause-what g c told =
    let state = g.K.Keeper.state in
    let caller = c.args.caller.now in
    subst (λ (x : Request). EditsRow caller.org (AsksBy (g.R.Rights.whose c.args.rights.now) caller c.args.now) x (tables_of state c.args.draft.now) (tables_of state c.edit_cells-in_default-split_first.new.draft) c.edit_cells-in_default-split_first.result)
    (without_cells c.args.object.now c.args.key.now c.args.columns.now c.args.cells.now c.in_default-split_first.ensures.cases) (c.edit_cells-in_default-split_first.ensures.what told)

pub returns-in_err-text-clause-what : goal.returns-in_err-text-clause-what
returns-in_err-text-clause-what g c told =
    let state = g.K.Keeper.state in
    let caller = c.args.caller.now in
    let m = tables_of state c.args.draft.now in
    row_stopped caller.org (AsksBy (g.R.Rights.whose c.args.rights.now) caller c.args.now) (upsert_row c.args.object.now c.args.key.now c.args.columns.now (texts c.args.cells.now))
    m m Memory c.from_residual.result (returned c.from_residual.result (of_store Memory) c.from_residual.ensures) (λ q a stands asks. never_damaged)

pub returns-in_err-text-clause-drafts : goal.returns-in_err-text-clause-drafts
returns-in_err-text-clause-drafts g c =
    let laws = c.call_laws.ensures in
    let a = c.args.draft.now in
    memory_drafts g.K.Keeper.state (record { weaker = laws.weaker; none = laws.none; makes = laws.makes; most = laws.most }) a a c.from_residual.result
    (returned c.from_residual.result (of_store Memory) c.from_residual.ensures) (laws.none done a refl)

pub returns-clause-what : goal.returns-clause-what
returns-clause-what g c told =
    let state = g.K.Keeper.state in
    let caller = c.args.caller.now in
    subst (λ (x : Request). EditsRow caller.org (AsksBy (g.R.Rights.whose c.args.rights.now) caller c.args.now) x (tables_of state c.args.draft.now) (tables_of state c.edit_cells-2.new.draft) c.edit_cells-2.result)
    (by_first c.args.object.now c.args.key.now c.args.columns.now c.in-Some.others.now _ c.args.cells.now c.in-Some-split_first.rest.now c.in-Some-split_first.cell.now c.in_ok-text.text c.in-Some.ensures.cases.0 c.in-Some-split_first.ensures.cases.0 c.in_ok-text.ensures.same)
    (c.edit_cells-2.ensures.what told)
