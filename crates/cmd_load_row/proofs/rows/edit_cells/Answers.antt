use Rattle.std.proofs.Common.{◌∙◌, Bor, IsTrue, List, refl, subst, sym, ℕ}
use Rattle.std.specs.List.{list_all}
use Rattle.std.specs.Option.{option_map}
use Rattle.base_lemmas.proofs.Results.{err_from_parts as returned}
use Rattle.cmd_load_plan.specs.Rows.{given_row, has_characters}
use Rattle.store_kv.specs.Draft.{tables_of}
use Rattle.store_rows.specs.declared.fail.StoreFail.TheVariants.{Memory}
use Rattle.model.specs.declared.record_bodies.Assignment.{Assignment}
use Rattle.store_abstraction.specs.Calls.{done}
use Rattle.store_abstraction.specs.Fails.{of_store}
use Rattle.cmd_load_row.specs.inner.Edits.{AsksBy, EditsRow, asked_for}
use Rattle.cmd_load_row.proofs.Editing.{memory_drafts, never_damaged, row_stopped}
use Rattle.cmd_load_row.proofs.Requested.{texts}
use Rattle.cmd_load_row.proofs.rows.edit_cells.Goals as goal

pub returns-in_err-given-clause-what : goal.returns-in_err-given-clause-what
returns-in_err-given-clause-what g c told =
    let state = g.K.Keeper.state in
    let caller = c.args.caller.now in
    let m = tables_of state c.args.draft.now in
    row_stopped caller.org (AsksBy (g.R.Rights.whose c.args.rights.now) caller c.args.now) (asked_for c.args.object.now (option_map (λ (k : Bor (List ℕ)). k.now) c.args.key) c.args.text (given_row c.args.columns.now (texts c.args.cells.now)))
    m m Memory c.from_residual.result (returned c.from_residual.result (of_store Memory) c.from_residual.ensures) (λ q a stands asks. never_damaged)

pub returns-in_err-given-clause-drafts : goal.returns-in_err-given-clause-drafts
returns-in_err-given-clause-drafts g c =
    let laws = c.call_laws.ensures in
    let a = c.args.draft.now in
    memory_drafts g.K.Keeper.state (record { weaker = laws.weaker; none = laws.none; makes = laws.makes; most = laws.most }) a a c.from_residual.result
    (returned c.from_residual.result (of_store Memory) c.from_residual.ensures) (laws.none done a refl)

pub edit_given-requires-clause-spelled : goal.edit_given-requires-clause-spelled
edit_given-requires-clause-spelled g c =
    subst (λ (gs : List Assignment). IsTrue (list_all (λ x. has_characters x.given) gs)) (sym c.as_slice.ensures.value) c.in_ok-given.ensures.spelled

pub returns-clause-what : goal.returns-clause-what
returns-clause-what g c told =
    let state = g.K.Keeper.state in
    let caller = c.args.caller.now in
    subst (λ (gs : List Assignment). EditsRow caller.org (AsksBy (g.R.Rights.whose c.args.rights.now) caller c.args.now) (asked_for c.args.object.now (option_map (λ (k : Bor (List ℕ)). k.now) c.args.key) c.args.text gs)
    (tables_of state c.args.draft.now) (tables_of state c.edit_given.new.draft) c.edit_given.result)
    (◌∙◌ {c = given_row c.args.columns.now (texts c.args.cells.now)} c.as_slice.ensures.value c.in_ok-given.ensures.same) (c.edit_given.ensures.what told)
