use Rattle.std.proofs.Common.{Bor, List, subst, sym, ℕ}
use Rattle.std.specs.Option.{option_map}
use Rattle.base_lemmas.proofs.Results.{err_from_parts as returned}
use Rattle.record_input.specs.declared.found.Found.{Found}
use Rattle.store_kv.specs.Draft.{tables_of}
use Rattle.store_kv.specs.Tables.{Tables}
use Rattle.store_rows.specs.declared.fail.StoreFail.TheVariants.{Memory}
use Rattle.store_abstraction.specs.Calls.{ended}
use Rattle.store_abstraction.specs.Fails.{of_store}
use Rattle.cmd_load_row.specs.Loads.{load_shown, row_changes}
use Rattle.cmd_load_row.specs.declared.parents.Parent.{Parent}
use Rattle.cmd_load_row.specs.inner.Edits.{AsksBy, EditsRow, KnowsFound, asked_for}
use Rattle.cmd_load_row.specs.inner.Parents.{AreTold}
use Rattle.cmd_load_row.proofs.Editing.{after_read, asked_fewer, memory_drafts, never_damaged, row_stopped, stopped_drafts}
use Rattle.cmd_load_row.proofs.Knowing.{finds_told}
use Rattle.cmd_load_row.proofs.edits.edit_given.Goals as goal

pub returns-in_err-parents-clause-what : goal.returns-in_err-parents-clause-what
returns-in_err-parents-clause-what g c told =
    let state = g.K.Keeper.state in
    let caller = c.args.caller.now in
    let e = c.in_err-parents.field-0.0 in
    row_stopped caller.org (AsksBy (g.R.Rights.whose c.args.rights.now) caller c.args.now) (asked_for c.args.object.now (option_map (λ (k : Bor (List ℕ)). k.now) c.args.key) c.args.text c.args.given.now)
    (tables_of state c.args.draft.now) (tables_of state c.find_parents.new.draft) e c.from_residual.result (returned c.from_residual.result (of_store e) c.from_residual.ensures)
    (λ q a stands asks. c.in_err-parents.ensures.finds told q a.tenant stands)

pub returns-in_err-parents-clause-drafts : goal.returns-in_err-parents-clause-drafts
returns-in_err-parents-clause-drafts g c =
    let laws = c.call_laws.ensures in
    let e = c.in_err-parents.field-0.0 in
    stopped_drafts g.K.Keeper.state (record { weaker = laws.weaker; none = laws.none; makes = laws.makes; most = laws.most }) e c.args.draft.now c.find_parents.new.draft c.from_residual.result
    (returned c.from_residual.result (of_store e) c.from_residual.ensures) c.in_err-parents.ensures.calls

pub returns-in_err-found-clause-what : goal.returns-in_err-found-clause-what
returns-in_err-found-clause-what g c told =
    let state = g.K.Keeper.state in
    let caller = c.args.caller.now in
    row_stopped caller.org (AsksBy (g.R.Rights.whose c.args.rights.now) caller c.args.now) (asked_for c.args.object.now (option_map (λ (k : Bor (List ℕ)). k.now) c.args.key) c.args.text c.args.given.now)
    (tables_of state c.args.draft.now) (tables_of state c.find_parents.new.draft) Memory c.from_residual-in_err-found.result (returned c.from_residual-in_err-found.result (of_store Memory) c.from_residual-in_err-found.ensures)
    (λ q a stands asks. never_damaged)

pub returns-in_err-found-clause-drafts : goal.returns-in_err-found-clause-drafts
returns-in_err-found-clause-drafts g c =
    let laws = c.call_laws.ensures in
    memory_drafts g.K.Keeper.state (record { weaker = laws.weaker; none = laws.none; makes = laws.makes; most = laws.most }) c.args.draft.now c.find_parents.new.draft c.from_residual-in_err-found.result
    (returned c.from_residual-in_err-found.result (of_store Memory) c.from_residual-in_err-found.ensures) c.in_ok-parents.ensures.calls

pub returns-clause-what : goal.returns-clause-what
returns-clause-what g c told =
    let state = g.K.Keeper.state in
    let whose = g.R.Rights.whose c.args.rights.now in
    let caller = c.args.caller.now in
    let object = c.args.object.now in
    let given = c.args.given.now in
    let a = c.args.draft.now in
    let b = c.find_parents.new.draft in
    let d = c.edit_found.new.draft in
    let calls = c.find_parents.ensures.calls in
    let e = ended c.find_parents.result in
    let request = asked_for object (option_map (λ (k : Bor (List ℕ)). k.now) c.args.key) c.args.text given in
    let first = c.draft_laws.ensures.told_first row_changes 0 load_shown a b d c.edit_found.ensures.drafts.makes.works told in
    let later = c.call_laws.ensures.told_then 0 e a b d calls first told in
    let same = c.call_laws.ensures.tables 0 e a b calls first in
    let told_by = c.as_slice-told.result.now in
    let parents = c.in_ok-parents.parents in
    let are = subst (λ (fs : List Found). AreTold fs parents) (sym c.as_slice-told.ensures) (subst (λ (ps : List Parent). AreTold c.in_ok-found.found ps) c.as_slice-known.ensures c.in_ok-found.ensures) in
    asked_fewer caller.org (KnowsFound whose caller c.args.now object given told_by) (AsksBy whose caller c.args.now) request (tables_of state a) (tables_of state d) c.edit_found.result
    (λ q x stands asks. (asks, finds_told c.given_laws.ensures.named c.object_laws.ensures.named x.tenant object parents told_by given stands.sound (c.in_ok-parents.ensures.finds first q x.tenant stands) are))
    (subst (λ (t : Tables). EditsRow caller.org (KnowsFound whose caller c.args.now object given told_by) request t (tables_of state d) c.edit_found.result) same (c.edit_found.ensures.what later))

pub returns-clause-drafts : goal.returns-clause-drafts
returns-clause-drafts g c =
    let laws = c.call_laws.ensures in
    after_read g.K.Keeper.state (record { weaker = laws.weaker; none = laws.none; makes = laws.makes; most = laws.most }) laws.reads_then c.draft_laws.ensures.reads c.edit_found.result c.args.draft.now c.find_parents.new.draft c.edit_found.new.draft
    c.in_ok-parents.ensures.calls c.edit_found.ensures.drafts
