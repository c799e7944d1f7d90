use Rattle.std.proofs.Common.{subst}
use Rattle.store_edit.proofs.Reading.{two_reads}
use Rattle.store_kv.specs.Draft.{tables_of}
use Rattle.store_kv.specs.Tables.{Tables}
use Rattle.retype_request.specs.inner.States.{state_by}
use Rattle.retype_request.proofs.Read.{none_found, one_found}
use Rattle.retype_request.proofs.state.change_state.Goals as goal
use Rattle.store_abstraction.specs.Layouts.{own_layout}
use Rattle.store_abstraction.specs.Local.{FindsIn}
use Rattle.std.specs.Prelude.{Some}

pub returns-in-None-clause-finds : goal.returns-in-None-clause-finds
returns-in-None-clause-finds g c told =
    none_found c.args.org (tables_of g.K.Keeper.state c.args.draft.now) c.change_row.result c.in_ok-change_row.field-0 (c.change_row.ensures.finds told) c.in_ok-change_row.was c.in-None.is

pub returns-in-Some-clause-finds : goal.returns-in-Some-clause-finds
returns-in-Some-clause-finds g c told =
    let state = g.K.Keeper.state in
    let org = c.args.org in
    let row = c.in-Some.row in
    let calls = c.call_laws.ensures in
    let reads = two_reads state calls.told_first calls.told_then calls.tables c.args.draft.now c.change_row.new.draft c.state_read.new.draft c.change_row.ensures.calls c.state_read.ensures.calls told in
    one_found org (tables_of state c.args.draft.now) c.change_row.result c.in_ok-change_row.field-0 row c.state_read.result (c.change_row.ensures.finds reads.first) c.in_ok-change_row.was c.in-Some.is
    (subst (λ (m : Tables). FindsIn org (λ q t. Some (state_by row (own_layout org row.object q t))) m c.state_read.result) reads.same (c.state_read.ensures.finds reads.then))
