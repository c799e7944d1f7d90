use Rattle.std.proofs.Common.{◌≡◌, ◌+◌, Option, Some, sym, subst}
use Rattle.std.specs.Prelude.{Ok}
use Rattle.retype_step.proofs.PagesRead.{IsBusy}
use Rattle.retype_step.proofs.Stepping.{nothing_to_do, takes_failed, takes_so, under_way}
use Rattle.retype_step.proofs.making.judge.Goals as goal
use Rattle.store_kv.specs.Draft.{removals_of, tables_of}
use Rattle.store_kv.specs.Tables.{Tables}
use Rattle.store_rows.specs.declared.job.JobRow.{JobRow}
use Rattle.store_abstraction.specs.Local.{StandsIn}

pub returns-in-Ok-None-clause-decides : goal.returns-in-Ok-None-clause-decides
returns-in-Ok-None-clause-decides g c told q t s =
    nothing_to_do c.args.org (tables_of g.K.Keeper.state c.args.draft.now) q t s c.busy_row.result (c.busy_row.ensures.finds told)
    (subst (λ (x : Option JobRow). c.busy_row.result ≡ Ok x) c.in-Ok-None.field-0-is c.in-Ok-None.is)

pub returns-in-Ok-clause-decides : goal.returns-in-Ok-clause-decides
returns-in-Ok-clause-decides g c told q t s =
    let state = g.K.Keeper.state in
    let org = c.args.org in
    let a = c.args.draft.now in
    let b = c.busy_row.new.draft in
    let m = tables_of state a in
    let row = c.in-Ok-Some.row in
    let tell = c.draft_laws.ensures.both 0 (100 + removals_of state 7 b) a b c.changes_by.new.draft c.busy_row.ensures.calls.reads c.changes_by.ensures.calls.reads told in
    let was = subst (λ (x : Option JobRow). c.busy_row.result ≡ Ok x) c.in-Ok-Some.field-0-is c.in-Ok-Some.is in
    let busy : IsBusy org q t row = under_way org m q t s c.busy_row.result (c.busy_row.ensures.finds tell.0) row was in
    let stands = subst (λ (z : Tables). StandsIn org q z (Some t)) (sym tell.2) s in
    takes_so org q t c.changes_by.result c.in-Ok.changes c.in-Ok.is (busy.job, busy.is, busy.busy) (c.changes_by.ensures.takes tell.1 q t busy.job stands busy.is busy.busy busy.its)

pub returns-in-Err-changes_by-clause-decides : goal.returns-in-Err-changes_by-clause-decides
returns-in-Err-changes_by-clause-decides g c told q t s =
    let state = g.K.Keeper.state in
    let org = c.args.org in
    let a = c.args.draft.now in
    let b = c.busy_row.new.draft in
    let m = tables_of state a in
    let row = c.in-Ok-Some.row in
    let tell = c.draft_laws.ensures.both 0 (100 + removals_of state 7 b) a b c.changes_by.new.draft c.busy_row.ensures.calls.reads c.changes_by.ensures.calls.reads told in
    let was = subst (λ (x : Option JobRow). c.busy_row.result ≡ Ok x) c.in-Ok-Some.field-0-is c.in-Ok-Some.is in
    let busy : IsBusy org q t row = under_way org m q t s c.busy_row.result (c.busy_row.ensures.finds tell.0) row was in
    let stands = subst (λ (z : Tables). StandsIn org q z (Some t)) (sym tell.2) s in
    takes_failed org q t c.changes_by.result c.in-Err-changes_by.fail c.in-Err-changes_by.is (c.changes_by.ensures.takes tell.1 q t busy.job stands busy.is busy.busy busy.its)
