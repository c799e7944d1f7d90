use Rattle.std.proofs.Common.{Option, subst, sym}
use Rattle.std.specs.Prelude.{Result}
use Rattle.access_traits.specs.Rights.{level_shown}
use Rattle.record_target.specs.declared.kept.KeptRecord.{KeptRecord}
use Rattle.store_abstraction.specs.Calls.{Calls, Ending, ended_edit}
use Rattle.store_abstraction.specs.declared.fail.EditFail.{EditFail}
use Rattle.store_kv.specs.Draft.{tables_of}
use Rattle.api_read.proofs.RecordsFound.{found_by, found_none, readable_ends}
use Rattle.api_read.specs.declared.records.finding.Readable.{Readable}
use Rattle.api_read.specs.inner.RecordParts.{FindsReadable, IsFound}
use Rattle.api_read.proofs.records.finding.find_readable.Goals as goal

pub returns-in-Some-clause-finds : goal.returns-in-Some-clause-finds
returns-in-Some-clause-finds g c told q a x s hers found =
    let l = c.args.layout.now in
    let k = c.in-Some.kept in
    subst (FindsReadable a l.object x) (sym c.readable_by.ensures)
    (found_by a l x k (subst (IsFound a.tenant l x) c.in-Some.is found) (g.R.Rights.whose c.args.rights.now) (tables_of g.K.Keeper.state c.args.draft.now) q s hers c.level_at-level.result (c.level_at-level.ensures.finds told))

pub returns-in-Some-clause-calls : goal.returns-in-Some-clause-calls
returns-in-Some-clause-calls g c =
    let state = g.K.Keeper.state in
    let a = c.args.draft.now in
    let b = c.level_at-level.new.draft in
    subst (λ (r : Result Readable EditFail). Calls state level_shown (ended_edit r) a b) (sym c.readable_by.ensures)
    (subst (λ (e : Ending). Calls state level_shown e a b) (sym (readable_ends c.in-Some.kept c.level_at-level.result)) c.level_at-level.ensures.calls)

pub returns-in-None-clause-finds : goal.returns-in-None-clause-finds
returns-in-None-clause-finds g c told q a x s hers found = found_none a c.args.layout.now.object x (subst (IsFound a.tenant c.args.layout.now x) c.in-None.is found)
