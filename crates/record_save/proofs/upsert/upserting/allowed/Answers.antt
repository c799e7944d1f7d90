use Rattle.std.proofs.Common.{subst, sym}
use Rattle.std.specs.Prelude.{Result}
use Rattle.store_kv.specs.Draft.{tables_of}
use Rattle.store_abstraction.specs.Calls.{Calls, Ending, ended_edit}
use Rattle.store_abstraction.specs.declared.fail.EditFail.{EditFail}
use Rattle.record_save.proofs.Deciding.{allows, edit_ends}
use Rattle.record_save.specs.upsert.inner.Deciding.{Allows}
use Rattle.record_save.proofs.upsert.upserting.allowed.Goals as goal

pub returns-clause-allows : goal.returns-clause-allows
returns-clause-allows g c told =
    let l = c.args.layout.now in
    let k = c.args.kept.now in
    let whose = g.R.Rights.whose c.args.rights.now in
    let m = tables_of g.K.Keeper.state c.args.draft.now in
    subst (Allows l whose k m) (sym c.may_edit.ensures) (allows l whose k m c.level_at-level.result (c.level_at-level.ensures.finds told))

pub returns-clause-calls : goal.returns-clause-calls
returns-clause-calls g c =
    let state = g.K.Keeper.state in
    let a = c.args.draft.now in
    let b = c.level_at-level.new.draft in
    subst (λ (r : Result (Unit {0}) EditFail). Calls state 4 (ended_edit r) a b) (sym c.may_edit.ensures)
    (subst (λ (e : Ending). Calls state 4 e a b) (sym (edit_ends c.level_at-level.result)) c.level_at-level.ensures.calls)
