use Rattle.std.proofs.Common.{arith, subst, sym}
use Rattle.std.specs.Prelude.{Result}
use Rattle.store_edit.specs.declared.decided.Decided.{Decided}
use Rattle.store_abstraction.specs.Calls.{Calls, Ending, ended_edit}
use Rattle.store_abstraction.specs.declared.fail.EditFail.{EditFail}
use Rattle.record_save.proofs.Deciding.{made_ends}
use Rattle.record_save.specs.declared.upsert.upsert.Upserted.{Upserted}
use Rattle.record_save.proofs.upsert.upserting.decide_given.Goals as goal

pub returns-in-None-clause-calls : goal.returns-in-None-clause-calls
returns-in-None-clause-calls g c =
    let state = g.K.Keeper.state in
    let a = c.args.draft.now in
    let d = c.decide_create.new.draft in
    let calls : Calls state 168 (ended_edit c.made.result) a d =
    subst (λ (x : Result (Decided Upserted) EditFail). Calls state 168 (ended_edit x) a d) (sym c.made.ensures)
    (subst (λ (e : Ending). Calls state 168 e a d) (sym (made_ends c.decide_create.result)) c.decide_create.ensures.calls) in
    record {
      reads = c.draft_laws.ensures.reads_most 168 172 a d (λ told. omega arith) calls.reads;
      stays = calls.stays;
      cause = calls.cause;
      quiet = calls.quiet;
    }
