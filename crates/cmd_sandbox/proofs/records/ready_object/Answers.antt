use Rattle.std.proofs.Common.{Err, ap, refl, subst}
use Rattle.store_edit.specs.Naming.{NamesLayout}
use Rattle.store_abstraction.specs.declared.layout.Layout.{Layout}
use Rattle.store_abstraction.specs.declared.fail.EditFail.{EditFail}
use Rattle.store_kv.specs.Memory.{memory_state}
use Rattle.store_abstraction.specs.Calls.{Calls, ended_edit}
use Rattle.store_edit.specs.Edits.{FailsBy}
use Rattle.model.specs.Creates.{create}
use Rattle.record_target.proofs.Objects.{named_so}
use Rattle.cmd_sandbox.specs.Own.{refusal_of}
use Rattle.cmd_sandbox.proofs.Sure.{never_fell, only_memory, read_owned}
use Rattle.record_save.proofs.Creates.{create_unnamed}
use Rattle.cmd_sandbox.proofs.records.ready_object.Goals as goal

pub returns-in-Ok-clause-found : goal.returns-in-Ok-clause-found
returns-in-Ok-clause-found c now a made =
    let on = named_so 1 made.plan a.tenant c.args.name.now c.ready_layout.result c.in-Ok.layout (c.ready_layout.ensures.names (tt, refl) made.plan a.tenant made.stands) c.in-Ok.is in
    let calls = subst (λ r. Calls memory_state 0 (ended_edit r) c.args.draft.now c.ready_layout.new.draft) c.in-Ok.is c.ready_layout.ensures.calls in
    record { owned = read_owned _ _ c.args.draft.now c.ready_layout.new.draft now a calls made; object = on.0; named = on.1; layout = on.2 }

pub returns-in-Err-Refused-clause-found : goal.returns-in-Err-Refused-clause-found
returns-in-Err-Refused-clause-found c now a made given =
    ap refusal_of (subst (FailsBy (create a c.args.name.now given)) c.in-Err-Refused.field-0-is
    (create_unnamed 1 made.plan a c.args.name.now given c.ready_layout.result c.in-Err-Refused.field-0 (c.ready_layout.ensures.names (tt, refl) made.plan a.tenant made.stands) c.in-Err-Refused.is))

pub returns-in-Err-Store-clause-found : goal.returns-in-Err-Store-clause-found
returns-in-Err-Store-clause-found c now a made =
    let is = c.in-Err-Store.field-0-is in
    only_memory c.in-Err-Store.fail (never_fell Layout c.in-Err-Store.field-0 c.in-Err-Store.fail is (c.in-Err-Store.ensures.calls.cause.never made.sure))
    (subst (λ (e : EditFail). NamesLayout 1 made.plan a.tenant c.args.name.now (Err e)) is (c.in-Err-Store.ensures.names (tt, refl) made.plan a.tenant made.stands))
