use Rattle.std.proofs.Common.{◌∙◌, Ok, Option, Result, ap, subst}
use Rattle.store_kv.specs.Draft.{tables_of}
use Rattle.store_rows.specs.declared.fail.StoreFail.{StoreFail}
use Rattle.model.specs.Retyping.{get_retype}
use Rattle.retype_request.specs.declared.state.ChangeState.{ChangeState}
use Rattle.store_abstraction.specs.Calls.{Calls, ended}
use Rattle.store_abstraction.specs.Local.{FindsIn}
use Rattle.api.proofs.Changing.{change_failed, never_changed, refused_after, replied_calls, state_answered, state_there}
use Rattle.api.proofs.retyping.answer_state.Goals as goal

pub returns-in-Ok-Some-clause-what : goal.returns-in-Ok-Some-clause-what
returns-in-Ok-Some-clause-what g c told p a s =
    let m = tables_of g.K.Keeper.state c.args.draft.now in
    state_answered c.args.org a p m c.in-Ok-Some.state c.state_reply.result s
    (subst (FindsIn c.args.org state_there m) (c.in-Ok-Some.is ∙ ap Ok c.in-Ok-Some.field-0-is) (c.change_state.ensures.finds told)) c.state_reply.ensures.value

pub returns-in-Ok-Some-clause-calls : goal.returns-in-Ok-Some-clause-calls
returns-in-Ok-Some-clause-calls g c =
    let state = g.K.Keeper.state in
    replied_calls state c.call_laws.ensures.weaker c.args.draft.now c.change_state.new.draft c.state_reply.result c.state_reply.ensures.cause
    (subst (λ (r : Result (Option ChangeState) StoreFail). Calls state 0 (ended r) c.args.draft.now c.change_state.new.draft) c.in-Ok-Some.is c.change_state.ensures.calls)

pub returns-in-Ok-None-clause-what : goal.returns-in-Ok-None-clause-what
returns-in-Ok-None-clause-what g c told p a s =
    let m = tables_of g.K.Keeper.state c.args.draft.now in
    never_changed c.args.org a p m c.refuse.result s
    (subst (FindsIn c.args.org state_there m) (c.in-Ok-None.is ∙ ap Ok c.in-Ok-None.field-0-is) (c.change_state.ensures.finds told)) c.refuse.ensures.value

pub returns-in-Ok-None-clause-calls : goal.returns-in-Ok-None-clause-calls
returns-in-Ok-None-clause-calls g c =
    let state = g.K.Keeper.state in
    refused_after state c.call_laws.ensures.weaker c.args.draft.now c.change_state.new.draft c.refuse.result c.refuse.ensures.value
    (subst (λ (r : Result (Option ChangeState) StoreFail). Calls state 0 (ended r) c.args.draft.now c.change_state.new.draft) c.in-Ok-None.is c.change_state.ensures.calls)

pub returns-in-Err-clause-what : goal.returns-in-Err-clause-what
returns-in-Err-clause-what g c told p a s =
    let m = tables_of g.K.Keeper.state c.args.draft.now in
    change_failed c.args.org a (get_retype a.tenant) p m c.in-Err.fail s (subst (FindsIn c.args.org state_there m) c.in-Err.is (c.change_state.ensures.finds told))
