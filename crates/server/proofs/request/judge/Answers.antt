use Rattle.std.proofs.Common.{◌∙◌, Ok, ap, arith, false, subst}
use Rattle.std.specs.Prelude.{length}
use Rattle.store_kv.specs.Draft.{DraftTells, count_of, removals_of, tables_of}
use Rattle.store_kv.specs.State.{data_table}
use Rattle.store_kv.specs.Tables.{Tables}
use Rattle.model.specs.Step.{key_in}
use Rattle.people_edit.specs.People.{FindsCaller}
use Rattle.store_abstraction.specs.Calls.{ended}
use Rattle.model.specs.Bounds.{request_gone}
use Rattle.server.specs.Own.{IsMoving, IsStepped, JudgesCaller, message_changes, message_shown_beside}
use Rattle.server.specs.Requests.{message_in}
use Rattle.server.proofs.Judging.{judged_called, judged_uncalled}
use Rattle.server.proofs.Stepping.{form_judged, form_more}
use Rattle.server.proofs.request.judge.Goals as goal

pub returns-in-Ok-Some-clause-what : goal.returns-in-Ok-Some-clause-what
returns-in-Ok-Some-clause-what g c told =
    let state = g.K.Keeper.state in
    let a = c.args.draft.now in
    let b = c.caller_of.new.draft in
    let d = c.judge_called.new.draft in
    let m = message_in c.args.message.now in
    let caller = c.in-Ok-Some.caller in
    let calls = c.caller_of.ensures.calls in
    let e = ended c.caller_of.result in
    let first = c.draft_laws.ensures.told_first message_changes request_gone (message_shown_beside (message_in c.args.message.now) (removals_of state data_table b)) a b d c.judge_called.ensures.drafts.makes.works told in
    let later = c.call_laws.ensures.told_then 0 e a b d calls first told in
    let same = c.call_laws.ensures.tables 0 e a b calls first in
    let judged = subst (λ (t : Tables). JudgesCaller caller m c.args.message.now.close c.args.now t (tables_of state d) c.judge_called.result) same (c.judge_called.ensures.what later) in
    judged_called m c.args.message.now.close c.args.now (tables_of state a) (tables_of state d) (key_in m) caller c.judge_called.result
    (subst (FindsCaller (key_in m) (tables_of state a)) (c.in-Ok-Some.is ∙ ap Ok c.in-Ok-Some.field-0-is) (c.caller_of.ensures.finds first)) judged

pub returns-in-Ok-None-clause-what : goal.returns-in-Ok-None-clause-what
returns-in-Ok-None-clause-what g c told =
    let state = g.K.Keeper.state in
    let before = tables_of state c.args.draft.now in
    let m = message_in c.args.message.now in
    judged_uncalled m c.args.message.now.close c.args.now before (tables_of state c.caller_of.new.draft) (key_in m) c.refuse_uncalled.result
    (subst (FindsCaller (key_in m) before) (c.in-Ok-None.is ∙ ap Ok c.in-Ok-None.field-0-is) (c.caller_of.ensures.finds told)) c.refuse_uncalled.ensures.what

pub returns-in-Ok-Some-clause-form : goal.returns-in-Ok-Some-clause-form
returns-in-Ok-Some-clause-form g c =
    let state = g.K.Keeper.state in
    let a = c.args.draft.now in
    let b = c.caller_of.new.draft in
    let d = c.judge_called.new.draft in
    let m = message_in c.args.message.now in
    let caller = c.in-Ok-Some.caller in
    let calls = c.caller_of.ensures.calls in
    let e = ended c.caller_of.result in
    form_more m c.args.message.now.close (DraftTells state b d → IsMoving caller.org (tables_of state b)) (DraftTells state a d → IsStepped m (tables_of state a)) (count_of a) (count_of b) (count_of d) c.judge_called.result (ap length calls.reads.changes)
    (λ moving told.
    let first = c.draft_laws.ensures.told_first message_changes request_gone (message_shown_beside (message_in c.args.message.now) (removals_of state data_table b)) a b d c.judge_called.ensures.drafts.makes.works told in
    let later = c.call_laws.ensures.told_then 0 e a b d calls first told in
    let same = c.call_laws.ensures.tables 0 e a b calls first in
    (caller, subst (FindsCaller (key_in m) (tables_of state a)) (c.in-Ok-Some.is ∙ ap Ok c.in-Ok-Some.field-0-is) (c.caller_of.ensures.finds first), subst (IsMoving caller.org) same (moving later)))
    c.judge_called.ensures.form

pub returns-in-Ok-None-clause-form : goal.returns-in-Ok-None-clause-form
returns-in-Ok-None-clause-form g c =
    let state = g.K.Keeper.state in
    let a = c.args.draft.now in
    let b = c.caller_of.new.draft in
    let m = message_in c.args.message.now in
    let same = ap length c.caller_of.ensures.calls.reads.changes in
    form_judged m c.args.message.now.close (DraftTells state a b → IsStepped m (tables_of state a)) (count_of a) (count_of b) false c.refuse_uncalled.result c.refuse_uncalled.ensures.form (λ is. absurd cc) (λ _. omega (arith, same))
