use Rattle.std.proofs.Common.{◌≡◌, ◌≤◌, Bool, true, ◌+◌, arith, ap, subst, sym}
use Rattle.std.specs.Prelude.{Ok, Err}
use Rattle.retype_step.specs.Background.{StepsTo, step_changes, step_shown}
use Rattle.store_kv.specs.Draft.{DraftTells, count_of, removals_of, tables_of}
use Rattle.store_kv.specs.State.{data_table}
use Rattle.store_abstraction.specs.Calls.{ended}
use Rattle.store_abstraction.specs.Operations.{Drafts}
use Rattle.model.specs.Bounds.{request_changes, request_gone}
use Rattle.model_requests.specs.Routing.{routed}
use Rattle.server.specs.Own.{IsMoving, JudgesCaller, JudgesReply, asked_shown, message_changes, message_shown_beside}
use Rattle.server.specs.Requests.{message_in}
use Rattle.server.proofs.Stepping.{caller_failed, caller_judged, drafts_failed, drafts_then, form_judged, same_count, shown_more}
use Rattle.server.proofs.request.judge_called.Goals as goal

pub returns-in-Ok-clause-what : goal.returns-in-Ok-clause-what
returns-in-Ok-clause-what g c told =
    let state = g.K.Keeper.state in
    let caller = c.args.caller.now in
    let m = message_in c.args.message.now in
    let a = c.args.draft.now in
    let b = c.step.new.draft in
    let d = c.judge_request-judged.new.draft in
    let made = c.in-Ok.made in
    let first = c.draft_laws.ensures.told_first request_changes request_gone (asked_shown (message_in c.args.message.now) (removals_of state data_table b)) a b d c.judge_request-judged.ensures.drafts.makes.works told in
    let later = c.draft_laws.ensures.told_then step_changes 0 (step_shown + removals_of state data_table a) a b d c.in-Ok.ensures.drafts.makes.works first told in
    subst (JudgesCaller caller m c.args.message.now.close c.args.now (tables_of state a) (tables_of state d)) (sym c.after_step.ensures)
    (caller_judged c.tenant_laws.ensures.users caller m c.args.message.now.close c.args.now (tables_of state a) (tables_of state b) (tables_of state d) made c.judge_request-judged.result
    (λ none. c.draft_laws.ensures.tables 0 a b (c.in-Ok.ensures.drafts.same (ap Ok none)) first)
    (λ same. c.draft_laws.ensures.tables (asked_shown (message_in c.args.message.now) (removals_of state data_table b)) b d (c.judge_request-judged.ensures.drafts.same same) later)
    (c.in-Ok.ensures.what first) (c.judge_request-judged.ensures.what later))

pub returns-in-Err-clause-what : goal.returns-in-Err-clause-what
returns-in-Err-clause-what g c told =
    let state = g.K.Keeper.state in
    caller_failed c.tenant_laws.ensures.users c.args.caller.now (message_in c.args.message.now) c.args.message.now.close c.args.now (tables_of state c.args.draft.now) (tables_of state c.step.new.draft) c.in-Err.fail
    (c.in-Err.ensures.what told)

pub returns-in-Ok-clause-form : goal.returns-in-Ok-clause-form
returns-in-Ok-clause-form g c =
    let state = g.K.Keeper.state in
    let m = message_in c.args.message.now in
    let a = c.args.draft.now in
    let b = c.step.new.draft in
    let d = c.judge_request-judged.new.draft in
    let first = c.in-Ok.ensures.drafts in
    let second = c.judge_request-judged.ensures.drafts in
    let org = c.args.caller.now.org in
    let under_way : c.in-Ok.made ≡ true → DraftTells state a d → IsMoving org (tables_of state a)
    = λ is told q t s.
    let told_first = c.draft_laws.ensures.told_first request_changes request_gone (asked_shown (message_in c.args.message.now) (removals_of state data_table b)) a b d second.makes.works told in
    (subst (λ (y : Bool). StepsTo org t (tables_of state b) (Ok y)) is ((c.in-Ok.ensures.what told_first).stepped q t s)).0
    in
    subst (JudgesReply m c.args.message.now.close (DraftTells state a d → IsMoving org (tables_of state a)) (count_of a) (count_of d)) (sym c.after_step.ensures)
    (form_judged m c.args.message.now.close (DraftTells state a d → IsMoving org (tables_of state a)) (count_of a) (count_of d) c.in-Ok.made c.judge_request-judged.result c.judge_request-judged.ensures.form under_way
    (λ same. let few = first.makes.works.changes in let e = same_count state (message_in c.args.message.now) a b d c.in-Ok.made c.judge_request-judged.result first second same in omega (arith, few, e)))

pub returns-in-Ok-clause-drafts : goal.returns-in-Ok-clause-drafts
returns-in-Ok-clause-drafts g c =
    let state = g.K.Keeper.state in
    let a = c.args.draft.now in
    let b = c.step.new.draft in
    let d = c.judge_request-judged.new.draft in
    let removed = removals_of state data_table a in
    let beside = asked_shown (message_in c.args.message.now) (removals_of state data_table b) in
    let most = message_shown_beside (message_in c.args.message.now) removed in
    let first = c.in-Ok.ensures.drafts in
    let second = c.judge_request-judged.ensures.drafts in
    let m = message_in c.args.message.now in
    let fewer = first.makes.works.removals in
    let more : asked_shown m (removals_of state data_table b) ≤ asked_shown m removed = shown_more (routed m.method m.target) (removals_of state data_table b) removed (omega (arith, fewer)) in
    let works = c.draft_laws.ensures.works step_changes 0 (step_shown + removed) request_changes request_gone beside a b d first.makes.works second.makes.works in
    subst (λ r. Drafts state message_changes request_gone most r a d) (sym c.after_step.ensures)
    (drafts_then state (message_in c.args.message.now) a b d c.in-Ok.made c.judge_request-judged.result first second
    (c.draft_laws.ensures.works_most (step_changes + request_changes) (0 + request_gone) ((step_shown + removed) + beside) message_changes request_gone most a d (omega arith) (omega arith) (λ _. omega (arith, fewer, more)) works)
    (λ none same. c.draft_laws.ensures.reads_most (0 + beside) most a d (λ _. omega (arith, fewer, more)) (c.draft_laws.ensures.reads 0 beside a b d (first.same (ap Ok none)) (second.same same))))

pub returns-in-Err-clause-drafts : goal.returns-in-Err-clause-drafts
returns-in-Err-clause-drafts g c =
    let state = g.K.Keeper.state in
    let a = c.args.draft.now in
    let b = c.step.new.draft in
    let removed = removals_of state data_table a in
    drafts_failed state (message_in c.args.message.now) a b c.in-Err.fail
    (c.call_laws.ensures.most step_changes 0 (step_shown + removed) message_changes request_gone (message_shown_beside (message_in c.args.message.now) removed) (ended {X = Bool} (Err c.in-Err.fail)) a b (omega arith) (omega arith) (λ _. omega arith) c.in-Err.ensures.drafts.makes)
