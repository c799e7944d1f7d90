use Rattle.std.proofs.Common.{◌+◌, arith, ap, subst, sym, Bool}
use Rattle.std.specs.Prelude.{Ok, Err}
use Rattle.retype_step.specs.Background.{step_changes, step_shown}
use Rattle.store_kv.specs.Draft.{removals_of, tables_of}
use Rattle.store_kv.specs.State.{data_table}
use Rattle.store_abstraction.specs.Calls.{ended}
use Rattle.store_abstraction.specs.Operations.{Drafts}
use Rattle.cmd_auth.specs.Judging.{JudgesCalled, beside, changes_behind, shown_behind}
use Rattle.cmd_auth.proofs.Behind.{drafts_failed, drafts_then, failed_so, judged_so}
use Rattle.cmd_auth.proofs.asking.answer_called.Goals as goal

pub returns-in-Ok-clause-what : goal.returns-in-Ok-clause-what
returns-in-Ok-clause-what g c told =
    let state = g.K.Keeper.state in
    let asked = c.args.asked.now in
    let a = c.args.draft.now in
    let b = c.step.new.draft in
    let d = c.judge-judged.new.draft in
    let made = c.in-Ok.made in
    let most = beside (g.A.Ask.shown asked) (removals_of state data_table b) in
    let first = c.draft_laws.ensures.told_first g.A.Ask.most 0 most a b d c.judge-judged.ensures.drafts.makes.works told in
    let later = c.draft_laws.ensures.told_then step_changes 0 (step_shown + removals_of state data_table a) a b d c.in-Ok.ensures.drafts.makes.works first told in
    subst (JudgesCalled (g.A.Ask.does asked) (g.A.Ask.refused asked) c.args.caller.now c.args.now (tables_of state a) (tables_of state d)) (sym c.behind_step.ensures)
    (judged_so c.tenant_laws.ensures.users (g.A.Ask.does asked) (g.A.Ask.refused asked) c.args.caller.now c.args.now (tables_of state a) (tables_of state b) (tables_of state d) made c.judge-judged.result
    (λ none. c.draft_laws.ensures.tables 0 a b (c.in-Ok.ensures.drafts.same (ap Ok none)) first)
    (λ same. c.draft_laws.ensures.tables most b d (c.judge-judged.ensures.drafts.same same) later)
    (c.in-Ok.ensures.what first) (c.judge-judged.ensures.what later))

pub returns-in-Err-clause-what : goal.returns-in-Err-clause-what
returns-in-Err-clause-what g c told =
    let state = g.K.Keeper.state in
    let asked = c.args.asked.now in
    failed_so c.tenant_laws.ensures.users (g.A.Ask.does asked) (g.A.Ask.refused asked) c.args.caller.now c.args.now (tables_of state c.args.draft.now) (tables_of state c.step.new.draft) c.in-Err.fail
    (c.in-Err.ensures.what told)

pub returns-in-Ok-clause-drafts : goal.returns-in-Ok-clause-drafts
returns-in-Ok-clause-drafts g c =
    let state = g.K.Keeper.state in
    let asked = c.args.asked.now in
    let a = c.args.draft.now in
    let b = c.step.new.draft in
    let d = c.judge-judged.new.draft in
    let shown = g.A.Ask.shown asked in
    let changes = g.A.Ask.most in
    let removed = removals_of state data_table a in
    let near = beside shown (removals_of state data_table b) in
    let most = shown_behind shown removed in
    let first = c.in-Ok.ensures.drafts in
    let second = c.judge-judged.ensures.drafts in
    let fewer = first.makes.works.removals in
    let works = c.draft_laws.ensures.works step_changes 0 (step_shown + removed) changes 0 near a b d first.makes.works second.makes.works in
    subst (λ r. Drafts state (changes_behind changes) 0 most r a d) (sym c.behind_step.ensures)
    (drafts_then state changes shown a b d c.in-Ok.made c.judge-judged.result first second
    (c.draft_laws.ensures.works_most (step_changes + changes) (0 + 0) ((step_shown + removed) + near) (changes_behind changes) 0 most a d (omega arith) (omega arith) (λ _. omega (arith, fewer)) works)
    (λ none same. c.draft_laws.ensures.reads_most (0 + near) most a d (λ _. omega (arith, fewer)) (c.draft_laws.ensures.reads 0 near a b d (first.same (ap Ok none)) (second.same same))))

pub returns-in-Err-clause-drafts : goal.returns-in-Err-clause-drafts
returns-in-Err-clause-drafts g c =
    let state = g.K.Keeper.state in
    let a = c.args.draft.now in
    let b = c.step.new.draft in
    let changes = g.A.Ask.most in
    let removed = removals_of state data_table a in
    let most = shown_behind (g.A.Ask.shown c.args.asked.now) removed in
    drafts_failed state (changes_behind changes) most a b c.in-Err.fail
    (c.call_laws.ensures.most step_changes 0 (step_shown + removed) (changes_behind changes) 0 most (ended {X = Bool} (Err c.in-Err.fail)) a b (omega arith) (omega arith) (λ _. omega arith) c.in-Err.ensures.drafts.makes)
