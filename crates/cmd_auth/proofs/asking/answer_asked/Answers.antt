use Rattle.std.proofs.Common.{◌∙◌, Ok, ap, subst}
use Rattle.store_kv.specs.Draft.{removals_of, tables_of}
use Rattle.store_kv.specs.State.{data_table}
use Rattle.store_kv.specs.Tables.{Tables}
use Rattle.model.specs.Callers.{named_by}
use Rattle.people_edit.specs.People.{FindsCaller}
use Rattle.store_abstraction.specs.Calls.{ended}
use Rattle.cmd_auth.specs.Judging.{JudgesCalled, changes_behind, shown_behind}
use Rattle.cmd_auth.proofs.Calling.{judged_called, judged_failed, judged_uncalled}
use Rattle.cmd_auth.proofs.asking.answer_asked.Goals as goal

pub returns-in-Ok-Some-clause-what : goal.returns-in-Ok-Some-clause-what
returns-in-Ok-Some-clause-what g c told =
    let state = g.K.Keeper.state in
    let asked = c.args.asked.now in
    let a = c.args.draft.now in
    let b = c.caller_named.new.draft in
    let d = c.answer_called.new.draft in
    let caller = c.in-Ok-Some.caller in
    let calls = c.caller_named.ensures.calls in
    let e = ended c.caller_named.result in
    let most = shown_behind (g.A.Ask.shown asked) (removals_of state data_table b) in
    let first = c.draft_laws.ensures.told_first (changes_behind g.A.Ask.most) 0 most a b d c.answer_called.ensures.drafts.makes.works told in
    let later = c.call_laws.ensures.told_then 0 e a b d calls first told in
    let same = c.call_laws.ensures.tables 0 e a b calls first in
    let key = named_by c.args.org.now c.args.user.now c.args.secret.now in
    judged_called (g.A.Ask.does asked) (g.A.Ask.refused asked) c.args.now (tables_of state a) (tables_of state d) key caller c.answer_called.result
    (subst (FindsCaller key (tables_of state a)) (c.in-Ok-Some.is ∙ ap Ok c.in-Ok-Some.field-0-is) (c.caller_named.ensures.finds first))
    (subst (λ (t : Tables). JudgesCalled (g.A.Ask.does asked) (g.A.Ask.refused asked) caller c.args.now t (tables_of state d) c.answer_called.result) same (c.answer_called.ensures.what later))

pub returns-in-Ok-None-clause-what : goal.returns-in-Ok-None-clause-what
returns-in-Ok-None-clause-what g c told =
    let state = g.K.Keeper.state in
    let asked = c.args.asked.now in
    let before = tables_of state c.args.draft.now in
    let key = named_by c.args.org.now c.args.user.now c.args.secret.now in
    judged_uncalled (g.A.Ask.does asked) (g.A.Ask.refused asked) c.args.now before (tables_of state c.caller_named.new.draft) key c.refuse.result
    (subst (FindsCaller key before) (c.in-Ok-None.is ∙ ap Ok c.in-Ok-None.field-0-is) (c.caller_named.ensures.finds told)) c.refuse.ensures

pub returns-in-Err-clause-what : goal.returns-in-Err-clause-what
returns-in-Err-clause-what g c told =
    let state = g.K.Keeper.state in
    let asked = c.args.asked.now in
    let before = tables_of state c.args.draft.now in
    let key = named_by c.args.org.now c.args.user.now c.args.secret.now in
    judged_failed (g.A.Ask.does asked) (g.A.Ask.refused asked) c.args.now before (tables_of state c.caller_named.new.draft) key c.in-Err.fail
    (subst (FindsCaller key before) c.in-Err.is (c.caller_named.ensures.finds told))
