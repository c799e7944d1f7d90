use Rattle.std.proofs.Common.{◌≡◌, ◌+◌, ℕ, Ok, ap, arith, refl, subst, sym, w64, ◌∙◌}
use Rattle.std.proofs.lemmas.Int.{to_z-of_z}
use Rattle.query_exec.specs.Written.{most_shown}
use Rattle.access_user.specs.Granting.{FindsRights}
use Rattle.store_kv.specs.Draft.{removals_of, tables_of}
use Rattle.store_kv.specs.Laid.{removals}
use Rattle.store_kv.specs.State.{data_table}
use Rattle.store_abstraction.specs.Calls.{Calls, ended}
use Rattle.model.specs.Shown.{further_to, row_shown, shown_beside}
use Rattle.query_run.proofs.Named.{asked_by, asked_over, object_later, rights_failed}
use Rattle.query_run.proofs.Wider.{wider_calls}
use Rattle.query_run.proofs.asking.answer_over.Goals as goal

pub returns-then-caller-clause-what : goal.returns-then-caller-clause-what
returns-then-caller-clause-what g c told p a is layouts caller =
    let m = tables_of g.K.Keeper.state c.args.draft.now in
    c.related.ensures.what told p a
    (asked_over c.args.layout.now _ _ _ c.args.query.now _ p a
    (asked_by c.args.layout.now _ _ c.args.query.now m m p a refl is (caller.admin ∙ c.if-caller.true) (caller.now ∙ sym (to_z-of_z w64 c.args.now c.ranges.now)))
    layouts (caller.admin ∙ c.if-caller.true))

pub returns-then-caller-clause-calls : goal.returns-then-caller-clause-calls
returns-then-caller-clause-calls g c =
    let state = g.K.Keeper.state in
    let x = c.args.draft.now in
    let before = removals_of state data_table x in
    wider_calls state c.draft_laws.ensures.reads_most (most_shown (0 + row_shown c.args.query.now) before) (shown_beside (further_to (Ok c.args.query.now)) before) (ended c.related.result) x c.related.new.draft (omega arith) c.related.ensures.calls

pub returns-in-Ok-clause-what : goal.returns-in-Ok-clause-what
returns-in-Ok-clause-what g c told p a is layouts caller =
    let state = g.K.Keeper.state in
    let x = c.args.draft.now in
    let b = c.user_rights.new.draft in
    let d = c.answer_user.new.draft in
    let l = c.args.layout.now in
    let q = c.args.query.now in
    let most = shown_beside (further_to (Ok q)) (removals_of state data_table b) in
    let tell = c.draft_laws.ensures.both 0 most x b d c.user_rights.ensures.calls.reads c.answer_user.ensures.calls.reads told in
    let finds = subst (FindsRights l.org c.args.caller.now.user (tables_of state x)) c.in-Ok.is (c.user_rights.ensures.finds tell.0) in
    c.answer_user.ensures.what tell.1 p a (object_later l q (tables_of state x) (tables_of state b) p a tell.2 is) layouts
    (finds p a.tenant a.user is.stands caller.user (caller.admin ∙ c.if-caller.false)) (caller.now ∙ sym (to_z-of_z w64 c.args.now c.ranges.now))

pub returns-in-Ok-clause-calls : goal.returns-in-Ok-clause-calls
returns-in-Ok-clause-calls g c =
    let state = g.K.Keeper.state in
    let x = c.args.draft.now in
    let b = c.user_rights.new.draft in
    let d = c.answer_user.new.draft in
    let before = removals_of state data_table x in
    let between = removals_of state data_table b in
    let same : between ≡ before = ap (removals data_table) c.user_rights.ensures.calls.reads.changes in
    let further = further_to (Ok c.args.query.now) in
    let counted : 0 + shown_beside further between ≡ shown_beside further before = omega (arith, same) in
    subst (λ (n : ℕ). Calls state n (ended c.answer_user.result) x d) counted
    (c.call_laws.ensures.then 0 (shown_beside further between) (ended c.answer_user.result) x b d (subst (λ r. Calls state 0 (ended r) x b) c.in-Ok.is c.user_rights.ensures.calls) c.answer_user.ensures.calls)

pub returns-in-Err-clause-what : goal.returns-in-Err-clause-what
returns-in-Err-clause-what g c told p a is layouts caller =
    let l = c.args.layout.now in
    let m = tables_of g.K.Keeper.state c.args.draft.now in
    rights_failed l.org c.args.caller.now.user a (g.F.QueryForm.answer c.args.form.now a c.args.query.now) p m c.in-Err.fail is.stands (subst (FindsRights l.org c.args.caller.now.user m) c.in-Err.is (c.user_rights.ensures.finds told))
