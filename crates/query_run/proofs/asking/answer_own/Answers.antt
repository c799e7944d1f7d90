use Rattle.std.proofs.Common.{◌≡◌, ◌+◌, ℕ, Ok, ap, arith, refl, subst, sym, w64, ◌∙◌}
use Rattle.std.proofs.lemmas.Int.{to_z-of_z}
use Rattle.query_exec.specs.Written.{most_shown}
use Rattle.access_user.specs.Granting.{FindsRights}
use Rattle.store_kv.specs.Draft.{removals_of, tables_of}
use Rattle.store_kv.specs.Laid.{removals}
use Rattle.store_kv.specs.State.{data_table}
use Rattle.store_abstraction.specs.Calls.{Calls, ended}
use Rattle.model.specs.Shown.{further_to, row_shown, shown_beside}
use Rattle.query_run.proofs.Named.{asked_by, object_later, rights_failed}
use Rattle.query_run.proofs.Wider.{wider_calls}
use Rattle.query_run.proofs.asking.answer_own.Goals as goal

pub returns-then-caller-clause-what : goal.returns-then-caller-clause-what
returns-then-caller-clause-what g c told p a is caller flat =
    let m = tables_of g.K.Keeper.state c.args.draft.now in
    c.flat.ensures.what told p a
    (asked_by c.args.layout.now _ _ c.args.query.now m m p a refl is (caller.admin ∙ c.if-caller.true) (caller.now ∙ sym (to_z-of_z w64 c.args.now c.ranges.now))) flat

pub returns-then-caller-clause-calls : goal.returns-then-caller-clause-calls
returns-then-caller-clause-calls g c =
    let state = g.K.Keeper.state in
    let x = c.args.draft.now in
    let before = removals_of state data_table x in
    wider_calls state c.draft_laws.ensures.reads_most (most_shown (0 + row_shown c.args.query.now) before) (shown_beside (further_to (Ok c.args.query.now)) before) (ended c.flat.result) x c.flat.new.draft (omega arith) c.flat.ensures.calls

pub returns-then-all_may_read-clause-what : goal.returns-then-all_may_read-clause-what
returns-then-all_may_read-clause-what g c told p a is caller flat =
    let m = tables_of g.K.Keeper.state c.args.draft.now in
    c.flat-then-all_may_read.ensures.what told p a
    (asked_by c.args.layout.now _ _ c.args.query.now m m p a refl is (sym c.all_may_read.ensures ∙ c.if-all_may_read.true) (caller.now ∙ sym (to_z-of_z w64 c.args.now c.ranges.now))) flat

pub returns-then-all_may_read-clause-calls : goal.returns-then-all_may_read-clause-calls
returns-then-all_may_read-clause-calls g c =
    let state = g.K.Keeper.state in
    let x = c.args.draft.now in
    let before = removals_of state data_table x in
    wider_calls state c.draft_laws.ensures.reads_most (most_shown (0 + row_shown c.args.query.now) before) (shown_beside (further_to (Ok c.args.query.now)) before) (ended c.flat-then-all_may_read.result) x c.flat-then-all_may_read.new.draft (omega arith) c.flat-then-all_may_read.ensures.calls

pub returns-in-Ok-clause-what : goal.returns-in-Ok-clause-what
returns-in-Ok-clause-what g c told p a is caller flat =
    let state = g.K.Keeper.state in
    let x = c.args.draft.now in
    let b = c.user_rights.new.draft in
    let d = c.answer_own_user.new.draft in
    let l = c.args.layout.now in
    let q = c.args.query.now in
    let most = shown_beside (further_to (Ok q)) (removals_of state data_table b) in
    let tell = c.draft_laws.ensures.both 0 most x b d c.user_rights.ensures.calls.reads c.answer_own_user.ensures.calls.reads told in
    let finds = subst (FindsRights l.org c.args.caller.now.user (tables_of state x)) c.in-Ok.is (c.user_rights.ensures.finds tell.0) in
    c.answer_own_user.ensures.what tell.1 p a (object_later l q (tables_of state x) (tables_of state b) p a tell.2 is)
    (finds p a.tenant a.user is.stands caller.user (caller.admin ∙ c.if-caller.false)) (caller.now ∙ sym (to_z-of_z w64 c.args.now c.ranges.now)) flat

pub returns-in-Ok-clause-calls : goal.returns-in-Ok-clause-calls
returns-in-Ok-clause-calls g c =
    let state = g.K.Keeper.state in
    let x = c.args.draft.now in
    let b = c.user_rights.new.draft in
    let d = c.answer_own_user.new.draft in
    let before = removals_of state data_table x in
    let between = removals_of state data_table b in
    let same : between ≡ before = ap (removals data_table) c.user_rights.ensures.calls.reads.changes in
    let further = further_to (Ok c.args.query.now) in
    let counted : 0 + shown_beside further between ≡ shown_beside further before = omega (arith, same) in
    subst (λ (n : ℕ). Calls state n (ended c.answer_own_user.result) x d) counted
    (c.call_laws.ensures.then 0 (shown_beside further between) (ended c.answer_own_user.result) x b d (subst (λ r. Calls state 0 (ended r) x b) c.in-Ok.is c.user_rights.ensures.calls) c.answer_own_user.ensures.calls)

pub returns-in-Err-clause-what : goal.returns-in-Err-clause-what
returns-in-Err-clause-what g c told p a is caller flat =
    let l = c.args.layout.now in
    let m = tables_of g.K.Keeper.state c.args.draft.now in
    rights_failed l.org c.args.caller.now.user a (g.F.QueryForm.answer c.args.form.now a c.args.query.now) p m c.in-Err.fail is.stands (subst (FindsRights l.org c.args.caller.now.user m) c.in-Err.is (c.user_rights.ensures.finds told))
