use Rattle.std.proofs.Common.{◌≡◌, ◌+◌, Ok, ap, arith, subst, sym, w64, ◌∙◌}
use Rattle.std.proofs.lemmas.Int.{to_z-of_z}
use Rattle.query_exec.specs.Written.{most_shown}
use Rattle.access_user.specs.Sights.{FindsSight}
use Rattle.store_kv.specs.Draft.{removals_of, tables_of}
use Rattle.store_kv.specs.Laid.{removals}
use Rattle.store_kv.specs.State.{data_table}
use Rattle.store_abstraction.specs.Calls.{Calls, ended}
use Rattle.model.specs.Shown.{further_to, row_shown, shown_beside}
use Rattle.query_run.proofs.Named.{asked_by, asked_over, layout_there_is, sight_failed}
use Rattle.query_run.proofs.Wider.{wider_calls}
use Rattle.query_run.proofs.asking.answer_user.Goals as goal

pub returns-in-Ok-clause-what : goal.returns-in-Ok-clause-what
returns-in-Ok-clause-what g c told p a is layouts rights now =
    let state = g.K.Keeper.state in
    let x = c.args.draft.now in
    let b = c.sight_of.new.draft in
    let d = c.related.new.draft in
    let l = c.args.layout.now in
    let q = c.args.query.now in
    let most = most_shown (3 + row_shown c.args.query.now) (removals_of state data_table b) in
    let tell = c.draft_laws.ensures.both 0 most x b d c.sight_of.ensures.calls.reads c.related.ensures.calls.reads told in
    let finds = subst (FindsSight c.args.rights.now l (tables_of state x)) c.in-Ok.is (c.sight_of.ensures.finds tell.0) in
    let its = layout_there_is c.object_laws.ensures.named l q (tables_of state x) p a is in
    c.related.ensures.what tell.1 p a
    (asked_over l _ _ _ q _ p a (asked_by l _ _ q (tables_of state x) (tables_of state b) p a tell.2 is (finds p a.tenant a.user is.stands its rights) (now ∙ sym (to_z-of_z w64 c.args.now c.ranges.now)))
    layouts rights)

pub returns-in-Ok-clause-calls : goal.returns-in-Ok-clause-calls
returns-in-Ok-clause-calls g c =
    let state = g.K.Keeper.state in
    let x = c.args.draft.now in
    let b = c.sight_of.new.draft in
    let d = c.related.new.draft in
    let before = removals_of state data_table x in
    let between = removals_of state data_table b in
    let same : between ≡ before = ap (removals data_table) c.sight_of.ensures.calls.reads.changes in
    let most = shown_beside (further_to (Ok c.args.query.now)) before in
    wider_calls state c.draft_laws.ensures.reads_most (0 + most_shown (3 + row_shown c.args.query.now) between) most (ended c.related.result) x d (omega (arith, same))
    (c.call_laws.ensures.then 0 (most_shown (3 + row_shown c.args.query.now) between) (ended c.related.result) x b d (subst (λ r. Calls state 0 (ended r) x b) c.in-Ok.is c.sight_of.ensures.calls) c.related.ensures.calls)

pub returns-in-Err-clause-what : goal.returns-in-Err-clause-what
returns-in-Err-clause-what g c told p a is layouts rights now =
    let state = g.K.Keeper.state in
    let l = c.args.layout.now in
    let m = tables_of state c.args.draft.now in
    let its = layout_there_is c.object_laws.ensures.named l c.args.query.now m p a is in
    sight_failed c.args.rights.now l a (g.F.QueryForm.answer c.args.form.now a c.args.query.now) p m c.in-Err.fail is.stands its rights (subst (FindsSight c.args.rights.now l m) c.in-Err.is (c.sight_of.ensures.finds told))
