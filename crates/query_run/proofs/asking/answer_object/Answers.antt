use Rattle.std.proofs.Common.{◌≡◌, ◌+◌, ℕ, Ok, ap, arith, subst, sym, w64, ◌∙◌}
use Rattle.std.proofs.lemmas.Int.{to_z-of_z}
use Rattle.store_kv.specs.Draft.{removals_of, tables_of}
use Rattle.store_kv.specs.Laid.{removals}
use Rattle.store_kv.specs.State.{data_table}
use Rattle.store_abstraction.specs.Calls.{Calls, ended}
use Rattle.store_abstraction.specs.Layouts.{own_layouts}
use Rattle.store_abstraction.specs.Local.{FindsIn}
use Rattle.model.specs.Shown.{further_to, shown_beside}
use Rattle.query_run.proofs.Named.{caller_at, object_later, search_failed}
use Rattle.query_run.proofs.asking.answer_object.Goals as goal

pub returns-then-is_flat-clause-what : goal.returns-then-is_flat-clause-what
returns-then-is_flat-clause-what g c told p a is caller =
    c.answer_own.ensures.what told p a is (caller_at c.args.caller.now _ _ a (to_z-of_z w64 c.args.now c.ranges.now) caller) (sym c.is_flat.ensures ∙ c.if-is_flat.true)

pub returns-in-Ok-clause-what : goal.returns-in-Ok-clause-what
returns-in-Ok-clause-what g c told p a is caller =
    let state = g.K.Keeper.state in
    let x = c.args.draft.now in
    let b = c.layouts.new.draft in
    let d = c.answer_over.new.draft in
    let l = c.args.layout.now in
    let q = c.args.query.now in
    let most = shown_beside (further_to (Ok q)) (removals_of state data_table b) in
    let tell = c.draft_laws.ensures.both 0 most x b d c.layouts.ensures.calls.reads c.answer_over.ensures.calls.reads told in
    let finds = subst (FindsIn l.org (own_layouts l.org) (tables_of state x)) c.in-Ok.is (c.layouts.ensures.finds tell.0) in
    c.answer_over.ensures.what tell.1 p a (object_later l q (tables_of state x) (tables_of state b) p a tell.2 is)
    (c.as_slice.ensures ∙ finds p _ is.stands) (caller_at c.args.caller.now _ _ a (to_z-of_z w64 c.args.now c.ranges.now) caller)

pub returns-in-Ok-clause-calls : goal.returns-in-Ok-clause-calls
returns-in-Ok-clause-calls g c =
    let state = g.K.Keeper.state in
    let x = c.args.draft.now in
    let b = c.layouts.new.draft in
    let d = c.answer_over.new.draft in
    let before = removals_of state data_table x in
    let between = removals_of state data_table b in
    let same : between ≡ before = ap (removals data_table) c.layouts.ensures.calls.reads.changes in
    let further = further_to (Ok c.args.query.now) in
    let counted : 0 + shown_beside further between ≡ shown_beside further before = omega (arith, same) in
    subst (λ (n : ℕ). Calls state n (ended c.answer_over.result) x d) counted
    (c.call_laws.ensures.then 0 (shown_beside further between) (ended c.answer_over.result) x b d (subst (λ r. Calls state 0 (ended r) x b) c.in-Ok.is c.layouts.ensures.calls) c.answer_over.ensures.calls)

pub returns-in-Err-clause-what : goal.returns-in-Err-clause-what
returns-in-Err-clause-what g c told p a is caller =
    let l = c.args.layout.now in
    let m = tables_of g.K.Keeper.state c.args.draft.now in
    search_failed l.org (own_layouts l.org) a (g.F.QueryForm.answer c.args.form.now a c.args.query.now) p m c.in-Err.fail is.stands (subst (FindsIn l.org (own_layouts l.org) m) c.in-Err.is (c.layouts.ensures.finds told))
