use Rattle.std.proofs.Common.{◌≡◌, ◌+◌, ℕ, None, Ok, Some, ap, arith, subst, sym, w64, ◌∙◌}
use Rattle.std.proofs.lemmas.Int.{to_z-of_z}
use Rattle.std.specs.Str.{chars}
use Rattle.store_kv.specs.Draft.{removals_of, tables_of}
use Rattle.store_kv.specs.Laid.{removals}
use Rattle.store_kv.specs.State.{data_table}
use Rattle.store_kv.specs.Tables.{Tables}
use Rattle.store_abstraction.specs.Calls.{Calls, ended}
use Rattle.store_abstraction.specs.Layouts.{own_layout_named}
use Rattle.store_abstraction.specs.Local.{FindsIn, StandsIn}
use Rattle.model.specs.Shown.{further_to, shown_beside}
use Rattle.query_run.proofs.Named.{caller_at, found_by, no_object, object_of, search_failed}
use Rattle.query_run.proofs.asking.answer_named.Goals as goal

pub returns-in-Ok-Some-clause-what : goal.returns-in-Ok-Some-clause-what
returns-in-Ok-Some-clause-what g c told p a s is =
    let state = g.K.Keeper.state in
    let x = c.args.draft.now in
    let b = c.layout_named.new.draft in
    let m = tables_of state x in
    let q = c.args.query.now in
    let l = c.in-Ok-Some.layout in
    let most = shown_beside (further_to (Ok q)) (removals_of state data_table b) in
    let tell = c.draft_laws.ensures.both 0 most x b c.answer_object.new.draft c.layout_named.ensures.calls.reads c.answer_object.ensures.calls.reads told in
    let there = found_by c.args.caller.now.org m _ q.tail.from c.layout_named.result (Some l) c.as_str.ensures.characters (c.in-Ok-Some.is ∙ ap Ok c.in-Ok-Some.field-0-is) (c.layout_named.ensures.finds tell.0) in
    c.answer_object.ensures.what tell.1 p a
    (object_of c.args.caller.now.org q (tables_of state b) p a l (subst (λ (t : Tables). StandsIn c.args.caller.now.org p t (Some a.tenant)) (sym tell.2) s)
    (subst (λ (t : Tables). FindsIn c.args.caller.now.org (own_layout_named c.args.caller.now.org q.tail.from) t (Ok (Some l))) (sym tell.2) there))
    (caller_at c.args.caller.now _ _ a (to_z-of_z w64 c.args.now c.ranges.now) is)

pub returns-in-Ok-Some-clause-calls : goal.returns-in-Ok-Some-clause-calls
returns-in-Ok-Some-clause-calls g c =
    let state = g.K.Keeper.state in
    let x = c.args.draft.now in
    let b = c.layout_named.new.draft in
    let d = c.answer_object.new.draft in
    let before = removals_of state data_table x in
    let between = removals_of state data_table b in
    let same : between ≡ before = ap (removals data_table) c.layout_named.ensures.calls.reads.changes in
    let further = further_to (Ok c.args.query.now) in
    let counted : 0 + shown_beside further between ≡ shown_beside further before = omega (arith, same) in
    subst (λ (n : ℕ). Calls state n (ended c.answer_object.result) x d) counted
    (c.call_laws.ensures.then 0 (shown_beside further between) (ended c.answer_object.result) x b d (subst (λ r. Calls state 0 (ended r) x b) c.in-Ok-Some.is c.layout_named.ensures.calls) c.answer_object.ensures.calls)

pub returns-in-Ok-None-clause-what : goal.returns-in-Ok-None-clause-what
returns-in-Ok-None-clause-what g c told p a s is =
    let m = tables_of g.K.Keeper.state c.args.draft.now in
    let q = c.args.query.now in
    let there = found_by c.args.caller.now.org m _ q.tail.from c.layout_named.result None c.as_str.ensures.characters (c.in-Ok-None.is ∙ ap Ok c.in-Ok-None.field-0-is) (c.layout_named.ensures.finds told) in
    c.without_object.ensures.what a (no_object c.args.caller.now.org a q p m s there)

pub returns-in-Err-clause-what : goal.returns-in-Err-clause-what
returns-in-Err-clause-what g c told p a s is =
    let m = tables_of g.K.Keeper.state c.args.draft.now in
    let value = own_layout_named c.args.caller.now.org (chars c.as_str.result.now) in
    search_failed c.args.caller.now.org value a (g.F.QueryForm.answer c.args.form.now a c.args.query.now) p m c.in-Err.fail s (subst (FindsIn c.args.caller.now.org value m) c.in-Err.is (c.layout_named.ensures.finds told))
