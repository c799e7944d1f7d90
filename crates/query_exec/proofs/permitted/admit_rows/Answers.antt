use Rattle.std.proofs.Common.{◌≡◌, ◌+◌, ◌*◌, List, [], arith, length, refl, subst, sym}
use Rattle.std.specs.Vec.Iter.{into_iter_items}
use Rattle.base_lemmas.proofs.Lists.{nil_from_no_length as empty_of}
use Rattle.base_lemmas.proofs.Results.{err_from_IsErrAnd as returned}
use Rattle.store_kv.specs.Draft.{tables_of}
use Rattle.store_kv.specs.declared.keeper.KeptRow.{KeptRow}
use Rattle.model.specs.Paths.{Asked}
use Rattle.store_abstraction.specs.Calls.{Calls, done, ended, ended_by}
use Rattle.query_exec.specs.inner.Judging.{Spells, judging}
use Rattle.query_exec.specs.inner.Permitted.{AdmitsRows, GathersPicked}
use Rattle.query_exec.proofs.Passing.{passed, passed_calls, passes_first, passes_next, stops_calls}
use Rattle.query_exec.proofs.Permitting.{Admitting, admits_failed, admits_more}
use Rattle.query_exec.proofs.Sorting.{gathers_nothing}
use Rattle.query_exec.specs.inner.Judging.{IsOf}
use Rattle.query_exec.proofs.permitted.admit_rows.Goals as goal

pub loop-row-init : goal.loop-row-init
loop-row-init g c =
    let state = g.K.Keeper.state in
    let l = c.args.layout.now in
    let a = c.args.draft.now in
    let relatives = c.args.relatives.now in
    let sees = g.S.Sight.sees c.args.sight.now l in
    let j = judging sees (g.L.Relatives.whose relatives l.org) (g.L.Relatives.parents relatives) (g.P.Keeps.keep c.args.keeps.now) (g.R.Ranks.ranked c.args.ranks.now) in
    let each = g.S.Sight.shown + g.L.Relatives.parents_shown relatives in
    let P = λ (w : Asked). Spells l in
    let rows = c.args.rows.items in
    let old = c.args.kept.now.items in
    let same : rows ≡ into_iter_items c.into_iter-row-iterator.result = cc in
    subst (λ (left : List KeptRow). Admitting state l j each rows left old old a a) same
    (record {
      way = passes_first state l j.who P each rows (GathersPicked l j old old) a (c.call_laws.ensures.none done a refl) (λ w. gathers_nothing (IsOf l (j.parents w)) (j.rank w) old);
      sized = omega arith;
    })

pub loop-row-preserved : goal.loop-row-preserved
loop-row-preserved g c =
    let state = g.K.Keeper.state in
    let l = c.args.layout.now in
    let a = c.args.draft.now in
    let relatives = c.args.relatives.now in
    let sees = g.S.Sight.sees c.args.sight.now l in
    let j = judging sees (g.L.Relatives.whose relatives l.org) (g.L.Relatives.parents relatives) (g.P.Keeps.keep c.args.keeps.now) (g.R.Ranks.ranked c.args.ranks.now) in
    let each = g.S.Sight.shown + g.L.Relatives.parents_shown relatives in
    let P = λ (w : Asked). Spells l in
    let rows = c.args.rows.items in
    let old = c.args.kept.now.items in
    let b = c.loop-row.draft in
    let kept = c.loop-row.kept.items in
    let Q = GathersPicked l j old kept in
    let more = into_iter_items c.next.new.self in
    let before = subst (λ (left : List KeptRow). Admitting state l j each rows left old kept a b) c.in-Some.ensures.steps.0 c.loop-row.invariant in
    let d = c.admit_row.new.draft in
    let new = c.admit_row.new.kept.items in
    record {
      way = passes_next state l j.who P each c.draft_laws.ensures.both c.call_laws.ensures.then rows more Q c.in-Some.row a b d before.way
          (GathersPicked l j old new) c.in_ok-admit_row.ensures.calls
          (λ tell q w s h its r has made seen goes. admits_more state l j each old kept new w r (c.in_ok-admit_row.ensures.admits tell q w s h its r has made) seen goes);
      sized = omega (arith, before.sized, c.admit_row.ensures.sized);
    }

pub returns-in_err-admit_row-clause-admits : goal.returns-in_err-admit_row-clause-admits
returns-in_err-admit_row-clause-admits g c told =
    let state = g.K.Keeper.state in
    let l = c.args.layout.now in
    let a = c.args.draft.now in
    let relatives = c.args.relatives.now in
    let sees = g.S.Sight.sees c.args.sight.now l in
    let j = judging sees (g.L.Relatives.whose relatives l.org) (g.L.Relatives.parents relatives) (g.P.Keeps.keep c.args.keeps.now) (g.R.Ranks.ranked c.args.ranks.now) in
    let each = g.S.Sight.shown + g.L.Relatives.parents_shown relatives in
    let P = λ (w : Asked). Spells l in
    let rows = c.args.rows.items in
    let old = c.args.kept.now.items in
    let b = c.loop-row.draft in
    let kept = c.loop-row.kept.items in
    let Q = GathersPicked l j old kept in
    let more = into_iter_items c.next.new.self in
    let before = subst (λ (left : List KeptRow). Admitting state l j each rows left old kept a b) c.in-Some.ensures.steps.0 c.loop-row.invariant in
    let d = c.admit_row.new.draft in
    let new = c.admit_row.new.kept.items in
    let fail = c.in_err-admit_row.field-0.0 in
    subst (AdmitsRows l j rows old new (tables_of state a)) (sym (returned c.from_residual.result fail c.from_residual.ensures.1))
    (admits_failed state l j each c.draft_laws.ensures.both c.call_laws.ensures.then rows more old kept new c.in-Some.row a b d before.way fail
    c.in_err-admit_row.ensures.calls c.in_err-admit_row.ensures.admits told)

pub returns-in_err-admit_row-clause-calls : goal.returns-in_err-admit_row-clause-calls
returns-in_err-admit_row-clause-calls g c =
    let state = g.K.Keeper.state in
    let l = c.args.layout.now in
    let a = c.args.draft.now in
    let relatives = c.args.relatives.now in
    let sees = g.S.Sight.sees c.args.sight.now l in
    let j = judging sees (g.L.Relatives.whose relatives l.org) (g.L.Relatives.parents relatives) (g.P.Keeps.keep c.args.keeps.now) (g.R.Ranks.ranked c.args.ranks.now) in
    let each = g.S.Sight.shown + g.L.Relatives.parents_shown relatives in
    let P = λ (w : Asked). Spells l in
    let rows = c.args.rows.items in
    let old = c.args.kept.now.items in
    let b = c.loop-row.draft in
    let kept = c.loop-row.kept.items in
    let Q = GathersPicked l j old kept in
    let more = into_iter_items c.next.new.self in
    let before = subst (λ (left : List KeptRow). Admitting state l j each rows left old kept a b) c.in-Some.ensures.steps.0 c.loop-row.invariant in
    let d = c.admit_row.new.draft in
    let new = c.admit_row.new.kept.items in
    let fail = c.in_err-admit_row.field-0.0 in
    subst (λ r. Calls state (each * length rows) (ended r) a d) (sym (returned c.from_residual.result fail c.from_residual.ensures.1))
    (stops_calls state l j.who P each c.draft_laws.ensures.both c.call_laws.ensures.then rows more Q c.in-Some.row a b d before.way (ended_by fail)
    c.in_err-admit_row.ensures.calls c.draft_laws.ensures.reads_most)

pub returns-clause-admits : goal.returns-clause-admits
returns-clause-admits g c told =
    let state = g.K.Keeper.state in
    let l = c.args.layout.now in
    let a = c.args.draft.now in
    let relatives = c.args.relatives.now in
    let sees = g.S.Sight.sees c.args.sight.now l in
    let j = judging sees (g.L.Relatives.whose relatives l.org) (g.L.Relatives.parents relatives) (g.P.Keeps.keep c.args.keeps.now) (g.R.Ranks.ranked c.args.ranks.now) in
    let each = g.S.Sight.shown + g.L.Relatives.parents_shown relatives in
    let P = λ (w : Asked). Spells l in
    let rows = c.args.rows.items in
    let old = c.args.kept.now.items in
    let b = c.loop-row.draft in
    let kept = c.loop-row.kept.items in
    let Q = GathersPicked l j old kept in
    let none : into_iter_items c.loop-row.row-iterator ≡ [] = empty_of (into_iter_items c.loop-row.row-iterator) (omega (arith, c.in-None.ensures.steps.0, c.loop-row.row-iterator.rest.ok)) in
    let after = subst (λ (left : List KeptRow). Admitting state l j each rows left old kept a b) none c.loop-row.invariant in
    passed state l j.who P each rows Q a b after.way told

pub returns-clause-sized : goal.returns-clause-sized
returns-clause-sized g c =
    let state = g.K.Keeper.state in
    let l = c.args.layout.now in
    let a = c.args.draft.now in
    let relatives = c.args.relatives.now in
    let sees = g.S.Sight.sees c.args.sight.now l in
    let j = judging sees (g.L.Relatives.whose relatives l.org) (g.L.Relatives.parents relatives) (g.P.Keeps.keep c.args.keeps.now) (g.R.Ranks.ranked c.args.ranks.now) in
    let each = g.S.Sight.shown + g.L.Relatives.parents_shown relatives in
    let P = λ (w : Asked). Spells l in
    let rows = c.args.rows.items in
    let old = c.args.kept.now.items in
    let b = c.loop-row.draft in
    let kept = c.loop-row.kept.items in
    let Q = GathersPicked l j old kept in
    let none : into_iter_items c.loop-row.row-iterator ≡ [] = empty_of (into_iter_items c.loop-row.row-iterator) (omega (arith, c.in-None.ensures.steps.0, c.loop-row.row-iterator.rest.ok)) in
    let after = subst (λ (left : List KeptRow). Admitting state l j each rows left old kept a b) none c.loop-row.invariant in
    omega (arith, after.sized)

pub returns-clause-calls : goal.returns-clause-calls
returns-clause-calls g c =
    let state = g.K.Keeper.state in
    let l = c.args.layout.now in
    let a = c.args.draft.now in
    let relatives = c.args.relatives.now in
    let sees = g.S.Sight.sees c.args.sight.now l in
    let j = judging sees (g.L.Relatives.whose relatives l.org) (g.L.Relatives.parents relatives) (g.P.Keeps.keep c.args.keeps.now) (g.R.Ranks.ranked c.args.ranks.now) in
    let each = g.S.Sight.shown + g.L.Relatives.parents_shown relatives in
    let P = λ (w : Asked). Spells l in
    let rows = c.args.rows.items in
    let old = c.args.kept.now.items in
    let b = c.loop-row.draft in
    let kept = c.loop-row.kept.items in
    let Q = GathersPicked l j old kept in
    let none : into_iter_items c.loop-row.row-iterator ≡ [] = empty_of (into_iter_items c.loop-row.row-iterator) (omega (arith, c.in-None.ensures.steps.0, c.loop-row.row-iterator.rest.ok)) in
    let after = subst (λ (left : List KeptRow). Admitting state l j each rows left old kept a b) none c.loop-row.invariant in
    passed_calls state l j.who P each rows [] Q a b after.way c.draft_laws.ensures.reads_most
