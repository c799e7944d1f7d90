use Rattle.std.proofs.Common.{◌+◌, ◌*◌, List, ℕ, Some, arith, subst, sym}
use Rattle.std.specs.Prelude.{Ok}
use Rattle.std.proofs.lemmas.List.{take_all}
use Rattle.base_lemmas.proofs.Results.{err_from_parts as returned}
use Rattle.store_kv.specs.Tables.{Tables}
use Rattle.model.specs.Deletes.{without}
use Rattle.store_abstraction.specs.Calls.{done}
use Rattle.store_abstraction.specs.Local.{StandsIn}
use Rattle.record_index.specs.diff.Touched.{changes_at, touched_changes}
use Rattle.record_delete.specs.inner.Adding.{AddsThese}
use Rattle.record_delete.proofs.Adding.{adds_then, adds_wider}
use Rattle.record_delete.proofs.Doing.{IsGone, all_gone, at_place, one_more, failed_so}
use Rattle.record_delete.proofs.removing.remove_records.Goals as goal

pub loop-id-preserved : goal.loop-id-preserved
loop-id-preserved g c =
    let org = c.args.org in
    let ids = c.args.ids.now in
    let n = c.loop-id.id-index in
    let id = c.id-item.result in
    let a = c.args.draft.now in
    let b = c.loop-id.draft in
    let d = c.remove_record.new.draft in
    let old = c.args.changes.now.items in
    let mid = c.loop-id.changes.items in
    let new = c.remove_record.new.changes.items in
    let before = c.loop-id.invariant in
    let next = c.in_ok-remove_record.ensures in
    record {
      calls = c.call_laws.ensures.then n 1 done a b d before.calls next.calls;
      own = adds_wider org (145 * n + 145) (n + 1) (145 * (n + 1)) (n + 1) old new (omega arith) (omega arith) (adds_then org (145 * n) n 145 1 old mid new before.own next.own);
      adds = λ told q t u s are gone.
          let tells = c.draft_laws.ensures.both n 1 a b d before.calls.reads next.calls.reads told in
          let stands = subst (λ (m : Tables). StandsIn org q m (Some t)) (sym tells.2) s in
          let its = subst (IsGone t u) (sym c.id-item.is) (at_place (IsGone t u) ids n id c.loop-id-test.true gone) in
          one_more (changes_at org q q t u) ids n id c.loop-id-test.true c.id-item.is old mid new (before.adds tells.0 q t u s are gone) (next.adds tells.1 q t u stands are its.0 its.1);
    }

pub returns-in_err-remove_record-clause-adds : goal.returns-in_err-remove_record-clause-adds
returns-in_err-remove_record-clause-adds g c told q t now gone s are all =
    let org = c.args.org in
    let ids = c.args.ids.now in
    let n = c.loop-id.id-index in
    let u = without now gone t in
    let e = c.in_err-remove_record.field-0.0 in
    let next = c.in_err-remove_record.ensures in
    let tells = c.draft_laws.ensures.both n 1 c.args.draft.now c.loop-id.draft c.remove_record.new.draft c.loop-id.invariant.calls.reads next.calls.reads told in
    let stands = subst (λ (m : Tables). StandsIn org q m (Some t)) (sym tells.2) s in
    let its = subst (IsGone t u) (sym c.id-item.is) (at_place (IsGone t u) ids n c.id-item.result c.loop-id-test.true (all_gone now t gone ids all)) in
    failed_so (touched_changes org q q t u ids) c.args.changes.now.items c.remove_record.new.changes.items c.from_residual.result e (returned c.from_residual.result e c.from_residual.ensures) (next.adds tells.1 q t u stands are its.0 its.1)

pub returns-clause-adds : goal.returns-clause-adds
returns-clause-adds g c told q t now gone s are all =
    let org = c.args.org in
    let ids = c.args.ids.now in
    let u = without now gone t in
    subst (λ (is : List (List ℕ)). AddsThese {X = Unit {0}} (touched_changes org q q t u is) c.args.changes.now.items c.loop-id.changes.items (Ok tt)) (take_all c.loop-id.id-index ids c.loop-id-test.false)
    (c.loop-id.invariant.adds told q t u s are (all_gone now t gone ids all))
