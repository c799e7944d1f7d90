use Rattle.std.proofs.Common.{◌+◌, List, ℕ, Some, subst, sym, take, w64}
use Rattle.std.specs.Prelude.{Ok, ℤ}
use Rattle.std.proofs.lemmas.Int.{to_z-of_z}
use Rattle.std.proofs.lemmas.List.{take_all}
use Rattle.base_lemmas.proofs.Results.{err_from_parts as returned}
use Rattle.store_kv.specs.Tables.{Tables}
use Rattle.model.specs.Deletes.{without}
use Rattle.store_abstraction.specs.Calls.{done}
use Rattle.store_abstraction.specs.Local.{StandsIn}
use Rattle.record_index.specs.diff.Touched.{changes_at, touched_changes}
use Rattle.record_delete.specs.inner.Adding.{AddsThese}
use Rattle.record_delete.proofs.Adding.{clears_more}
use Rattle.record_delete.proofs.Doing.{LosesOne, at_place, one_more, failed_so}
use Rattle.record_delete.proofs.clearing.clear_records.Goals as goal

pub loop-id-preserved : goal.loop-id-preserved
loop-id-preserved g c =
    let org = c.args.org in
    let ids = c.args.ids.now in
    let n = c.loop-id.id-index in
    let id = c.id-item.result in
    let a = c.args.draft.now in
    let b = c.loop-id.draft in
    let d = c.clear_record.new.draft in
    let old = c.args.changes.now.items in
    let mid = c.loop-id.changes.items in
    let new = c.clear_record.new.changes.items in
    let before = c.loop-id.invariant in
    let next = c.in_ok-clear_record.ensures in
    record {
      calls = c.call_laws.ensures.then n 1 done a b d before.calls next.calls;
      own = clears_more org n old mid new before.own next.own;
      adds = λ told q t rs s are same lose.
          let tells = c.draft_laws.ensures.both n 1 a b d before.calls.reads next.calls.reads told in
          let stands = subst (λ (m : Tables). StandsIn org q m (Some t)) (sym tells.2) s in
          let its = subst (LosesOne t rs) (sym c.id-item.is) (at_place (LosesOne t rs) ids n id c.loop-id-test.true lose) in
          let now = to_z-of_z w64 c.args.now c.ranges.now in
          let first = subst (λ (z : ℤ). AddsThese {X = Unit {0}} (touched_changes org q q t (without z rs t) (take n ids)) old mid (Ok tt)) now (before.adds tells.0 q t rs s are same lose) in
          let then = subst (λ (z : ℤ). AddsThese {X = Unit {0}} (changes_at org q q t (without z rs t) id) mid new (Ok tt)) now (next.adds tells.1 q t rs its.0 stands are same its.1 its.2) in
          subst (λ (z : ℤ). AddsThese {X = Unit {0}} (touched_changes org q q t (without z rs t) (take (n + 1) ids)) old new (Ok tt)) (sym now)
          (one_more (changes_at org q q t (without c.args.now rs t)) ids n id c.loop-id-test.true c.id-item.is old mid new first then);
    }

pub returns-in_err-clear_record-clause-adds : goal.returns-in_err-clear_record-clause-adds
returns-in_err-clear_record-clause-adds g c told q t rs s are same lose =
    let org = c.args.org in
    let ids = c.args.ids.now in
    let n = c.loop-id.id-index in
    let e = c.in_err-clear_record.field-0.0 in
    let next = c.in_err-clear_record.ensures in
    let tells = c.draft_laws.ensures.both n 1 c.args.draft.now c.loop-id.draft c.clear_record.new.draft c.loop-id.invariant.calls.reads next.calls.reads told in
    let stands = subst (λ (m : Tables). StandsIn org q m (Some t)) (sym tells.2) s in
    let its = subst (LosesOne t rs) (sym c.id-item.is) (at_place (LosesOne t rs) ids n c.id-item.result c.loop-id-test.true lose) in
    failed_so (touched_changes org q q t (without c.args.now rs t) ids) c.args.changes.now.items c.clear_record.new.changes.items c.from_residual.result e (returned c.from_residual.result e c.from_residual.ensures) (next.adds tells.1 q t rs its.0 stands are same its.1 its.2)

pub returns-clause-adds : goal.returns-clause-adds
returns-clause-adds g c told q t rs s are same lose =
    let ids = c.args.ids.now in
    subst (λ (is : List (List ℕ)). AddsThese {X = Unit {0}} (touched_changes c.args.org q q t (without c.args.now rs t) is) c.args.changes.now.items c.loop-id.changes.items (Ok tt)) (take_all c.loop-id.id-index ids c.loop-id-test.false)
    (subst (λ (z : ℤ). AddsThese {X = Unit {0}} (touched_changes c.args.org q q t (without z rs t) (take c.loop-id.id-index ids)) c.args.changes.now.items c.loop-id.changes.items (Ok tt)) (to_z-of_z w64 c.args.now c.ranges.now)
    (c.loop-id.invariant.adds told q t rs s are same lose))
