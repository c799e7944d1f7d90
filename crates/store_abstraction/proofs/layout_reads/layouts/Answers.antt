use Rattle.std.proofs.Common.{subst, sym}
use Rattle.store_kv.specs.Draft.{tables_of}
use Rattle.store_kv.specs.Tables.{Tables}
use Rattle.store_abstraction.specs.inner.LayoutRows.{layouts_by}
use Rattle.store_abstraction.specs.Local.{FindsIn, StandsIn}
use Rattle.store_abstraction.proofs.LayoutReads.{layouts_found}
use Rattle.store_abstraction.proofs.layout_reads.layouts.Goals as goal

pub returns-clause-finds : goal.returns-clause-finds
returns-clause-finds g c told =
    let state = g.K.Keeper.state in
    let laws = c.call_laws.ensures in
    let a = c.args.draft.now in
    let b = c.change_row.new.draft in
    let d = c.objects_of.new.draft in
    let e = c.layouts_of_rows.new.draft in
    let org = c.args.org in
    let m = tables_of state a in
    let rows = c.in_ok-rows.rows.items in
    let change = c.in_ok-change.change in
    let to_d = laws.told_first 0 _ a d e c.layouts_of_rows.ensures.calls told in
    let to_b = laws.told_first 0 _ a b d c.objects_of.ensures.calls to_d in
    let from_b = laws.told_then 0 _ a b d c.change_row.ensures.calls to_b to_d in
    let on_b = laws.tables 0 _ a b c.change_row.ensures.calls to_b in
    let on_d = laws.tables 0 _ b d c.objects_of.ensures.calls from_b in
    let from_d = laws.told_then 0 _ b d e c.objects_of.ensures.calls from_b (laws.told_then 0 _ a b e c.change_row.ensures.calls to_b told) in
    layouts_found org m rows change c.layouts_of_rows.result
    (λ q t s. c.in_ok-rows.ensures.finds from_b q t (subst (λ (x : Tables). StandsIn org q x t) (sym on_b) s))
    (c.in_ok-change.ensures.finds to_b)
    (subst (λ (x : Tables). FindsIn org (layouts_by org rows change) x c.layouts_of_rows.result) on_b
    (subst (λ (x : Tables). FindsIn org (layouts_by org rows change) x c.layouts_of_rows.result) on_d (c.layouts_of_rows.ensures.finds from_d)))
