use Rattle.std.proofs.Common.{◌∙◌, Err, ap, arith, subst, sym}
use Rattle.std.proofs.lemmas.Result.{err_from_is_err_and}
use Rattle.store_kv.specs.Draft.{tables_of}
use Rattle.store_kv.specs.Tables.{Tables}
use Rattle.store_rows.specs.Rows.{object_form}
use Rattle.store_abstraction.specs.inner.LayoutRows.{layout_by_found}
use Rattle.store_abstraction.specs.Layouts.{own_layout}
use Rattle.store_abstraction.specs.Local.{FindsIn}
use Rattle.store_abstraction.proofs.Found.{row_finds, row_in_org}
use Rattle.store_abstraction.proofs.LayoutReads.{at_found, err_again}
use Rattle.store_abstraction.proofs.MetadataRows.{object_is_row, object_there}
use Rattle.store_abstraction.proofs.Places.{PrefixLaws}
use Rattle.store_abstraction.proofs.layout_reads.layout_at.Goals as goal

pub returns-in_err-row-clause-finds : goal.returns-in_err-row-clause-finds
returns-in_err-row-clause-finds g c told =
    let m = tables_of g.K.Keeper.state c.args.draft.now in
    let org = c.args.org in
    let n = c.args.object in
    let laws : PrefixLaws = record { interval = c.key_laws.ensures.interval; unbounded = c.key_laws.ensures.unbounded; bytes = c.table_laws.ensures.bytes } in
    let h = row_finds laws c.key_laws.ensures.exact object_form org (omega arith) (org, n) (object_there org n) (object_is_row org n (omega arith) (omega arith)) c.row_laws.ensures.found m c.row_at.result (c.row_at.ensures.row told) in
    let p = err_from_is_err_and c.from_residual.result c.from_residual.ensures.1 in
    subst (FindsIn org (own_layout org n) m) (sym (p.1 ∙ ap Err p.2))
    (err_again org (row_in_org (object_there org n)) (own_layout org n) m c.in_err-row.field-0.0 (subst (FindsIn org (row_in_org (object_there org n)) m) c.in_err-row.was h))

pub returns-clause-finds : goal.returns-clause-finds
returns-clause-finds g c told =
    let a = c.args.draft.now in
    let b = c.row_at.new.draft in
    let d = c.layout_of_found.new.draft in
    let m = tables_of g.K.Keeper.state a in
    let org = c.args.org in
    let n = c.args.object in
    let laws : PrefixLaws = record { interval = c.key_laws.ensures.interval; unbounded = c.key_laws.ensures.unbounded; bytes = c.table_laws.ensures.bytes } in
    let tell = c.draft_laws.ensures.both 0 0 a b d c.row_at.ensures.reads c.layout_of_found.ensures.calls.reads told in
    let h = row_finds laws c.key_laws.ensures.exact object_form org (omega arith) (org, n) (object_there org n) (object_is_row org n (omega arith) (omega arith)) c.row_laws.ensures.found m c.row_at.result (c.row_at.ensures.row tell.0) in
    at_found org n m c.in_ok-row.row c.layout_of_found.result
    (subst (FindsIn org (row_in_org (object_there org n)) m) c.in_ok-row.was h)
    (subst (λ (t : Tables). FindsIn org (layout_by_found org c.in_ok-row.row) t c.layout_of_found.result) tell.2 (c.layout_of_found.ensures.finds tell.1))
