use Rattle.std.proofs.Common.{◌∙◌, Err, ap, arith, subst, sym}
use Rattle.std.proofs.lemmas.Result.{err_from_is_err_and}
use Rattle.store_kv.specs.Draft.{tables_of}
use Rattle.store_rows.specs.Rows.{field_form}
use Rattle.store_abstraction.specs.inner.LayoutRows.{ListsIn, field_rows, places_in}
use Rattle.store_abstraction.specs.Local.{FindsIn}
use Rattle.store_abstraction.proofs.LayoutReads.{fields_read, list_failed, places_found}
use Rattle.store_abstraction.proofs.MetadataLists.{KeyLaws}
use Rattle.store_abstraction.proofs.Pages.{PageLaws}
use Rattle.store_abstraction.proofs.layout_reads.fields_of.Goals as goal

pub returns-in_err-rows-clause-finds : goal.returns-in_err-rows-clause-finds
returns-in_err-rows-clause-finds g c told =
    let m = tables_of g.K.Keeper.state c.args.draft.now in
    let org = c.args.org in
    let n = c.args.object in
    let keys : KeyLaws = record {
      under = c.table_laws.ensures.under;
      ends = c.table_laws.ensures.ends;
      compares = c.shape_laws.ensures.compared;
      begins = c.shape_laws.ensures.begins;
    } in
    let pages : PageLaws field_form = record { kept = c.listing_laws.ensures.kept; page = c.listing_laws.ensures.page } in
    let read = fields_read keys c.local_laws.ensures.listed pages m org n (omega arith) (omega arith) c.page_under.result (c.page_under.ensures.rows told) in
    let p = err_from_is_err_and c.from_residual.result c.from_residual.ensures.1 in
    subst (FindsIn org (places_in n) m) (sym (p.1 ∙ ap Err p.2)) (list_failed org (field_rows org n) (places_in n) m c.page_under.result c.in_err-rows.field-0.0 c.in_err-rows.was read)

pub returns-clause-finds : goal.returns-clause-finds
returns-clause-finds g c told =
    let m = tables_of g.K.Keeper.state c.args.draft.now in
    let org = c.args.org in
    let n = c.args.object in
    let keys : KeyLaws = record {
      under = c.table_laws.ensures.under;
      ends = c.table_laws.ensures.ends;
      compares = c.shape_laws.ensures.compared;
      begins = c.shape_laws.ensures.begins;
    } in
    let pages : PageLaws field_form = record { kept = c.listing_laws.ensures.kept; page = c.listing_laws.ensures.page } in
    let read = fields_read keys c.local_laws.ensures.listed pages m org n (omega arith) (omega arith) c.page_under.result (c.page_under.ensures.rows told) in
    places_found org n m c.in_ok-rows.rows.items c.in_ok-places_of.field-0 c.in_ok-places_of.ensures (subst (ListsIn org (field_rows org n) m) c.in_ok-rows.was read)
