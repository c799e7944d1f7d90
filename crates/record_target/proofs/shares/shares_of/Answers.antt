use Rattle.std.proofs.Common.{subst, sym}
use Rattle.store_kv.specs.Draft.{tables_of}
use Rattle.record_target.specs.Shares.{ListsShares}
use Rattle.record_target.proofs.PagedShares.{ReadLaws, lists_shares}
use Rattle.record_target.proofs.shares.shares_of.Goals as goal

pub returns-clause-lists : goal.returns-clause-lists
returns-clause-lists g c told q t s =
    let m = tables_of g.K.Keeper.state c.args.draft.now in
    let laws : ReadLaws = record {
      keys = record { under = c.table_laws.ensures.under; compares = c.shape_laws.ensures.compared; begins = c.shape_laws.ensures.begins; makes = c.id_laws.ensures.made; same = c.principal_laws.ensures.same };
      pages = record { kept = c.listing_laws.ensures.kept; page = c.listing_laws.ensures.page };
      ends = c.table_laws.ensures.ends;
      under = c.local_laws.ensures.under;
      listed = c.local_laws.ensures.listed;
    } in
    subst (ListsShares c.args.org t c.args.id.now) (sym c.at_most_all.ensures)
    (lists_shares laws m c.args.org c.page_of.ensures.fits.0 c.args.id.now c.page_of.ensures.fits.1 c.page_of.result (c.page_of.ensures.rows told) q t s)
