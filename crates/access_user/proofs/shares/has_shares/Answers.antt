use Rattle.std.proofs.Common.{arith}
use Rattle.store_kv.specs.Draft.{tables_of}
use Rattle.record_target.proofs.PagedShares.{ReadLaws}
use Rattle.store_abstraction.proofs.Called.{calls_of}
use Rattle.access_user.proofs.ManyShares.{ends_alike, shares_read}
use Rattle.access_user.proofs.shares.has_shares.Goals as goal

pub returns-clause-finds : goal.returns-clause-finds
returns-clause-finds g c told =
    let m = tables_of g.K.Keeper.state c.args.draft.now in
    let laws : ReadLaws = record {
      keys = record { under = c.table_laws.ensures.under; compares = c.shape_laws.ensures.compared; begins = c.shape_laws.ensures.begins; makes = c.id_laws.ensures.made; same = c.principal_laws.ensures.same };
      pages = record { kept = c.listing_laws.ensures.kept; page = c.listing_laws.ensures.page };
      ends = c.table_laws.ensures.ends;
      under = c.local_laws.ensures.under;
      listed = c.local_laws.ensures.listed;
    } in
    shares_read laws m c.args.org (omega arith) c.page_under.result (c.page_under.ensures.rows told) c.is_some_row.result c.is_some_row.ensures

pub returns-clause-calls : goal.returns-clause-calls
returns-clause-calls g c =
    let read = c.page_under.ensures in
    ends_alike g.K.Keeper.state c.args.draft.now c.page_under.new.draft c.page_under.result c.is_some_row.result c.is_some_row.ensures
    (calls_of g.K.Keeper.state 0 c.args.draft.now c.page_under.new.draft c.page_under.result read.reads read.stays read.cause read.quiet)
