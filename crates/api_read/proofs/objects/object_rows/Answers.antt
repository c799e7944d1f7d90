use Rattle.std.proofs.Common.{arith}
use Rattle.store_kv.specs.Draft.{tables_of}
use Rattle.store_rows.specs.Rows.{object_form}
use Rattle.store_abstraction.proofs.LayoutReads.{objects_read}
use Rattle.store_abstraction.proofs.MetadataLists.{KeyLaws}
use Rattle.store_abstraction.proofs.Pages.{PageLaws}
use Rattle.store_abstraction.proofs.Called.{calls_of}
use Rattle.api_read.proofs.objects.object_rows.Goals as goal

pub returns-clause-finds : goal.returns-clause-finds
returns-clause-finds g c told =
    let m = tables_of g.K.Keeper.state c.args.draft.now in
    let keys : KeyLaws = record {
      under = c.table_laws.ensures.under;
      ends = c.table_laws.ensures.ends;
      compares = c.shape_laws.ensures.compared;
      begins = c.shape_laws.ensures.begins;
    } in
    let pages : PageLaws object_form = record { kept = c.listing_laws.ensures.kept; page = c.listing_laws.ensures.page } in
    objects_read keys c.local_laws.ensures.listed pages m c.args.org (omega arith) c.page_under.result (c.page_under.ensures.rows told)

pub returns-clause-calls : goal.returns-clause-calls
returns-clause-calls g c =
    let read = c.page_under.ensures in
    calls_of g.K.Keeper.state 0 c.args.draft.now c.page_under.new.draft c.page_under.result read.reads read.stays read.cause read.quiet
