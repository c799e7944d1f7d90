use Rattle.std.proofs.Common.{arith}
use Rattle.store_kv.specs.Draft.{tables_of}
use Rattle.store_rows.specs.Rows.{job_form}
use Rattle.store_abstraction.specs.Layouts.{own_change_row}
use Rattle.store_abstraction.proofs.Found.{found_same, row_finds, row_in_org}
use Rattle.store_abstraction.proofs.LayoutReads.{change_is}
use Rattle.store_abstraction.proofs.MetadataRows.{job_is_row, job_there}
use Rattle.store_abstraction.proofs.Places.{PrefixLaws}
use Rattle.store_abstraction.proofs.Called.{calls_of}
use Rattle.store_abstraction.proofs.layout_reads.change_row.Goals as goal

pub returns-clause-finds : goal.returns-clause-finds
returns-clause-finds g c told =
    let m = tables_of g.K.Keeper.state c.args.draft.now in
    let org = c.args.org in
    let laws : PrefixLaws = record { interval = c.key_laws.ensures.interval; unbounded = c.key_laws.ensures.unbounded; bytes = c.table_laws.ensures.bytes } in
    found_same org (row_in_org (job_there org)) (own_change_row org) m c.row_at.result (change_is org)
    (row_finds laws c.key_laws.ensures.exact job_form org (omega arith) org (job_there org) (job_is_row c.id_laws.ensures.made org (omega arith)) c.row_laws.ensures.found m c.row_at.result (c.row_at.ensures.row told))

pub returns-clause-calls : goal.returns-clause-calls
returns-clause-calls g c =
    let read = c.row_at.ensures in
    calls_of g.K.Keeper.state 0 c.args.draft.now c.row_at.new.draft c.row_at.result read.reads read.stays read.cause read.quiet
