use Rattle.std.proofs.Common.{arith}
use Rattle.store_kv.specs.Draft.{tables_of}
use Rattle.std.specs.FinMap as map
use Rattle.store_rows.specs.Keys.{Object, spell}
use Rattle.store_rows.specs.Rows.{object_form}
use Rattle.store_abstraction.proofs.Found.{key_found, row_finds}
use Rattle.store_abstraction.proofs.MetadataRows.{object_is_row, object_there}
use Rattle.store_abstraction.proofs.Places.{PrefixLaws}
use Rattle.store_abstraction.proofs.Called.{calls_of}
use Rattle.store_abstraction.proofs.rows.object_row.Goals as goal

pub returns-clause-finds : goal.returns-clause-finds
returns-clause-finds g c told =
    let m = tables_of g.K.Keeper.state c.args.draft.now in
    let org = c.args.org in
    let n = c.args.object in
    let laws : PrefixLaws = record { interval = c.key_laws.ensures.interval; unbounded = c.key_laws.ensures.unbounded; bytes = c.table_laws.ensures.bytes } in (
      row_finds laws c.key_laws.ensures.exact object_form org (omega arith) (org, n) (object_there org n) (object_is_row org n (omega arith) (omega arith)) c.row_laws.ensures.found m c.row_at.result (c.row_at.ensures.row told),
      key_found object_form (org, n) (map.get m (spell (Object org n))) c.row_at.result (c.row_at.ensures.row told),
    )

pub returns-clause-calls : goal.returns-clause-calls
returns-clause-calls g c =
    let read = c.row_at.ensures in
    calls_of g.K.Keeper.state 0 c.args.draft.now c.row_at.new.draft c.row_at.result read.reads read.stays read.cause read.quiet
