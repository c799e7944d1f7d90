use Rattle.std.proofs.Common.{arith}
use Rattle.store_kv.specs.Draft.{tables_of}
use Rattle.std.specs.FinMap as map
use Rattle.store_rows.specs.Keys.{Org, spell}
use Rattle.store_rows.specs.Rows.{org_form}
use Rattle.store_abstraction.proofs.Found.{key_found}
use Rattle.store_abstraction.proofs.Organisations.{org_finds}
use Rattle.store_abstraction.proofs.Places.{PrefixLaws}
use Rattle.store_abstraction.proofs.Called.{calls_of}
use Rattle.store_abstraction.proofs.rows.org_row.Goals as goal

pub returns-clause-finds : goal.returns-clause-finds
returns-clause-finds g c told =
    let m = tables_of g.K.Keeper.state c.args.draft.now in
    let laws : PrefixLaws = record { interval = c.key_laws.ensures.interval; unbounded = c.key_laws.ensures.unbounded; bytes = c.table_laws.ensures.bytes } in (
      org_finds c.name_laws.ensures.text c.name_laws.ensures.short laws c.key_laws.ensures.exact c.row_laws.ensures.found m c.args.org (omega arith) c.row_at.result (c.row_at.ensures.row told),
      key_found org_form c.args.org (map.get m (spell (Org c.args.org))) c.row_at.result (c.row_at.ensures.row told),
    )

pub returns-clause-calls : goal.returns-clause-calls
returns-clause-calls g c =
    let read = c.row_at.ensures in
    calls_of g.K.Keeper.state 0 c.args.draft.now c.row_at.new.draft c.row_at.result read.reads read.stays read.cause read.quiet
