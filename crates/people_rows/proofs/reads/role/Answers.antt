use Rattle.std.proofs.Common.{arith}
use Rattle.store_kv.specs.Draft.{tables_of}
use Rattle.store_abstraction.proofs.Called.{calls_of}
use Rattle.store_abstraction.proofs.Places.{PrefixLaws}
use Rattle.people_rows.proofs.People.{role_finds}
use Rattle.people_rows.proofs.reads.role.Goals as goal

pub returns-clause-finds : goal.returns-clause-finds
returns-clause-finds g c told =
    let m = tables_of g.K.Keeper.state c.args.draft.now in
    let laws : PrefixLaws = record { interval = c.key_laws.ensures.interval; unbounded = c.key_laws.ensures.unbounded; bytes = c.table_laws.ensures.bytes } in
    role_finds c.id_laws.ensures.made c.name_laws.ensures.text c.name_laws.ensures.short laws c.key_laws.ensures.exact m c.args.org c.args.id.now (omega arith) c.as_bytes.ensures.id
    c.row_laws.ensures.found c.row_at.result (c.row_at.ensures.row told)

pub returns-clause-calls : goal.returns-clause-calls
returns-clause-calls g c =
    let read = c.row_at.ensures in
    calls_of g.K.Keeper.state 0 c.args.draft.now c.row_at.new.draft c.row_at.result read.reads read.stays read.cause read.quiet
