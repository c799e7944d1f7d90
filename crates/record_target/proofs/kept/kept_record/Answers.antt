use Rattle.std.proofs.Common.{ℕ, List, sym, subst}
use Rattle.std.specs.FinMap as map
use Rattle.record_read.proofs.Ended.{made_calls}
use Rattle.record_read.proofs.Standing.{Laws}
use Rattle.store_kv.specs.Draft.{tables_of}
use Rattle.store_rows.specs.Keys.{Data, record_key, spell}
use Rattle.store_rows.specs.Reads.{ReadsAs}
use Rattle.store_rows.specs.Rows.{data_form}
use Rattle.store_codec.specs.Shapes.{FitsIn}
use Rattle.record_target.specs.Kept.{kept_from}
use Rattle.record_target.proofs.Keeping.{keeps, kept_is_made}
use Rattle.store_abstraction.proofs.Called.{calls_of}
use Rattle.record_target.proofs.kept.kept_record.Goals as goal

pub row_at-row-requires : goal.row_at-row-requires
row_at-row-requires g c = subst (λ (k : ℕ × (ℕ × List ℕ)). FitsIn record_key k) (sym c.key_of-key.ensures.is) c.key_of-key.ensures.fits

pub returns-clause-keeps : goal.returns-clause-keeps
returns-clause-keeps g c told =
    let m = tables_of g.K.Keeper.state c.args.draft.now in
    let laws : Laws = record { read = c.data_laws.ensures.read; fits = c.data_laws.ensures.fits } in
    let reads = subst (λ (k : ℕ × (ℕ × List ℕ)). ReadsAs data_form k (map.get m (spell (Data k.0 k.1.0 k.1.1))) c.row_at-row.result) c.key_of-key.ensures.is (c.row_at-row.ensures.row told) in
    keeps c.row_laws.ensures.found c.key_laws.ensures.exact c.local_laws.ensures.own laws m c.args.layout.now c.args.id.now c.key_of-key.ensures.fits c.row_at-row.result c.record_with_row.result reads c.record_with_row.ensures.kept

pub returns-clause-calls : goal.returns-clause-calls
returns-clause-calls g c =
    let state = g.K.Keeper.state in
    let a = c.args.draft.now in
    let b = c.row_at-row.new.draft in
    let l = c.args.layout.now in
    let row = c.row_at-row.result in
    made_calls state 1 a b row (kept_from l row) c.record_with_row.result (kept_is_made l row) c.record_with_row.ensures.kept c.record_with_row.ensures.failed
    (calls_of state 1 a b row c.row_at-row.ensures.reads c.row_at-row.ensures.stays c.row_at-row.ensures.cause c.row_at-row.ensures.quiet)
