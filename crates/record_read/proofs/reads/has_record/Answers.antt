use Rattle.std.proofs.Common.{◌≡◌, ℕ, List, sym, subst}
use Rattle.std.specs.Prelude.{IfOk, is_some}
use Rattle.std.specs.FinMap as map
use Rattle.store_kv.specs.Draft.{tables_of}
use Rattle.store_rows.specs.Keys.{Data, record_key, spell}
use Rattle.store_codec.specs.Shapes.{FitsIn}
use Rattle.record_read.proofs.Having.{record_had}
use Rattle.store_abstraction.proofs.Called.{calls_of}
use Rattle.record_read.proofs.reads.has_record.Goals as goal

pub has_row-requires : goal.has_row-requires
has_row-requires g c = subst (λ (k : ℕ × (ℕ × List ℕ)). FitsIn record_key k) (sym c.key_of-key.ensures.is) c.key_of-key.ensures.fits

pub returns-clause-finds : goal.returns-clause-finds
returns-clause-finds g c told =
    let m = tables_of g.K.Keeper.state c.args.draft.now in
    let there = subst (λ (k : ℕ × (ℕ × List ℕ)). IfOk c.has_row.result (λ there. there ≡ is_some (map.get m (spell (Data k.0 k.1.0 k.1.1))))) c.key_of-key.ensures.is (c.has_row.ensures.there told) in
    record_had c.key_laws.ensures.exact c.local_laws.ensures.own m c.args.org c.args.object c.args.id.now c.key_of-key.ensures.fits c.has_row.result there c.has_row.ensures.whole

pub returns-clause-calls : goal.returns-clause-calls
returns-clause-calls g c =
    let read = c.has_row.ensures in
    calls_of g.K.Keeper.state 1 c.args.draft.now c.has_row.new.draft c.has_row.result read.reads read.stays read.cause read.quiet
