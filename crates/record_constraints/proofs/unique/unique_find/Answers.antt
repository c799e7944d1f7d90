use Rattle.std.proofs.Common.{◌+◌, ℕ, List, Option, Result, sym, subst}
use Rattle.std.specs.FinMap as map
use Rattle.std.specs.Option.{option_map}
use Rattle.base_lemmas.proofs.Lists.{slice_get_as_read as read_there}
use Rattle.store_kv.specs.Draft.{tables_of}
use Rattle.store_rows.specs.declared.fail.StoreFail.{StoreFail}
use Rattle.store_rows.specs.Keys.{Unique, slot_key, spell}
use Rattle.store_rows.specs.Reads.{ReadsAs}
use Rattle.store_rows.specs.Rows.{unique_form}
use Rattle.model.specs.Given.{record_by_value}
use Rattle.model.specs.Tenant.{Tenant}
use Rattle.store_codec.specs.Shapes.{FitsIn, Ordered}
use Rattle.store_abstraction.specs.Calls.{Calls, ended}
use Rattle.store_abstraction.specs.Layouts.{FindsOf}
use Rattle.store_abstraction.proofs.Called.{calls_of}
use Rattle.store_abstraction.proofs.Places.{PrefixLaws}
use Rattle.record_constraints.proofs.UniqueRows.{ValueLaws, id_calls, id_finds, there_is}
use Rattle.record_constraints.proofs.unique.unique_find.Goals as goal

pub returns-clause-finds : goal.returns-clause-finds
returns-clause-finds g c told =
    let m = tables_of g.K.Keeper.state c.args.draft.now in
    let l = c.args.layout.now in
    let number = c.args.number in
    let v = c.args.value.now in
    let f = c.index-fields-number.result in
    let prefix : PrefixLaws = record { interval = c.key_laws.ensures.interval; unbounded = c.key_laws.ensures.unbounded; bytes = c.table_laws.ensures.bytes } in
    let laws : ValueLaws = record { fits = c.value_laws.ensures.fits; same = c.order_laws.ensures.same } in
    let at = read_there l.fields c.as_slice-fields.result.now number f c.as_slice-fields.ensures c.requires.field c.index-fields-number.is in
    let fits = subst (λ (k : ℕ × (ℕ × (ℕ × List ℕ))). FitsIn (slot_key Ordered) k) c.in_ok-key.ensures.is c.in_ok-key.ensures.fits in
    let reads = subst (λ (k : ℕ × (ℕ × (ℕ × List ℕ))). ReadsAs unique_form k (map.get m (spell (Unique k.0 k.1.0 k.1.1.0 k.1.1.1))) c.row_at-row.result) c.in_ok-key.ensures.is (c.row_at-row.ensures.row told) in
    subst (FindsOf l (λ (t : Tenant). option_map (λ r. r.id) (record_by_value t l.object (number + 1) v)) m) (sym c.id_in_row.ensures)
    (id_finds prefix c.key_laws.ensures.exact c.row_laws.ensures.found c.id_laws.ensures.made laws m l number v f at (there_is l number v f at c.requires.unique) fits c.row_at-row.result reads)

pub returns-clause-calls : goal.returns-clause-calls
returns-clause-calls g c =
    let state = g.K.Keeper.state in
    let a = c.args.draft.now in
    let b = c.row_at-row.new.draft in
    let read = c.row_at-row.ensures in
    subst (λ (r : Result (Option (List ℕ)) StoreFail). Calls state 0 (ended r) a b) (sym c.id_in_row.ensures)
    (id_calls state a b c.row_at-row.result (calls_of state 0 a b c.row_at-row.result read.reads read.stays read.cause read.quiet))
