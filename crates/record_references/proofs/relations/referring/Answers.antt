use Rattle.std.proofs.Common.{ℕ, Bor, IsTrue, List, Option, sym, subst, take}
use Rattle.std.specs.Option.{option_map}
use Rattle.base_lemmas.proofs.Options.{option_map-compose as mapped}
use Rattle.base_lemmas.proofs.Lists.{slice_get_as_read as read_there}
use Rattle.store_kv.specs.Draft.{tables_of}
use Rattle.store_kv.specs.Prefixes.{raised}
use Rattle.store_rows.specs.Listings.{rows_to, start_of}
use Rattle.store_rows.specs.Reads.{ListsAs}
use Rattle.store_rows.specs.Rows.{relation_form}
use Rattle.base_value.specs.Id.{is_id}
use Rattle.base_value.specs.declared.id.Id.{Id}
use Rattle.record_read.proofs.Ended.{made_calls}
use Rattle.record_read.proofs.Walking.{some_mapped}
use Rattle.record_references.specs.inner.Rows.{FitsFront, Front, front_bytes, ids_from, key_at}
use Rattle.record_references.proofs.Finding.{ReferLaws, ids_are_made, ids_find}
use Rattle.record_references.proofs.relations.referring.Goals as goal

pub rows_after-rows-requires : goal.rows_after-rows-requires
rows_after-rows-requires g c = subst (λ (k : Front). FitsFront k) (sym c.front_of-front.ensures.is) c.front_of-front.ensures.fits

pub returns-clause-finds : goal.returns-clause-finds
returns-clause-finds g c told =
    let m = tables_of g.K.Keeper.state c.args.draft.now in
    let l = c.args.layout.now in
    let f = c.index-fields-number.result in
    let target = c.args.target.now in
    let laws : ReferLaws = record {
      keys = record { under = c.table_laws.ensures.under; compares = c.shape_laws.ensures.compared; begins = c.shape_laws.ensures.begins; after = c.walk_laws.ensures.after_zero };
      pages = record { kept = c.listing_laws.ensures.kept; page = c.listing_laws.ensures.page };
      makes = c.id_laws.ensures.made;
      ends = c.table_laws.ensures.ends;
      under = c.local_laws.ensures.under;
      listed = c.local_laws.ensures.listed;
    } in
    let rows = c.rows_after-rows.result in
    let at = read_there l.fields c.as_slice-fields.result.now c.args.number f c.as_slice-fields.ensures c.requires.field c.index-fields-number.is in
    let p : Front = (l.org, (l.object, (f.slot, target))) in
    let told_rows = subst (λ (k : Front). ListsAs relation_form (take c.args.limit (rows_to m 10 (start_of (front_bytes k) (option_map {T = Bor Id} {U = List ℕ} (λ id. key_at k id.now) c.args.after)) (raised (front_bytes k)))) rows) c.front_of-front.ensures.is (c.rows_after-rows.ensures.rows told) in
    let from = subst (λ (o : Option (List ℕ)). ListsAs relation_form (take c.args.limit (rows_to m 10 (start_of (front_bytes p) o) (raised (front_bytes p)))) rows) (mapped (key_at p) (λ (id : Bor Id). id.now) c.args.after) told_rows in
    ids_find laws m l c.args.number f at target c.front_of-front.ensures.fits (option_map {T = Bor Id} {U = Id} (λ id. id.now) c.args.after)
    (some_mapped (λ (i : List ℕ). IsTrue (is_id i)) (λ (id : Bor Id). id.now) c.args.after c.rows_after-rows.ensures.ids) c.args.limit rows from c.ids_found.result c.ids_found.ensures.found

pub returns-clause-calls : goal.returns-clause-calls
returns-clause-calls g c =
    let rows = c.rows_after-rows.result in
    made_calls g.K.Keeper.state 0 c.args.draft.now c.rows_after-rows.new.draft rows (ids_from rows) c.ids_found.result (ids_are_made rows) c.ids_found.ensures.found c.ids_found.ensures.failed c.rows_after-rows.ensures.calls
