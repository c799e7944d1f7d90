use Rattle.std.proofs.Common.{ℕ, Bor, IsTrue, List, Option, arith, refl, subst, take}
use Rattle.std.specs.Option.{option_map}
use Rattle.base_lemmas.proofs.Options.{option_map-compose as mapped}
use Rattle.store_kv.specs.Draft.{tables_of}
use Rattle.store_kv.specs.Prefixes.{raised}
use Rattle.store_rows.specs.Listings.{rows_to, start_of}
use Rattle.base_value.specs.Id.{is_id}
use Rattle.base_value.specs.declared.id.Id.{Id}
use Rattle.record_read.proofs.Listed.{key_at, prefix_of}
use Rattle.record_read.proofs.Walking.{WalkLaws, some_mapped}
use Rattle.query_exec.specs.inner.Reading.{KeepsPage}
use Rattle.query_exec.proofs.Keeping.{page_found}
use Rattle.query_exec.proofs.pages.page_after.Goals as goal

pub returns-clause-page : goal.returns-clause-page
returns-clause-page g c told =
    let m = tables_of g.K.Keeper.state c.args.draft.now in
    let l = c.args.layout.now in
    let walk : WalkLaws = record {
      laws = record { read = c.data_laws.ensures.read; fits = c.data_laws.ensures.fits };
      keys = record { under = c.table_laws.ensures.under; compares = c.shape_laws.ensures.compared; begins = c.shape_laws.ensures.begins; after = c.walk_laws.ensures.after_zero };
      pages = record { kept = c.listing_laws.ensures.kept; page = c.listing_laws.ensures.page };
      makes = c.id_laws.ensures.made;
      ends = c.table_laws.ensures.ends;
      under = c.local_laws.ensures.under;
      listed = c.local_laws.ensures.listed;
    } in
    let rows = c.rows_after.result in
    let fits = c.rows_after.ensures.fits in
    let after = option_map {T = Bor Id} {U = Id} (λ id. id.now) c.args.after in
    let from = subst (λ (o : Option (List ℕ)). KeepsPage (take 250 (rows_to m 7 (start_of (prefix_of l.org l.object) o) (raised (prefix_of l.org l.object)))) rows) (mapped (key_at l.org l.object) (λ (id : Bor Id). id.now) c.args.after) (c.rows_after.ensures.rows told) in
    let ids = some_mapped (λ (i : List ℕ). IsTrue (is_id i)) (λ (id : Bor Id). id.now) c.args.after c.is_after_id.ensures in
    page_found walk c.shape_laws.ensures.again m l after 250 fits.0 fits.1 ids (omega arith) rows refl from
