use Rattle.std.proofs.Common.{◌+◌, ◌≤◌, ℕ, Bor, IsTrue, List, Option, subst, arith, take}
use Rattle.std.specs.Option.{option_map}
use Rattle.base_lemmas.proofs.Options.{option_map-compose as mapped}
use Rattle.store_kv.specs.Draft.{removals_of, tables_of}
use Rattle.store_kv.specs.State.{seen}
use Rattle.store_rows.specs.Listings.{rows_to, start_of}
use Rattle.store_rows.specs.Reads.{ListsAs}
use Rattle.store_rows.specs.Rows.{data_form}
use Rattle.store_kv.specs.Prefixes.{raised}
use Rattle.store_abstraction.specs.Calls.{Calls, ended}
use Rattle.base_value.specs.Id.{is_id}
use Rattle.base_value.specs.declared.id.Id.{Id}
use Rattle.record_read.specs.inner.Found.{listed_from}
use Rattle.record_read.proofs.Ended.{listed_is_made, made_calls}
use Rattle.record_read.proofs.Listed.{key_at, prefix_of}
use Rattle.record_read.proofs.Walking.{WalkLaws, few_seen, some_mapped, walk_finds}
use Rattle.record_read.proofs.reads.walk.Goals as goal

pub returns-clause-finds : goal.returns-clause-finds
returns-clause-finds g c told =
    let m = tables_of g.K.Keeper.state c.args.draft.now in
    let l = c.args.layout.now in
    let walk : WalkLaws = record {
      laws = record { read = c.data_laws.ensures.read; fits = c.data_laws.ensures.fits };
      keys = record { under = c.table_laws.ensures.under; compares = c.shape_laws.ensures.compared; begins = c.shape_laws.ensures.begins; after = c.walk_laws.ensures.after_zero };
      pages = record { kept = c.listing_laws.ensures.kept; page = c.listing_laws.ensures.page };
      makes = c.id_laws.ensures.made;
      ends = c.table_laws.ensures.ends;
      under = c.local_laws.ensures.under;
      listed = c.local_laws.ensures.listed;
    } in
    let rows = c.rows_after-rows.result in
    let fits = c.rows_after-rows.ensures.fits in
    let from = subst (λ (o : Option (List ℕ)). ListsAs data_form (take c.args.limit (rows_to m 7 (start_of (prefix_of l.org l.object) o) (raised (prefix_of l.org l.object)))) rows) (mapped (key_at l.org l.object) (λ (id : Bor Id). id.now) c.args.after) (c.rows_after-rows.ensures.rows told) in
    walk_finds walk m l (option_map {T = Bor Id} {U = Id} (λ id. id.now) c.args.after) c.args.limit fits.0.0 fits.0.1
    (some_mapped (λ (i : List ℕ). IsTrue (is_id i)) (λ (id : Bor Id). id.now) c.args.after fits.1) rows from c.records_found.result c.records_found.ensures.listed

pub returns-clause-calls : goal.returns-clause-calls
returns-clause-calls g c =
    let state = g.K.Keeper.state in
    let a = c.args.draft.now in
    let b = c.rows_after-rows.new.draft in
    let l = c.args.layout.now in
    let rows = c.rows_after-rows.result in
    let most = c.args.limit + removals_of state 7 a in
    let calls = c.rows_after-rows.ensures.calls in
    let reads =
    c.draft_laws.ensures.reads_most (seen c.args.limit rows + removals_of state 7 a) most a b
    (λ told. let few : seen c.args.limit rows ≤ c.args.limit = few_seen c.args.limit _ rows (c.rows_after-rows.ensures.rows told) in omega (arith, few))
    calls.reads
    in
    let whole : Calls state most (ended rows) a b = record { reads = reads; stays = calls.stays; cause = calls.cause; quiet = calls.quiet } in
    made_calls state most a b rows (listed_from l rows) c.records_found.result (listed_is_made l rows) c.records_found.ensures.listed c.records_found.ensures.failed whole
