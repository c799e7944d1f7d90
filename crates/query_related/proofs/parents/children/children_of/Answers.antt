use Rattle.std.proofs.Common.{◌≡◌, ℕ, ◌+◌, ◌*◌, Bor, List, take, length, arith, subst}
use Rattle.std.specs.Option.{option_map}
use Rattle.store_kv.specs.Draft.{tables_of}
use Rattle.access_traits.specs.Rights.{Whose}
use Rattle.store_abstraction.specs.Calls.{ended}
use Rattle.base_value.specs.declared.id.Id.{Id}
use Rattle.query_related.specs.parents.Parents.{FindsBy}
use Rattle.query_related.specs.parents.inner.Reading.{page_with, readable_among}
use Rattle.query_related.proofs.Paged.{page_called, page_found}
use Rattle.query_related.proofs.parents.children.children_of.Goals as goal

pub returns-in-Ok-clause-finds : goal.returns-in-Ok-clause-finds
returns-in-Ok-clause-finds g c told =
    let state = g.K.Keeper.state in
    let a = c.args.draft.now in
    let b = c.referring.new.draft in
    let d = c.readable_among-records.new.draft in
    let l = c.args.layout.now in
    let whose : Whose = g.R.Rights.whose c.args.rights.now in
    let named = c.at_most-ids.result.now in
    let records = c.readable_among-records.result in
    let are : named ≡ take c.args.limit c.in-Ok.ids = subst (λ (ids : List (List ℕ)). named ≡ take c.args.limit ids) c.as_slice.ensures c.at_most-ids.ensures in
    let tell = c.draft_laws.ensures.both 0 (5 * length named) a b d c.referring.ensures.calls.reads c.readable_among-records.ensures.calls.reads told in
    page_found l whose (tables_of state a) (tables_of state b) tell.2 c.args.number c.args.target.now (option_map {T = Bor Id} {U = Id} (λ id. id.now) c.args.after) c.args.limit
    c.in-Ok.ids (c.in-Ok.ensures.finds tell.0)
    records (subst (λ (ids : List (List ℕ)). FindsBy l whose (λ t u. readable_among t u l.object ids) (tables_of state b) records) are (c.readable_among-records.ensures.finds tell.1))
    c.page_with.result (subst (λ (ids : List (List ℕ)). c.page_with.result ≡ page_with ids records) are c.page_with.ensures)

pub returns-in-Ok-clause-calls : goal.returns-in-Ok-clause-calls
returns-in-Ok-clause-calls g c =
    let state = g.K.Keeper.state in
    let a = c.args.draft.now in
    let b = c.referring.new.draft in
    let d = c.readable_among-records.new.draft in
    let named = c.at_most-ids.result.now in
    let records = c.readable_among-records.result in
    page_called state a d c.draft_laws.ensures.reads_most c.args.limit c.as_slice.result.now named c.at_most-ids.ensures records c.page_with.result c.page_with.ensures (0 + 5 * length named) (omega arith)
    (c.call_laws.ensures.then 0 (5 * length named) (ended records) a b d c.in-Ok.ensures.calls c.readable_among-records.ensures.calls)
