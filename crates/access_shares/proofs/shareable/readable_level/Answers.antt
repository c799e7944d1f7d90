use Rattle.store_kv.specs.Draft.{tables_of}
use Rattle.access_traits.specs.Rights.{level_shown}
use Rattle.access_shares.proofs.Readable.{level_calls, level_found}
use Rattle.access_shares.proofs.shareable.readable_level.Goals as goal

pub returns-clause-finds : goal.returns-clause-finds
returns-clause-finds g c told q a s w =
    level_found a c.args.id.now c.object_number.result c.object_number.ensures c.args.org q (tables_of g.K.Keeper.state c.args.draft.now) (g.R.Rights.whose c.args.rights.now) c.level_at.result c.readable_or_none.result
    (c.level_at.ensures.finds told) s w c.readable_or_none.ensures

pub returns-clause-calls : goal.returns-clause-calls
returns-clause-calls g c =
    level_calls g.K.Keeper.state level_shown c.args.draft.now c.level_at.new.draft c.level_at.result c.readable_or_none.result c.level_at.ensures.calls c.readable_or_none.ensures
