use Rattle.std.proofs.Common.{Option, subst}
use Rattle.std.specs.Prelude.{Ok}
use Rattle.store_kv.specs.Draft.{tables_of}
use Rattle.model.specs.Rights.{record_of_object}
use Rattle.model.specs.declared.record.Record.{Record}
use Rattle.store_abstraction.specs.Layouts.{FindsOf}
use Rattle.query_related.proofs.Reading.{read}
use Rattle.query_related.proofs.parents.readable.readable_by_id.Goals as goal

pub returns-in-Ok-Some-clause-finds : goal.returns-in-Ok-Some-clause-finds
returns-in-Ok-Some-clause-finds g c told =
    let state = g.K.Keeper.state in
    let a = c.args.draft.now in
    let b = c.load_record.new.draft in
    let d = c.level_at-level.new.draft in
    let m = tables_of state a in
    let l = c.args.layout.now in
    let id = c.args.id.now in
    let tell = c.draft_laws.ensures.both 1 4 a b d c.load_record.ensures.calls.reads c.level_at-level.ensures.calls.reads told in
    let found = subst (λ (x : Option Record). FindsOf l (λ t. record_of_object t l.object id) m (Ok x)) c.in-Ok-Some.field-0-is (c.in-Ok-Some.ensures.finds tell.0) in
    read l (g.R.Rights.whose c.args.rights.now) m id c.in-Ok-Some.item found (tables_of state b) tell.2 c.level_at-level.result (c.level_at-level.ensures.finds tell.1) c.kept_if_readable.result c.kept_if_readable.ensures
