use Rattle.std.proofs.Common.{Option, subst}
use Rattle.std.specs.Prelude.{Ok}
use Rattle.store_kv.specs.Draft.{tables_of}
use Rattle.model.specs.Rights.{record_of_object}
use Rattle.model.specs.declared.record.Record.{Record}
use Rattle.store_abstraction.specs.Layouts.{FindsOf}
use Rattle.access_user.specs.inner.Steps.{most_above}
use Rattle.access_user.proofs.Judged.{looked}
use Rattle.access_user.proofs.sight.level_by.Goals as goal

pub returns-in-Ok-Some-clause-finds : goal.returns-in-Ok-Some-clause-finds
returns-in-Ok-Some-clause-finds g c told =
    let state = g.K.Keeper.state in
    let a = c.args.draft.now in
    let b = c.load_record.new.draft in
    let d = c.level_of.new.draft in
    let m = tables_of state a in
    let l = c.args.layout.now in
    let id = c.args.id.now in
    let tell = c.draft_laws.ensures.both 1 (most_above 3 l) a b d c.load_record.ensures.calls.reads c.level_of.ensures.calls.reads told in
    let found = subst (λ (x : Option Record). FindsOf l (λ t. record_of_object t l.object id) m (Ok x)) c.in-Ok-Some.field-0-is (c.in-Ok-Some.ensures.finds tell.0) in
    looked m (tables_of state b) tell.2 c.args.rights.now l id c.in-Ok-Some.item found c.level_of.result (c.level_of.ensures.finds tell.1)
