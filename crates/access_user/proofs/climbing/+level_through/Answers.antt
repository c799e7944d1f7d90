use Rattle.std.proofs.Common.{Option, length, subst}
use Rattle.std.specs.Prelude.{Ok}
use Rattle.store_kv.specs.Draft.{tables_of}
use Rattle.model.specs.declared.record.Record.{Record}
use Rattle.store_abstraction.specs.Layouts.{FindsOf}
use Rattle.access_user.specs.inner.Climbing.{master_there}
use Rattle.access_user.proofs.Climbed.{through_master, through_unnamed}
use Rattle.access_user.proofs.climbing.+level_through.Goals as goal

pub returns-in-Ok-Some-clause-finds : goal.returns-in-Ok-Some-clause-finds
returns-in-Ok-Some-clause-finds g t c told =
    let state = g.K.Keeper.state in
    let a = c.args.draft.now in
    let b = c.master_of.new.draft in
    let d = c.level_through.new.draft in
    let m = tables_of state a in
    let r = c.args.item in
    let step = c.in-Some.step.now in
    let rest = c.in-Some.rest.now in
    let tell = c.draft_laws.ensures.both 1 (length rest) a b d c.master_of.ensures.calls.reads c.level_through.ensures.calls.reads told in
    let found = subst (λ (x : Option Record). FindsOf step.layout (master_there step r) m (Ok x)) c.in-Ok-Some.field-0-is (c.in-Ok-Some.ensures.finds tell.0) in
    through_master c.args.sight.now c.args.asked c.args.org r m c.args.steps.now rest step c.in-Some.ensures.cases.0 c.in-Ok-Some.master found (tables_of state b) tell.2
    c.level_through.result (c.level_through.ensures.finds tell.1) c.full_of.result c.full_of.ensures

pub returns-in-Ok-None-clause-finds : goal.returns-in-Ok-None-clause-finds
returns-in-Ok-None-clause-finds g t c told =
    let m = tables_of g.K.Keeper.state c.args.draft.now in
    let r = c.args.item in
    let step = c.in-Some.step.now in
    let found = subst (λ (x : Option Record). FindsOf step.layout (master_there step r) m (Ok x)) c.in-Ok-None.field-0-is (c.in-Ok-None.ensures.finds told) in
    through_unnamed c.args.sight.now c.args.asked c.args.org r m c.args.steps.now c.in-Some.rest.now step c.in-Some.ensures.cases.0 found
