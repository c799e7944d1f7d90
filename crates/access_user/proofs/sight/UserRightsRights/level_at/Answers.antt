use Rattle.std.proofs.Common.{Option, refl, subst, suc}
use Rattle.std.specs.Prelude.{Ok}
use Rattle.store_kv.specs.Draft.{tables_of}
use Rattle.store_abstraction.specs.Layouts.{own_layout}
use Rattle.store_abstraction.specs.Local.{FindsIn}
use Rattle.store_abstraction.specs.declared.layout.Layout.{Layout}
use Rattle.access_user.specs.inner.Steps.{most_above}
use Rattle.access_user.proofs.Judged.{found_by, none_by}
use Rattle.access_user.proofs.sight.UserRightsRights.level_at.Goals as goal

pub returns-in-Ok-Some-clause-finds : goal.returns-in-Ok-Some-clause-finds
returns-in-Ok-Some-clause-finds g c told =
    let state = g.K.Keeper.state in
    let a = c.args.draft.now in
    let b = c.layout_at.new.draft in
    let d = c.level_by.new.draft in
    let m = tables_of state a in
    let org = c.args.org in
    let object = c.args.object in
    let tell = c.draft_laws.ensures.both 0 (suc (most_above 3 c.in-Ok-Some.layout)) a b d c.layout_at.ensures.calls.reads c.level_by.ensures.calls.reads told in
    let found = subst (λ (x : Option Layout). FindsIn org (own_layout org object) m (Ok x)) c.in-Ok-Some.field-0-is (c.in-Ok-Some.ensures.finds tell.0) in
    found_by m (tables_of state b) tell.2 c.args.self.now org object c.args.id.now c.in-Ok-Some.layout found c.level_by.result (c.level_by.ensures.finds tell.1)

pub returns-in-Ok-None-clause-finds : goal.returns-in-Ok-None-clause-finds
returns-in-Ok-None-clause-finds g c told =
    let m = tables_of g.K.Keeper.state c.args.draft.now in
    let org = c.args.org in
    let object = c.args.object in
    none_by m m refl c.args.self.now org object c.args.id.now
    (subst (λ (x : Option Layout). FindsIn org (own_layout org object) m (Ok x)) c.in-Ok-None.field-0-is (c.in-Ok-None.ensures.finds told))
