use Rattle.std.proofs.Common.{◌≤◌, List, arith, length, subst}
use Rattle.std.specs.Prelude.{Ok, Err}
use Rattle.store_kv.specs.Draft.{tables_of}
use Rattle.access_user.specs.declared.steps.Step.{Step}
use Rattle.access_user.specs.inner.Climbing.{MakesOwn}
use Rattle.access_user.specs.inner.Judging.{MayLook}
use Rattle.access_user.proofs.Climbed.{may_step}
use Rattle.access_user.proofs.Judged.{top_failed, top_is}
use Rattle.access_user.proofs.Stepping.{MayStep, at_most, failed}
use Rattle.access_user.proofs.sight.own_top.Goals as goal

pub returns-in-Ok-own_at_end-clause-finds : goal.returns-in-Ok-own_at_end-clause-finds
returns-in-Ok-own_at_end-clause-finds g c told =
    let m = tables_of g.K.Keeper.state c.args.draft.now in
    let l = c.args.layout.now in
    let rights = c.args.rights.now in
    let own = c.in-Ok-own_at_end.own in
    let made = subst (λ (ss : List Step). MakesOwn rights l ss (Ok own)) c.as_slice.ensures.value c.in-Ok-own_at_end.ensures in
    let few : length c.in-Ok.steps.items ≤ 3 = omega (arith, c.in-Ok.ensures.few, at_most 3 l) in
    top_is rights l c.in-Ok.steps.items m (c.in-Ok.ensures.finds told) few own made

pub returns-in-Ok-clause-finds : goal.returns-in-Ok-clause-finds
returns-in-Ok-clause-finds g c told =
    let m = tables_of g.K.Keeper.state c.args.draft.now in
    let l = c.args.layout.now in
    let rights = c.args.rights.now in
    let fail = c.in-Err-own_at_end.fail in
    let made = subst (λ (ss : List Step). MakesOwn rights l ss (Err fail)) c.as_slice.ensures.value c.in-Err-own_at_end.ensures in
    top_failed rights l c.in-Ok.steps.items m (c.in-Ok.ensures.finds told) fail made c.from.result c.from.ensures

pub returns-clause-finds : goal.returns-clause-finds
returns-clause-finds g c told =
    let m = tables_of g.K.Keeper.state c.args.draft.now in
    let l = c.args.layout.now in
    failed l.org l.org (MayStep l 3) (MayLook c.args.rights.now l) m m c.in-Err.fail
    (λ q t u s may. (s, may_step q t u l may.granted.sound may.layout)) (c.in-Err.ensures.finds told)
