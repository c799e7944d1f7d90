use Rattle.std.proofs.Common.{◌≤◌, true, List, arith, length, subst}
use Rattle.std.specs.Prelude.{Ok, Err}
use Rattle.std.proofs.lemmas.Bool.{true≢false as always}
use Rattle.store_kv.specs.Draft.{tables_of}
use Rattle.base_value.specs.declared.sharing.Level.TheVariants.{Full}
use Rattle.access_user.specs.declared.sight.UserSight.{UserSight}
use Rattle.access_user.specs.declared.steps.Step.{Step}
use Rattle.access_user.specs.inner.Climbing.{IsLevelWithin, MakesOwn, MayClimb, MayJudge}
use Rattle.access_user.specs.inner.Steps.{TellsWhere}
use Rattle.access_user.proofs.Climbed.{judged, may_step}
use Rattle.access_user.proofs.Judged.{judged_failed, makes}
use Rattle.access_user.proofs.Stepping.{MayStep, at_most, failed}
use Rattle.access_user.proofs.climbing.level_of.Goals as goal

pub returns-in-Ok-own_at_end-clause-finds : goal.returns-in-Ok-own_at_end-clause-finds
returns-in-Ok-own_at_end-clause-finds g c told =
    let state = g.K.Keeper.state in
    let a = c.args.draft.now in
    let b = c.steps_from.new.draft in
    let d = c.level_through.new.draft in
    let l = c.args.layout.now in
    let rights = c.args.rights.now in
    let own = c.in-Ok-own_at_end.own in
    let sight : UserSight = record { rights = c.args.rights; own = own; shared = true } in
    let r = c.args.item in
    let steps = c.in-Ok.steps.items in
    let m = tables_of state a in
    let tell = c.draft_laws.ensures.both 0 (length c.as_slice-in-Ok-own_at_end.result.now) a b d c.steps_from.ensures.calls.reads c.level_through.ensures.calls.reads told in
    let led = c.in-Ok.ensures.finds tell.0 in
    let few : length steps ≤ 3 = omega (arith, c.in-Ok.ensures.few, at_most 3 l) in
    let made = subst (λ (ss : List Step). MakesOwn rights l ss (Ok own)) c.as_slice.ensures.value c.in-Ok-own_at_end.ensures in
    judged m (tables_of state b) tell.2 sight Full l r steps few led (MayJudge rights l r) (λ q t u may. may)
    (λ q t u s may. made q t u (makes rights l steps m led q t u s may.granted may.layout))
    (λ q t u may e. absurd (always e))
    c.level_through.result
    (subst (λ (ss : List Step). TellsWhere l.org (MayClimb sight l.org ss r) (IsLevelWithin Full (length ss) r) (tables_of state b) c.level_through.result) c.as_slice-in-Ok-own_at_end.ensures.value
    (c.level_through.ensures.finds tell.1))

pub returns-in-Err-own_at_end-clause-finds : goal.returns-in-Err-own_at_end-clause-finds
returns-in-Err-own_at_end-clause-finds g c told =
    let m = tables_of g.K.Keeper.state c.args.draft.now in
    let l = c.args.layout.now in
    let rights = c.args.rights.now in
    let fail = c.in-Err-own_at_end.fail in
    let made = subst (λ (ss : List Step). MakesOwn rights l ss (Err fail)) c.as_slice.ensures.value c.in-Err-own_at_end.ensures in
    judged_failed rights l c.in-Ok.steps.items m (c.in-Ok.ensures.finds told) c.args.item fail made c.from.result c.from.ensures

pub returns-in-Err-clause-finds : goal.returns-in-Err-clause-finds
returns-in-Err-clause-finds g c told =
    let m = tables_of g.K.Keeper.state c.args.draft.now in
    let l = c.args.layout.now in
    failed l.org l.org (MayStep l 3) (MayJudge c.args.rights.now l c.args.item) m m c.in-Err.fail
    (λ q t u s may. (s, may_step q t u l may.granted.sound may.layout)) (c.in-Err.ensures.finds told)
