use Rattle.std.proofs.Common.{List, arith, length, ℕ, ◌≤◌, subst, sym}
use Rattle.store_kv.specs.Draft.{tables_of}
use Rattle.access_user.specs.Sights.{OwnAt}
use Rattle.access_user.specs.declared.steps.Step.{Step}
use Rattle.access_user.specs.inner.Climbing.{MaySee}
use Rattle.access_user.specs.inner.Steps.{Leads}
use Rattle.access_user.proofs.Climbed.{ends_topmost, judged, may_step}
use Rattle.access_user.proofs.Stepping.{MayStep, at_most, failed}
use Rattle.access_user.proofs.climbing.level_in.Goals as goal

pub returns-in-Ok-clause-finds : goal.returns-in-Ok-clause-finds
returns-in-Ok-clause-finds g c told =
    let state = g.K.Keeper.state in
    let a = c.args.draft.now in
    let b = c.steps_from.new.draft in
    let d = c.level_through.new.draft in
    let l = c.args.layout.now in
    let sight = c.args.sight.now in
    let steps = c.as_slice.result.now in
    let value = sym c.as_slice.ensures.value in
    let tell = c.draft_laws.ensures.both 0 (length steps) a b d c.steps_from.ensures.calls.reads c.level_through.ensures.calls.reads told in
    let most : length c.in-Ok.steps.items ≤ 3 = omega (arith, c.in-Ok.ensures.few, at_most 3 l) in
    let few : length steps ≤ 3 = subst (λ (ss : List Step). length ss ≤ 3) value most in
    judged (tables_of state a) (tables_of state b) tell.2 sight c.args.asked l c.args.item steps few
    (λ q t u s may. subst (λ (ss : List Step). Leads q t l.org l.object ss) value (c.in-Ok.ensures.finds tell.0 q t u s may))
    (MaySee sight l c.args.item) (λ q t u may. may.may)
    (λ q t u s may.
    let led = subst (λ (ss : List Step). Leads q t l.org l.object ss) value (c.in-Ok.ensures.finds tell.0 q t u s (may_step q t u l may.may.granted.sound may.may.layout)) in
    subst (λ (k : ℕ). OwnAt sight.rights.now.sharer.people t u k sight.own) (ends_topmost q t l.org 3 l.object steps few led) may.own_top)
    (λ q t u may. may.shares)
    c.level_through.result (c.level_through.ensures.finds tell.1)

pub returns-in-Err-clause-finds : goal.returns-in-Err-clause-finds
returns-in-Err-clause-finds g c told =
    let m = tables_of g.K.Keeper.state c.args.draft.now in
    let l = c.args.layout.now in
    failed l.org l.org (MayStep l 3) (MaySee c.args.sight.now l c.args.item) m m c.in-Err.fail
    (λ q t u s may. (s, may_step q t u l may.may.granted.sound may.may.layout)) (c.in-Err.ensures.finds told)
