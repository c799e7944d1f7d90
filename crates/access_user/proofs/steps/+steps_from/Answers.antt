use Rattle.std.proofs.Common.{◌+◌, ◌-◌, ◌≡◌, ◌≤◌, ◌∙◌, List, Option, arith, length, subst, sym}
use Rattle.std.specs.Prelude.{Ok}
use Rattle.store_kv.specs.Draft.{tables_of}
use Rattle.store_abstraction.specs.Layouts.{IsLayout}
use Rattle.access_user.specs.declared.steps.Step.{Step}
use Rattle.access_user.specs.inner.Steps.{Leads, LeadsIfAny, TellsWhere, most_above}
use Rattle.access_user.proofs.Stepping.{MayStep, all_led, at_most, failed, one_more, onward}
use Rattle.access_user.proofs.steps.+steps_from.Goals as goal

pub returns-in-Ok-None-clause-finds : goal.returns-in-Ok-None-clause-finds
returns-in-Ok-None-clause-finds g t c told q w u s may =
    let m = tables_of g.K.Keeper.state c.args.draft.now in
    let l = c.args.layout.now in
    let none = subst (λ (x : Option Step). TellsWhere l.org (λ q t u. IsLayout q t l) (λ x q t u. LeadsIfAny q t l.org l.object x) m (Ok x)) c.in-Ok-None.field-0-is (c.in-Ok-None.ensures.finds told) in
    subst (λ (steps : List Step). Leads q w l.org l.object steps) (sym c.new.ensures.items) (none q w u s may.0)

pub returns-in_ok-with_first-in-Ok-clause-few : goal.returns-in_ok-with_first-in-Ok-clause-few
returns-in_ok-with_first-in-Ok-clause-few g t c =
    let l = c.args.layout.now in
    let step = c.in-Ok-Some.step in
    let rest = c.in-Ok.rest.items in
    let less : c.args.most - 1 + 1 ≡ c.args.most = omega (arith, c.if-most-eq0.false) in
    let few : length rest ≤ c.args.most - 1 = omega (arith, c.in-Ok.ensures.few, at_most (c.args.most - 1) step.layout) in
    subst (λ (steps : List Step). length steps ≤ most_above c.args.most l) (sym c.in_ok-with_first-in-Ok.ensures)
    (one_more c.args.most (c.args.most - 1) (length rest) l step less few (λ none. sym c.in-Ok-Some.field-0-is ∙ c.in-Ok-Some.ensures.none none))

pub returns-in_ok-with_first-in-Ok-clause-finds : goal.returns-in_ok-with_first-in-Ok-clause-finds
returns-in_ok-with_first-in-Ok-clause-finds g t c told q w u s may =
    let state = g.K.Keeper.state in
    let a = c.args.draft.now in
    let b = c.step_from.new.draft in
    let d = c.steps_from.new.draft in
    let m = tables_of state a in
    let l = c.args.layout.now in
    let step = c.in-Ok-Some.step in
    let tell = c.draft_laws.ensures.both 0 0 a b d c.step_from.ensures.calls.reads c.steps_from.ensures.calls.reads told in
    let one = subst (λ (x : Option Step). TellsWhere l.org (λ q t u. IsLayout q t l) (λ x q t u. LeadsIfAny q t l.org l.object x) m (Ok x)) c.in-Ok-Some.field-0-is (c.in-Ok-Some.ensures.finds tell.0) in
    let less : c.args.most - 1 + 1 ≡ c.args.most = omega (arith, c.if-most-eq0.false) in
    subst (λ (steps : List Step). Leads q w l.org l.object steps) (sym c.in_ok-with_first-in-Ok.ensures)
    (all_led m (tables_of state b) tell.2 l step c.args.most (c.args.most - 1) less one c.in-Ok.rest.items (c.in-Ok.ensures.finds tell.1) q w u s may)

pub returns-in-Err-steps_from-clause-finds : goal.returns-in-Err-steps_from-clause-finds
returns-in-Err-steps_from-clause-finds g t c told =
    let state = g.K.Keeper.state in
    let a = c.args.draft.now in
    let b = c.step_from.new.draft in
    let d = c.steps_from.new.draft in
    let m = tables_of state a in
    let l = c.args.layout.now in
    let step = c.in-Ok-Some.step in
    let most = c.args.most in
    let tell = c.draft_laws.ensures.both 0 0 a b d c.step_from.ensures.calls.reads c.steps_from.ensures.calls.reads told in
    let one = subst (λ (x : Option Step). TellsWhere l.org (λ q t u. IsLayout q t l) (λ x q t u. LeadsIfAny q t l.org l.object x) m (Ok x)) c.in-Ok-Some.field-0-is (c.in-Ok-Some.ensures.finds tell.0) in
    let less : most - 1 + 1 ≡ most = omega (arith, c.if-most-eq0.false) in
    failed step.layout.org l.org (MayStep step.layout (most - 1)) (MayStep l most) (tables_of state b) m c.in-Err-steps_from.fail
    (onward m (tables_of state b) tell.2 l step most (most - 1) less one) (c.in-Err-steps_from.ensures.finds tell.1)
