use Rattle.std.proofs.Common.{◌≡◌, Some, subst, sym}
use Rattle.store_edit.proofs.Reading.{two_reads}
use Rattle.store_kv.specs.Tables.{Tables}
use Rattle.retype_request.specs.inner.Beginning.{column_rule, place_in}
use Rattle.retype_request.proofs.StepByStep.{idle_fails, none_fails, type_fails, use_fails}
use Rattle.store_edit.proofs.StepByStep.{passed_on}
use Rattle.retype_request.proofs.judging.judge_named.Goals as goal
use Rattle.store_abstraction.specs.Local.{StandsIn}

pub returns-in_err-check_idle-clause-passes : goal.returns-in_err-check_idle-clause-passes
returns-in_err-check_idle-clause-passes g c told q t s is =
    let l = c.args.layout.now in
    let f = c.args.field.now in
    let to = c.args.to.now in
    let e = c.in_err-check_idle.field-0.0 in
    passed_on (column_rule l t to f) (λ place. place_in l.fields to f.custom ≡ Some place) c.from_residual.result e c.from_residual.ensures.1 (idle_fails l t to f e (c.in_err-check_idle.ensures.passes told q t s))

pub returns-in_err-place-clause-passes : goal.returns-in_err-place-clause-passes
returns-in_err-place-clause-passes g c told q t s is =
    let l = c.args.layout.now in
    let f = c.args.field.now in
    let to = c.args.to.now in
    let e = c.in_err-place.field-0.0 in
    passed_on (column_rule l t to f) (λ place. place_in l.fields to f.custom ≡ Some place) c.from_residual-in_err-place.result e c.from_residual-in_err-place.ensures.1
    (type_fails l t to f (c.in_ok-check_idle.ensures.passes told q t s).0 e c.in_err-place.ensures.passes)

pub returns-in_err-check_unused-clause-passes : goal.returns-in_err-check_unused-clause-passes
returns-in_err-check_unused-clause-passes g c told q t s is =
    let l = c.args.layout.now in
    let f = c.args.field.now in
    let to = c.args.to.now in
    let e = c.in_err-check_unused.field-0.0 in
    let calls = c.call_laws.ensures in
    let reads = two_reads g.K.Keeper.state calls.told_first calls.told_then calls.tables c.args.draft.now c.check_idle.new.draft c.check_unused.new.draft c.check_idle.ensures.calls c.check_unused.ensures.calls told in
    let stands = subst (λ (m : Tables). StandsIn l.org q m (Some t)) (sym reads.same) s in
    passed_on (column_rule l t to f) (λ place. place_in l.fields to f.custom ≡ Some place) c.from_residual-in_err-check_unused.result e c.from_residual-in_err-check_unused.ensures.1
    (use_fails l t to f (c.in_ok-check_idle.ensures.passes reads.first q t s).0 c.in_ok-place.place c.in_ok-place.ensures.passes.1 e (c.in_err-check_unused.ensures.passes reads.then q t stands is))

pub returns-clause-passes : goal.returns-clause-passes
returns-clause-passes g c told q t s is =
    let l = c.args.layout.now in
    let f = c.args.field.now in
    let to = c.args.to.now in
    let calls = c.call_laws.ensures in
    let reads = two_reads g.K.Keeper.state calls.told_first calls.told_then calls.tables c.args.draft.now c.check_idle.new.draft c.check_unused.new.draft c.check_idle.ensures.calls c.check_unused.ensures.calls told in
    let stands = subst (λ (m : Tables). StandsIn l.org q m (Some t)) (sym reads.same) s in
    let place = c.in_ok-place.ensures.passes.1 in
    (none_fails l t to f (c.in_ok-check_idle.ensures.passes reads.first q t s).0 c.in_ok-place.place place (c.in_ok-check_unused.ensures.passes reads.then q t stands is).0, place)
