use Rattle.std.proofs.Common.{subst, true, false, sym, refl, arith, [], Ok, Err}
use Rattle.std.proofs.lemmas.Result.{err_from_is_err_and}
use Rattle.store_kv.proofs.Calls.{steps_same, steps_on}
use Rattle.server.specs.Doors.{BringsTo, ManyEnds}
use Rattle.server.proofs.Bringing as bringing
use Rattle.server.proofs.Fallen.{not_fell}
use Rattle.server.proofs.Brought.{brings_none, gone_on, failed_many, ended_many, full_many}
use Rattle.server.proofs.Leading.{led_same, led_then}
use Rattle.server.specs.Senses.{of_all}
use Rattle.server.proofs.doors.serve.Goals as goal

pub loop-served-init : goal.loop-served-init
loop-served-init g c =
    let k = g.K.Keeper.state c.args.keeper.now in
    let lines = g.D.Door.line_faults c.args.door.now in
    record {
      steps = steps_same k;
      leads = led_same k;
      faults = omega arith;
      lines = omega arith;
      goes = λ told sense w d moments s e asked. ([], d, moments, e, asked, brings_none sense w moments d lines lines k told.0 s (omega arith), refl);
      fallen = λ fell w d moments s e asked. absurd (not_fell k fell);
    }

pub loop-served-preserved : goal.loop-served-preserved
loop-served-preserved g c =
    let state = g.K.Keeper.state in
    let coming = g.C.Clock.coming in
    let held = g.D.Door.held in
    let lines_of = g.D.Door.line_faults in
    let more = c.serve_next.ensures.cause.later in
    let lines = c.serve_next.ensures.lines in
    record {
      steps = steps_on (state c.args.keeper.now) (state c.loop-served.keeper) (state c.serve_next.new.keeper) c.loop-served.invariant.steps c.serve_next.ensures.steps;
      leads = led_then (state c.args.keeper.now) (state c.loop-served.keeper) (state c.serve_next.new.keeper) c.loop-served.invariant.leads c.serve_next.ensures.steps c.serve_next.ensures.leads;
      faults = omega (arith, c.loop-served.invariant.faults, more);
      lines = omega (arith, c.loop-served.invariant.lines, lines);
      goes = λ told sense w d moments s e asked.
          gone_on sense (Ok true) w moments d c.loop-served._served (state c.args.keeper.now) (state c.loop-served.keeper) (state c.serve_next.new.keeper) (coming c.loop-served.clock) (coming c.serve_next.new.clock) (held c.loop-served.door) (held c.serve_next.new.door)
          (lines_of c.args.door.now) (lines_of c.loop-served.door) (lines_of c.serve_next.new.door) told.1 c.serve_next.ensures.steps (c.loop-served.invariant.goes (told.0, c.serve_next.ensures.steps.stood told.1) sense w d moments s e asked)
          (rw c.if-not-branch.false at c.in_ok-serve_next.ensures.serves);
      fallen = λ fell w d moments s e asked.
          bringing.fell_on w moments d (state c.args.keeper.now) (state c.loop-served.keeper) (state c.serve_next.new.keeper) (coming c.loop-served.clock) (held c.loop-served.door) (held c.serve_next.new.door)
          c.loop-served._served (lines_of c.args.door.now) (lines_of c.loop-served.door) c.serve_next.ensures.steps fell
          (λ stands. c.loop-served.invariant.goes (fell.0, stands) of_all w d moments s e asked) (λ shut. c.loop-served.invariant.fallen (fell.0, fell.1, shut, c.serve_next.ensures.steps.was_clean fell.3) w d moments s e asked)
          c.serve_next.ensures.falls c.serve_next.ensures.undone;
    }

pub returns-in_err-serve_next-clause-leads : goal.returns-in_err-serve_next-clause-leads
returns-in_err-serve_next-clause-leads g c =
    let state = g.K.Keeper.state in
    led_then (state c.args.keeper.now) (state c.loop-served.keeper) (state c.serve_next.new.keeper) c.loop-served.invariant.leads c.serve_next.ensures.steps c.serve_next.ensures.leads

pub returns-then-not-branch-clause-leads : goal.returns-then-not-branch-clause-leads
returns-then-not-branch-clause-leads g c =
    let state = g.K.Keeper.state in
    led_then (state c.args.keeper.now) (state c.loop-served.keeper) (state c.serve_next.new.keeper) c.loop-served.invariant.leads c.serve_next.ensures.steps c.serve_next.ensures.leads

pub returns-in_err-serve_next-clause-serves : goal.returns-in_err-serve_next-clause-serves
returns-in_err-serve_next-clause-serves g c told sense w d moments s e asked =
    let state = g.K.Keeper.state in
    let coming = g.C.Clock.coming in
    let held = g.D.Door.held in
    let lines_of = g.D.Door.line_faults in
    let p = err_from_is_err_and c.from_residual.result c.from_residual.ensures.1 in
    subst (λ r. BringsTo sense w moments d (ManyEnds c.args.count r) (coming c.serve_next.new.clock) (held c.serve_next.new.door) (lines_of c.args.door.now) (lines_of c.serve_next.new.door) (state c.args.keeper.now) (state c.serve_next.new.keeper)) (sym p.1)
    (failed_many sense w moments d c.loop-served._served c.args.count (coming c.serve_next.new.clock) (held c.serve_next.new.door) (lines_of c.args.door.now) (lines_of c.serve_next.new.door) (state c.args.keeper.now) (state c.serve_next.new.keeper) p.0 (omega (arith, c.loop-served-test.true))
    (gone_on sense (Err c.in_err-serve_next.field-0.0) w moments d c.loop-served._served (state c.args.keeper.now) (state c.loop-served.keeper) (state c.serve_next.new.keeper) (coming c.loop-served.clock) (coming c.serve_next.new.clock) (held c.loop-served.door) (held c.serve_next.new.door)
    (lines_of c.args.door.now) (lines_of c.loop-served.door) (lines_of c.serve_next.new.door) told.1 c.serve_next.ensures.steps (c.loop-served.invariant.goes (told.0, c.serve_next.ensures.steps.stood told.1) sense w d moments s e asked)
    c.in_err-serve_next.ensures.serves))

pub returns-then-not-branch-clause-serves : goal.returns-then-not-branch-clause-serves
returns-then-not-branch-clause-serves g c told sense w d moments s e asked =
    let state = g.K.Keeper.state in
    let coming = g.C.Clock.coming in
    let held = g.D.Door.held in
    let lines_of = g.D.Door.line_faults in
    ended_many sense w moments d c.loop-served._served c.args.count (coming c.serve_next.new.clock) (held c.serve_next.new.door) (lines_of c.args.door.now) (lines_of c.serve_next.new.door) (state c.args.keeper.now) (state c.serve_next.new.keeper) (omega (arith, c.loop-served-test.true))
    (gone_on sense (Ok false) w moments d c.loop-served._served (state c.args.keeper.now) (state c.loop-served.keeper) (state c.serve_next.new.keeper) (coming c.loop-served.clock) (coming c.serve_next.new.clock) (held c.loop-served.door) (held c.serve_next.new.door)
    (lines_of c.args.door.now) (lines_of c.loop-served.door) (lines_of c.serve_next.new.door) told.1 c.serve_next.ensures.steps (c.loop-served.invariant.goes (told.0, c.serve_next.ensures.steps.stood told.1) sense w d moments s e asked)
    (rw c.if-not-branch.true at c.in_ok-serve_next.ensures.serves))

pub returns-clause-serves : goal.returns-clause-serves
returns-clause-serves g c told sense w d moments s e asked =
    full_many sense w moments d c.loop-served._served c.args.count (g.C.Clock.coming c.loop-served.clock) (g.D.Door.held c.loop-served.door) (g.D.Door.line_faults c.args.door.now) (g.D.Door.line_faults c.loop-served.door) (g.K.Keeper.state c.args.keeper.now) (g.K.Keeper.state c.loop-served.keeper)
    c.loop-served.auto._served-end c.loop-served-test.false (c.loop-served.invariant.goes told sense w d moments s e asked)

pub returns-in_err-serve_next-clause-falls : goal.returns-in_err-serve_next-clause-falls
returns-in_err-serve_next-clause-falls g c fell w d moments s e asked =
    let state = g.K.Keeper.state in
    let coming = g.C.Clock.coming in
    let held = g.D.Door.held in
    let lines_of = g.D.Door.line_faults in
    bringing.fell_on w moments d (state c.args.keeper.now) (state c.loop-served.keeper) (state c.serve_next.new.keeper) (coming c.loop-served.clock) (held c.loop-served.door) (held c.serve_next.new.door)
    c.loop-served._served (lines_of c.args.door.now) (lines_of c.loop-served.door) c.serve_next.ensures.steps fell
    (λ stands. c.loop-served.invariant.goes (fell.0, stands) of_all w d moments s e asked) (λ shut. c.loop-served.invariant.fallen (fell.0, fell.1, shut, c.serve_next.ensures.steps.was_clean fell.3) w d moments s e asked)
    c.serve_next.ensures.falls c.serve_next.ensures.undone

pub returns-then-not-branch-clause-falls : goal.returns-then-not-branch-clause-falls
returns-then-not-branch-clause-falls g c fell w d moments s e asked =
    let state = g.K.Keeper.state in
    let coming = g.C.Clock.coming in
    let held = g.D.Door.held in
    let lines_of = g.D.Door.line_faults in
    bringing.fell_on w moments d (state c.args.keeper.now) (state c.loop-served.keeper) (state c.serve_next.new.keeper) (coming c.loop-served.clock) (held c.loop-served.door) (held c.serve_next.new.door)
    c.loop-served._served (lines_of c.args.door.now) (lines_of c.loop-served.door) c.serve_next.ensures.steps fell
    (λ stands. c.loop-served.invariant.goes (fell.0, stands) of_all w d moments s e asked) (λ shut. c.loop-served.invariant.fallen (fell.0, fell.1, shut, c.serve_next.ensures.steps.was_clean fell.3) w d moments s e asked)
    c.serve_next.ensures.falls c.serve_next.ensures.undone

pub returns-clause-falls : goal.returns-clause-falls
returns-clause-falls g c fell w d moments s e asked = c.loop-served.invariant.fallen fell w d moments s e asked
