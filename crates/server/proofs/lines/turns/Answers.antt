use Rattle.std.proofs.Common.{arith, true, false, Ok, Err}
use Rattle.std.specs.Io.KnownBytes.{prepend_known}
use Rattle.std.proofs.KnownBytes.{Keeps-refl}
use Rattle.std.proofs.lemmas.Result.{err_from_is_err_and}
use Rattle.store_kv.proofs.Calls.{steps_same, steps_on}
use Rattle.server.proofs.Fallen.{fallen_on, not_fell, stays_shut, undone_front, undone_none, undone_then}
use Rattle.server.proofs.Goes.{start, go_on, ends}
use Rattle.server.proofs.Leading.{led_same, led_then}
use Rattle.server.specs.Senses.{of_all}
use Rattle.server.proofs.lines.turns.Goals as goal

pub loop-count-init : goal.loop-count-init
loop-count-init g c = record {
  sure = λ holds. absurd cc;
  steps = steps_same (g.K.Keeper.state c.args.keeper.now);
  leads = led_same (g.K.Keeper.state c.args.keeper.now);
  stays = g.met.W.Wire.stays_refl c.args.wire.now;
  reads = omega arith;
  writes = omega arith;
  goes = λ told sense w moments input s e i. start sense w moments input (g.K.Keeper.state c.args.keeper.now) (g.W.Wire.output c.args.wire.now) (g.C.Clock.coming c.args.clock.now) (prepend_known c.args.buffer.now (g.W.Wire.input c.args.wire.now)) told.0 s e i;
  fallen = λ fell w moments input s e i. absurd (not_fell (g.K.Keeper.state c.args.keeper.now) fell);
  undone = λ shut clean. undone_none true (g.W.Wire.output c.args.wire.now) (g.W.Wire.output c.args.wire.now) (Keeps-refl (g.W.Wire.output c.args.wire.now));
}

pub loop-count-preserved : goal.loop-count-preserved
loop-count-preserved g c =
    let state = g.K.Keeper.state in
    let coming = g.C.Clock.coming in
    let reads = c.turn.ensures.reads.later in
    let writes = c.turn.ensures.writes.later in
    record {
      sure = c.turn.ensures.sure;
      steps = steps_on (state c.args.keeper.now) (state c.loop-count.keeper) (state c.turn.new.keeper) c.loop-count.invariant.steps c.turn.ensures.steps;
      leads = led_then (state c.args.keeper.now) (state c.loop-count.keeper) (state c.turn.new.keeper) c.loop-count.invariant.leads c.turn.ensures.steps c.turn.ensures.leads;
      stays = g.met.W.Wire.stays_trans c.args.wire.now c.loop-count.wire c.turn.new.wire c.loop-count.invariant.stays c.turn.ensures.stays;
      reads = omega (arith, c.loop-count.invariant.reads, reads);
      writes = omega (arith, c.loop-count.invariant.writes, writes);
      goes = λ told sense w moments input s e i.
          go_on sense w moments input (state c.args.keeper.now) (g.W.Wire.output c.args.wire.now) (state c.loop-count.keeper) (state c.turn.new.keeper)
          (coming c.loop-count.clock) (prepend_known c.loop-count.buffer (g.W.Wire.input c.loop-count.wire)) (g.W.Wire.output c.loop-count.wire)
          (coming c.turn.new.clock) (prepend_known c.turn.new.buffer (g.W.Wire.input c.turn.new.wire)) (g.W.Wire.output c.turn.new.wire) c.loop-count.count told.1 c.turn.ensures.steps
          (c.loop-count.invariant.goes (told.0, c.turn.ensures.steps.stood told.1) sense w moments input s e i) (rw c.if-branch.false at c.in_ok-turn.ensures.turns);
      fallen = λ fell w moments input s e i.
          fallen_on w moments input (state c.args.keeper.now) (g.W.Wire.output c.args.wire.now) (state c.loop-count.keeper) (state c.turn.new.keeper)
          (coming c.loop-count.clock) (prepend_known c.loop-count.buffer (g.W.Wire.input c.loop-count.wire)) (g.W.Wire.output c.loop-count.wire) (g.W.Wire.output c.turn.new.wire) c.loop-count.count (Ok false) c.turn.ensures.steps fell
          (λ stands. c.loop-count.invariant.goes (fell.0, stands) of_all w moments input s e i) (λ shut. c.loop-count.invariant.fallen (fell.0, fell.1, shut, c.turn.ensures.steps.was_clean fell.3) w moments input s e i)
          c.in_ok-turn.ensures.falls c.in_ok-turn.ensures.undone;
      undone = λ shut clean.
          undone_then true (g.W.Wire.output c.args.wire.now) (g.W.Wire.output c.loop-count.wire) (g.W.Wire.output c.turn.new.wire) (c.loop-count.invariant.undone shut (c.turn.ensures.steps.was_clean clean))
          (c.in_ok-turn.ensures.undone (stays_shut (state c.args.keeper.now) (state c.loop-count.keeper) c.loop-count.invariant.steps shut) clean);
    }

pub returns-in_err-turn-clause-leads : goal.returns-in_err-turn-clause-leads
returns-in_err-turn-clause-leads g c =
    let state = g.K.Keeper.state in
    led_then (state c.args.keeper.now) (state c.loop-count.keeper) (state c.turn.new.keeper) c.loop-count.invariant.leads c.turn.ensures.steps c.turn.ensures.leads

pub returns-then-branch-clause-leads : goal.returns-then-branch-clause-leads
returns-then-branch-clause-leads g c =
    let state = g.K.Keeper.state in
    led_then (state c.args.keeper.now) (state c.loop-count.keeper) (state c.turn.new.keeper) c.loop-count.invariant.leads c.turn.ensures.steps c.turn.ensures.leads

pub returns-in_err-turn-clause-serves : goal.returns-in_err-turn-clause-serves
returns-in_err-turn-clause-serves g c told sense w moments input s e i =
    let state = g.K.Keeper.state in
    let coming = g.C.Clock.coming in
    let p = err_from_is_err_and c.from_residual.result c.from_residual.ensures.1 in
    rw (p.1, p.2) (ends sense w moments input (state c.args.keeper.now) (g.W.Wire.output c.args.wire.now) (state c.loop-count.keeper) (state c.turn.new.keeper)
    (coming c.loop-count.clock) (prepend_known c.loop-count.buffer (g.W.Wire.input c.loop-count.wire)) (g.W.Wire.output c.loop-count.wire)
    (coming c.turn.new.clock) (prepend_known c.turn.new.buffer (g.W.Wire.input c.turn.new.wire)) (g.W.Wire.output c.turn.new.wire) c.loop-count.count (Err _) told.1 c.turn.ensures.steps
    (c.loop-count.invariant.goes (told.0, c.turn.ensures.steps.stood told.1) sense w moments input s e i) c.in_err-turn.ensures.turns)

pub returns-then-branch-clause-serves : goal.returns-then-branch-clause-serves
returns-then-branch-clause-serves g c told sense w moments input s e i =
    let state = g.K.Keeper.state in
    let coming = g.C.Clock.coming in
    ends sense w moments input (state c.args.keeper.now) (g.W.Wire.output c.args.wire.now) (state c.loop-count.keeper) (state c.turn.new.keeper)
    (coming c.loop-count.clock) (prepend_known c.loop-count.buffer (g.W.Wire.input c.loop-count.wire)) (g.W.Wire.output c.loop-count.wire)
    (coming c.turn.new.clock) (prepend_known c.turn.new.buffer (g.W.Wire.input c.turn.new.wire)) (g.W.Wire.output c.turn.new.wire) c.loop-count.count (Ok tt) told.1 c.turn.ensures.steps
    (c.loop-count.invariant.goes (told.0, c.turn.ensures.steps.stood told.1) sense w moments input s e i) (rw c.if-branch.true at c.in_ok-turn.ensures.turns)

pub returns-clause-serves : goal.returns-clause-serves
returns-clause-serves g c told sense w moments input s e i =
    let few = (c.loop-count.invariant.goes told sense w moments input s e i).7 in
    let no : ⊥ = omega (arith, few, c.loop-count-test.false) in
    absurd no

pub returns-in_err-turn-clause-falls : goal.returns-in_err-turn-clause-falls
returns-in_err-turn-clause-falls g c fell w moments input s e i =
    let state = g.K.Keeper.state in
    let coming = g.C.Clock.coming in
    fallen_on w moments input (state c.args.keeper.now) (g.W.Wire.output c.args.wire.now) (state c.loop-count.keeper) (state c.turn.new.keeper)
    (coming c.loop-count.clock) (prepend_known c.loop-count.buffer (g.W.Wire.input c.loop-count.wire)) (g.W.Wire.output c.loop-count.wire) (g.W.Wire.output c.turn.new.wire) c.loop-count.count (Err _) c.turn.ensures.steps fell
    (λ stands. c.loop-count.invariant.goes (fell.0, stands) of_all w moments input s e i) (λ shut. c.loop-count.invariant.fallen (fell.0, fell.1, shut, c.turn.ensures.steps.was_clean fell.3) w moments input s e i)
    c.in_err-turn.ensures.falls c.in_err-turn.ensures.undone

pub returns-then-branch-clause-falls : goal.returns-then-branch-clause-falls
returns-then-branch-clause-falls g c fell w moments input s e i =
    let state = g.K.Keeper.state in
    let coming = g.C.Clock.coming in
    let f = fallen_on w moments input (state c.args.keeper.now) (g.W.Wire.output c.args.wire.now) (state c.loop-count.keeper) (state c.turn.new.keeper)
    (coming c.loop-count.clock) (prepend_known c.loop-count.buffer (g.W.Wire.input c.loop-count.wire)) (g.W.Wire.output c.loop-count.wire) (g.W.Wire.output c.turn.new.wire) c.loop-count.count (Ok true) c.turn.ensures.steps fell
    (λ stands. c.loop-count.invariant.goes (fell.0, stands) of_all w moments input s e i) (λ shut. c.loop-count.invariant.fallen (fell.0, fell.1, shut, c.turn.ensures.steps.was_clean fell.3) w moments input s e i)
    c.in_ok-turn.ensures.falls c.in_ok-turn.ensures.undone in
    f.0

pub returns-clause-falls : goal.returns-clause-falls
returns-clause-falls g c fell w moments input s e i = (c.loop-count.invariant.fallen fell w moments input s e i).0

pub returns-in_err-turn-clause-undone : goal.returns-in_err-turn-clause-undone
returns-in_err-turn-clause-undone g c shut clean =
    let state = g.K.Keeper.state in
    undone_then false (g.W.Wire.output c.args.wire.now) (g.W.Wire.output c.loop-count.wire) (g.W.Wire.output c.turn.new.wire) (c.loop-count.invariant.undone shut (c.turn.ensures.steps.was_clean clean))
    (c.in_err-turn.ensures.undone (stays_shut (state c.args.keeper.now) (state c.loop-count.keeper) c.loop-count.invariant.steps shut) clean)

pub returns-then-branch-clause-undone : goal.returns-then-branch-clause-undone
returns-then-branch-clause-undone g c shut clean =
    let state = g.K.Keeper.state in
    let output = g.W.Wire.output in
    undone_front true (output c.args.wire.now) (output c.turn.new.wire)
    (undone_then true (output c.args.wire.now) (output c.loop-count.wire) (output c.turn.new.wire) (c.loop-count.invariant.undone shut (c.turn.ensures.steps.was_clean clean))
    (c.in_ok-turn.ensures.undone (stays_shut (state c.args.keeper.now) (state c.loop-count.keeper) c.loop-count.invariant.steps shut) clean))

pub returns-clause-undone : goal.returns-clause-undone
returns-clause-undone g c shut clean = undone_front true (g.W.Wire.output c.args.wire.now) (g.W.Wire.output c.loop-count.wire) (c.loop-count.invariant.undone shut clean)
