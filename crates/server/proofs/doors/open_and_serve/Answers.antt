use Rattle.std.proofs.Common.{subst, arith, []}
use Rattle.server.specs.Doors.{BringsTo, ManyEnds}
use Rattle.server.proofs.Brought.{brings_none, kept_door}
use Rattle.server.proofs.Fallen.{not_fell}
use Rattle.server.proofs.Leading.{led_same}
use Rattle.server.proofs.doors.open_and_serve.Goals as goal

pub returns-in-Ok-clause-serves : goal.returns-in-Ok-clause-serves
returns-in-Ok-clause-serves g c told sense w d moments s e asked =
    let state = g.K.Keeper.state in
    subst (λ n. BringsTo sense w moments d (ManyEnds c.args.count c.serve.result) (g.C.Clock.coming c.serve.new.clock) (g.D.Door.held c.serve.new.door) n (g.D.Door.line_faults c.serve.new.door) (state c.args.keeper.now) (state c.serve.new.keeper))
    c.open.ensures.line_faults
    (c.serve.ensures.serves told sense w d moments s (kept_door _ _ d e c.open.ensures.keeps) asked)

pub returns-in-Ok-clause-cause : goal.returns-in-Ok-clause-cause
returns-in-Ok-clause-cause g c =
    let before = c.open.ensures.cause.later in
    let after = c.serve.ensures.cause.later in
    record { later = omega (arith, before, after); rose = λ f. let rose = c.serve.ensures.cause.rose f in omega (arith, before, rose) }

pub returns-in-Err-clause-serves : goal.returns-in-Err-clause-serves
returns-in-Err-clause-serves g c told sense w d moments s e asked =
    let lines = c.open.ensures.line_faults in
    ([], d, moments, kept_door _ _ d e c.open.ensures.keeps, asked, brings_none sense w moments d (g.D.Door.line_faults c.args.door.now) (g.D.Door.line_faults c.open.new.self) (g.K.Keeper.state c.args.keeper.now) told.0 s (omega (arith, lines)), c.requires)

pub returns-in-Err-clause-leads : goal.returns-in-Err-clause-leads
returns-in-Err-clause-leads g c = led_same (g.K.Keeper.state c.args.keeper.now)

pub returns-in-Ok-clause-falls : goal.returns-in-Ok-clause-falls
returns-in-Ok-clause-falls g c fell w d moments s e asked = c.serve.ensures.falls fell w d moments s (kept_door _ _ d e c.open.ensures.keeps) asked

pub returns-in-Err-clause-falls : goal.returns-in-Err-clause-falls
returns-in-Err-clause-falls g c fell w d moments s e asked = absurd (not_fell (g.K.Keeper.state c.args.keeper.now) fell)
