use Rattle.std.proofs.Common.{Err, [], inl, inr, refl, subst, sym}
use Rattle.store_kv.specs.State.{TrustedAfter}
use Rattle.server.specs.Exchanges.{LeavesBehind}
use Rattle.store_abstraction.specs.Fails.{sees_version}
use Rattle.store_abstraction.specs.Opening.{OpensAs}
use Rattle.store_abstraction.specs.Stands.{Stands}
use Rattle.platform.specs.Seen.{Seen}
use Rattle.platform.specs.Serving.{IsOpening}
use Rattle.commands.specs.declared.stop.Stop.{Stop}
use Rattle.platform.proofs.Answering.{failed_opening, opened_only, served}
use Rattle.platform.proofs.Falling.{fell_opening}
use Rattle.platform.proofs.serving.serve_door.Goals as goal

pub returns-in-Ok-clause-runs : goal.returns-in-Ok-clause-runs
returns-in-Ok-clause-runs g c told known sense w s left written reads writes =
    let state = g.K.Keeper.state in
    let held = g.D.Door.held in
    let lines = g.D.Door.line_faults in
    let coming = g.C.Clock.coming in
    let first = c.args.keeper.now in
    let mid = c.open_tables.new.keeper in
    let last = c.open_and_serve.new.keeper in
    let opening = c.open_tables.ensures in
    let steps = c.open_and_serve.ensures.steps in
    let opened : LeavesBehind sense w [] (state first) (state mid) = c.serving_laws.ensures.left_by_reading sense w first mid opening.steps (λ trusted. opening.same (told.0, trusted)) s in
    let at = opened.tables (steps.stood told.1) in
    let a : Seen = record { keeper = state first; door = held c.args.door.now; door_faults = g.D.Door.faults c.args.door.now; line_faults = lines c.args.door.now; left = left; read_faults = reads; written = written; write_faults = writes; coming = coming c.args.clock.now } in
    let b : Seen = record { keeper = state last; door = held c.open_and_serve.new.door; door_faults = g.D.Door.faults c.open_and_serve.new.door; line_faults = lines c.open_and_serve.new.door; left = left; read_faults = reads; written = written; write_faults = writes; coming = coming c.open_and_serve.new.clock } in
    served sense w a b (state mid) c.args.count c.open_and_serve.result c.serve_end.result c.serve_end.ensures
    (λ end xs h. c.serving_laws.ensures.left_from_open sense w end xs first mid last opened h) c.isolation_laws.ensures
    (λ d moments here asked. c.open_and_serve.ensures.serves (at.0, told.1) sense w d moments at.1 here asked)

pub returns-in-Ok-clause-leads : goal.returns-in-Ok-clause-leads
returns-in-Ok-clause-leads g c tells trusted w s =
    let first = c.args.keeper.now in
    let mid = c.open_tables.new.keeper in
    let opening = c.open_tables.ensures in
    c.serving_laws.ensures.led_from_open w first mid c.open_and_serve.new.keeper
    (c.serving_laws.ensures.led_by_reading w first mid (λ still. opening.same (tells, still)) (opening.crash tells) s)
    c.open_and_serve.ensures.steps c.open_and_serve.ensures.leads

pub returns-in-Err-clause-runs : goal.returns-in-Err-clause-runs
returns-in-Err-clause-runs g c told known sense w s left written reads writes =
    let state = g.K.Keeper.state in
    let first = c.args.keeper.now in
    let mid = c.open_tables.new.keeper in
    let opening = c.open_tables.ensures in
    let a : Seen = record { keeper = state first; door = g.D.Door.held c.args.door.now; door_faults = g.D.Door.faults c.args.door.now; line_faults = g.D.Door.line_faults c.args.door.now; left = left; read_faults = reads; written = written; write_faults = writes; coming = g.C.Clock.coming c.args.clock.now } in
    let b : Seen = record { keeper = state mid; door = g.D.Door.held c.args.door.now; door_faults = g.D.Door.faults c.args.door.now; line_faults = g.D.Door.line_faults c.args.door.now; left = left; read_faults = reads; written = written; write_faults = writes; coming = g.C.Clock.coming c.args.clock.now } in
    λ d moments _ _. inl (opened_only sense w a b c.from.result
    (subst (λ (x : Stop). IsOpening (Err x)) (sym c.from.ensures)
    (failed_opening c.stands_laws.ensures.one_version (state first).tables c.in-Err.fail (subst (OpensAs (state first).tables) c.in-Err.is (opening.opens told)) known))
    (c.serving_laws.ensures.left_by_reading sense w first mid opening.steps (λ trusted. opening.same (told.0, trusted)) s)
    refl refl refl refl)

pub returns-in-Ok-clause-falls : goal.returns-in-Ok-clause-falls
returns-in-Ok-clause-falls g c fell w s d moments here asked =
    let state = g.K.Keeper.state in
    let mid = c.open_tables.new.keeper in
    let opening = c.open_tables.ensures in
    let stands = subst (λ r. TrustedAfter (sees_version r) (state mid)) c.in-Ok.is opening.trusted refl (c.open_and_serve.ensures.steps.was_clean fell.3) in
    let at = opening.same (fell.0, stands) in
    inr (c.open_and_serve.ensures.falls (at.0, stands, fell.2, fell.3) w d moments (subst (λ m. Stands m w) (sym at.1) s) here asked)

pub returns-in-Err-clause-falls : goal.returns-in-Err-clause-falls
returns-in-Err-clause-falls g c fell w s d moments here asked =
    let state = g.K.Keeper.state in
    let first = c.args.keeper.now in
    inl (fell_opening w (state first) (state c.open_tables.new.keeper) c.in-Err.fail c.from.result c.from.ensures (g.met.K.Keeper.settled first fell.0 fell.1) s (c.open_tables.ensures.crash fell.0 fell.3))
