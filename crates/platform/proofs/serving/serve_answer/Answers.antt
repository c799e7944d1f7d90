use Rattle.std.proofs.Common.{rules, inl, inr, ◌≡◌, ◌∙◌, refl, ap, sym, subst, [], Err}
use Rattle.server.specs.Exchanges.{LeavesBehind}
use Rattle.store_kv.specs.State.{TrustedAfter}
use Rattle.server.specs.Falls.{Falls}
use Rattle.server.specs.Turning.{Serves}
use Rattle.store_abstraction.specs.Fails.{sees_version}
use Rattle.store_abstraction.specs.Stands.{Stands}
use Rattle.platform.specs.Seen.{Seen}
use Rattle.platform.specs.Serving.{IsOpening, RunsAnswer}
use Rattle.commands.specs.declared.stop.Stop.{Stop}
use Rattle.store_abstraction.specs.Opening.{OpensAs}
use Rattle.platform.proofs.Answering.{answered, failed_opening, opened_only}
use Rattle.platform.proofs.Falling.{fell_opening}
use Rattle.platform.proofs.serving.serve_answer.Goals as goal

-- with the source and the sink by other names
moved : {S W : Type 0} (P : S → W → Type 0) (s s2 : S) (v v2 : W) → s ≡ s2 → v ≡ v2 → P s v → P s2 v2
moved P s s2 v v2 e f h = subst (λ x. P x v2) e (subst (λ y. P s y) f h)

pub returns-in-Ok-clause-runs : goal.returns-in-Ok-clause-runs
returns-in-Ok-clause-runs g c told known sense w s door faults lines =
    let state = g.K.Keeper.state in
    let left = g.S.Source.left in
    let written = g.W.Sink.written in
    let coming = g.C.Clock.coming in
    let first = c.args.keeper.now in
    let mid = c.open_tables.new.keeper in
    let last = c.connection.new.keeper in
    let opening = c.open_tables.ensures in
    let steps = c.connection.ensures.steps in
    let opened : LeavesBehind sense w [] (state first) (state mid) = c.serving_laws.ensures.left_by_reading sense w first mid opening.steps (λ trusted. opening.same (told.0, trusted)) s in
    let at = opened.tables (steps.stood told.1) in
    let over = c.connection.new.wire in
    let a : Seen = record { keeper = state first; door = door; door_faults = faults; line_faults = lines; left = left c.args.source.now; read_faults = g.S.Source.faults c.args.source.now; written = written c.args.sink.now; write_faults = g.W.Sink.faults c.args.sink.now; coming = coming c.args.clock.now } in
    let b : Seen = record { keeper = state last; door = door; door_faults = faults; line_faults = lines; left = left over.source.now; read_faults = g.S.Source.faults over.source.now; written = written over.sink.now; write_faults = g.W.Sink.faults over.sink.now; coming = coming c.connection.new.clock } in
    let runs : RunsAnswer sense w a b c.answer_end.result =
    answered sense w a b (state mid) c.connection.result c.answer_end.result c.answer_end.ensures
    (λ end xs h. c.serving_laws.ensures.left_from_open sense w end xs first mid last opened h) c.isolation_laws.ensures
    (λ moments input asked here. subst (λ x. Serves sense w moments input (state mid) (state last) (coming c.connection.new.clock) (written x) (written over.sink.now) c.connection.result) c.new-wire.ensures.sink_held
    (c.connection.ensures.serves (at.0, told.1) sense w moments input at.1 asked (ap left c.new-wire.ensures.source_held ∙ here))) in
    moved (λ x y. RunsAnswer sense w a (record { keeper = state last; door = door; door_faults = faults; line_faults = lines; left = left x; read_faults = g.S.Source.faults x; written = written y; write_faults = g.W.Sink.faults y; coming = coming c.connection.new.clock }) c.answer_end.result) over.source.now _ over.sink.now _ (search rules) (search rules) runs

pub returns-in-Ok-clause-leads : goal.returns-in-Ok-clause-leads
returns-in-Ok-clause-leads g c tells trusted w s =
    let first = c.args.keeper.now in
    let mid = c.open_tables.new.keeper in
    let opening = c.open_tables.ensures in
    c.serving_laws.ensures.led_from_open w first mid c.connection.new.keeper
    (c.serving_laws.ensures.led_by_reading w first mid (λ still. opening.same (tells, still)) (opening.crash tells) s)
    c.connection.ensures.steps c.connection.ensures.leads

pub returns-in-Err-clause-runs : goal.returns-in-Err-clause-runs
returns-in-Err-clause-runs g c told known sense w s door faults lines =
    let state = g.K.Keeper.state in
    let first = c.args.keeper.now in
    let mid = c.open_tables.new.keeper in
    let opening = c.open_tables.ensures in
    let a : Seen = record { keeper = state first; door = door; door_faults = faults; line_faults = lines; left = g.S.Source.left c.args.source.now; read_faults = g.S.Source.faults c.args.source.now; written = g.W.Sink.written c.args.sink.now; write_faults = g.W.Sink.faults c.args.sink.now; coming = g.C.Clock.coming c.args.clock.now } in
    let b : Seen = record { keeper = state mid; door = door; door_faults = faults; line_faults = lines; left = g.S.Source.left c.args.source.now; read_faults = g.S.Source.faults c.args.source.now; written = g.W.Sink.written c.args.sink.now; write_faults = g.W.Sink.faults c.args.sink.now; coming = g.C.Clock.coming c.args.clock.now } in
    λ input moments _ _. inl (opened_only sense w a b c.from.result
    (subst (λ (x : Stop). IsOpening (Err x)) (sym c.from.ensures)
    (failed_opening c.stands_laws.ensures.one_version (state first).tables c.in-Err.fail (subst (OpensAs (state first).tables) c.in-Err.is (opening.opens told)) known))
    (c.serving_laws.ensures.left_by_reading sense w first mid opening.steps (λ trusted. opening.same (told.0, trusted)) s)
    refl refl refl refl)

pub returns-in-Ok-clause-falls : goal.returns-in-Ok-clause-falls
returns-in-Ok-clause-falls g c fell w s input moments here asked =
    let state = g.K.Keeper.state in
    let left = g.S.Source.left in
    let written = g.W.Sink.written in
    let mid = c.open_tables.new.keeper in
    let opening = c.open_tables.ensures in
    let stands = subst (λ r. TrustedAfter (sees_version r) (state mid)) c.in-Ok.is opening.trusted refl (c.connection.ensures.steps.was_clean fell.3) in
    let at = opening.same (fell.0, stands) in
    let over = c.connection.new.wire in
    let falls = c.connection.ensures.falls (at.0, stands, fell.2, fell.3) w moments input (subst (λ m. Stands m w) (sym at.1) s) asked (ap left c.new-wire.ensures.source_held ∙ here) in
    let from_sink : Falls w moments input (written c.args.sink.now) (written over.sink.now) (state c.connection.new.keeper) =
    subst (λ x. Falls w moments input (written x) (written over.sink.now) (state c.connection.new.keeper)) c.new-wire.ensures.sink_held falls in
    inr (subst (λ x. Falls w moments input (written c.args.sink.now) (written x) (state c.connection.new.keeper)) (search rules) from_sink)

pub returns-in-Err-clause-falls : goal.returns-in-Err-clause-falls
returns-in-Err-clause-falls g c fell w s input moments here asked =
    let state = g.K.Keeper.state in
    let first = c.args.keeper.now in
    inl (fell_opening w (state first) (state c.open_tables.new.keeper) c.in-Err.fail c.from.result c.from.ensures (g.met.K.Keeper.settled first fell.0 fell.1) s (c.open_tables.ensures.crash fell.0 fell.3))
