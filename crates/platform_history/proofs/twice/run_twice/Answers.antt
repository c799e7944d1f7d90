use Rattle.std.proofs.Common.{[], ◌∷◌, map, string_bytes, refl, sym}
use Rattle.store_kv.specs.Memory.{InMemory, memory_state}
use Rattle.commands.specs.Commands.{command_of}
use Rattle.platform_history.specs.Calls.{Call, IsMade}
use Rattle.platform_history.specs.Runs.{Around, Run}
use Rattle.platform_history.proofs.twice.run_twice.Goals as goal

pub returns : goal.returns
returns g c =
    let k = c.in_ok-keeper.keeper in
    let l = c.run-one.new.keeper in
    let m = c.run-two.new.keeper in
    let before : Around = record { keeper_faults = 0; door = g.D.Door.held c.args.door.now; door_faults = g.D.Door.faults c.args.door.now; line_faults = g.D.Door.line_faults c.args.door.now; left = g.S.Source.left c.args.source.now; read_faults = g.S.Source.faults c.args.source.now; written = g.W.Sink.written c.args.sink.now; write_faults = g.W.Sink.faults c.args.sink.now; coming = g.C.Clock.coming c.args.clock.now } in
    let between : Around = record { keeper_faults = l.faults; door = g.D.Door.held c.run-one.new.door; door_faults = g.D.Door.faults c.run-one.new.door; line_faults = g.D.Door.line_faults c.run-one.new.door; left = g.S.Source.left c.run-one.new.source; read_faults = g.S.Source.faults c.run-one.new.source; written = g.W.Sink.written c.run-one.new.sink; write_faults = g.W.Sink.faults c.run-one.new.sink; coming = g.C.Clock.coming c.run-one.new.clock } in
    let after : Around = record { keeper_faults = m.faults; door = g.D.Door.held c.run-two.new.door; door_faults = g.D.Door.faults c.run-two.new.door; line_faults = g.D.Door.line_faults c.run-two.new.door; left = g.S.Source.left c.run-two.new.source; read_faults = g.S.Source.faults c.run-two.new.source; written = g.W.Sink.written c.run-two.new.sink; write_faults = g.W.Sink.faults c.run-two.new.sink; coming = g.C.Clock.coming c.run-two.new.clock } in
    let first : Run = record { command = command_of (map string_bytes c.args.first.now); before = before; after = between; status = c.run-one.result } in
    let second : Run = record { command = command_of (map string_bytes c.args.second.now); before = between; after = after; status = c.run-two.result } in
    let one : Call InMemory = record { run = first; keeper = k; next = l } in
    let two : Call InMemory = record { run = second; keeper = l; next = m } in
    let made : IsMade memory_state one = record { status = c.run-one.ensures.status; promise = c.run-one.ensures.promise; unused = c.run-one.ensures.unused.keeper_same; faults_before = sym (c.in_ok-keeper.ensures.counts).1; faults_after = refl } in
    let made_then : IsMade memory_state two = record { status = c.run-two.ensures.status; promise = c.run-two.ensures.promise; unused = c.run-two.ensures.unused.keeper_same; faults_before = refl; faults_after = refl } in (
      c.run-one.new.door,
      c.run-one.new.source,
      c.run-one.new.sink,
      c.run-one.new.clock,
      l.faults,
      m.faults,
      c.history_laws.ensures.in_turn k (one ∷ two ∷ []) tt refl c.in_ok-keeper.ensures.no_rows (refl, made, tt, refl, refl, (refl, made_then, tt, refl, refl, tt)),
    )
