use Rattle.std.proofs.Common.{true, refl}
use Rattle.server_http.specs.Reply.{no_memory, reply}
use Rattle.server.specs.Connections.{at_memory}
use Rattle.server.proofs.Fallen.{not_fell, undone_front, undone_words}
use Rattle.server.proofs.Goes.{fresh, at_once}
use Rattle.server.proofs.lines.connection.Goals as goal

pub returns-in-Ok-clause-serves : goal.returns-in-Ok-clause-serves
returns-in-Ok-clause-serves g c told sense w moments input s e i = c.turns.ensures.serves told sense w moments input s e (fresh c.in-Ok.buffer (g.W.Wire.input c.args.wire.now) input c.in-Ok.ensures i)

pub returns-in-Err-clause-serves : goal.returns-in-Err-clause-serves
returns-in-Err-clause-serves g c told sense w moments input s e i =
    at_once sense w moments input (g.K.Keeper.state c.args.keeper.now) (g.W.Wire.output c.args.wire.now) (g.C.Clock.coming c.args.clock.now) (g.W.Wire.output c.write_text.new.wire) c.write_text.result told s e (rw c.out_of_memory.ensures at c.write_text.ensures.wrote)

pub returns-in-Ok-clause-falls : goal.returns-in-Ok-clause-falls
returns-in-Ok-clause-falls g c fell w moments input s e i = c.turns.ensures.falls fell w moments input s e (fresh c.in-Ok.buffer (g.W.Wire.input c.args.wire.now) input c.in-Ok.ensures i)

pub returns-in-Err-clause-falls : goal.returns-in-Err-clause-falls
returns-in-Err-clause-falls g c fell w moments input s e i = absurd (not_fell (g.K.Keeper.state c.args.keeper.now) fell)

pub returns-in-Err-clause-undone : goal.returns-in-Err-clause-undone
returns-in-Err-clause-undone g c shut clean =
    let output = g.W.Wire.output in
    undone_front _ (output c.args.wire.now) (output c.write_text.new.wire)
    (undone_words at_memory (output c.args.wire.now) (output c.write_text.new.wire) (reply 507 no_memory true) c.write_text.result refl (rw c.out_of_memory.ensures at c.write_text.ensures.wrote))
