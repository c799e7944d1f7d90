use Rattle.server.specs.Answers.{bytes_in}
use Rattle.server.proofs.Fallen.{fell_on, undone_reply}
use Rattle.server.proofs.Kept.{sure_by}
use Rattle.server.proofs.Turned.{replied}
use Rattle.server.proofs.lines.reply.Goals as goal

pub returns-clause-sure : goal.returns-clause-sure
returns-clause-sure g c holds =
    sure_by (g.K.Keeper.state c.answer_message-answer.new.keeper) c.answer_message-answer.result c.answer_message-answer.ensures.acknowledged c.is_made.result c.is_made.ensures holds

pub returns-clause-replies : goal.returns-clause-replies
returns-clause-replies g c told sense w moments s e =
    replied sense w c.args.message.now moments (g.K.Keeper.state c.args.keeper.now) (g.K.Keeper.state c.answer_message-answer.new.keeper) (g.C.Clock.coming c.args.clock.now) (g.C.Clock.coming c.now-now.new.self)
    (g.W.Wire.output c.args.wire.now) (g.W.Wire.output c.write_answer.new.wire) c.now-now.result (bytes_in c.args.message.now.method c.answer_message-answer.result) c.write_answer.result
    e c.now-now.ensures.first c.now-now.ensures.asked (c.answer_message-answer.ensures.answers told sense w s) c.write_answer.ensures.wrote

pub returns-clause-falls : goal.returns-clause-falls
returns-clause-falls g c fell w moments s e =
    let state = g.K.Keeper.state in
    let answer = c.answer_message-answer in
    fell_on w c.args.message.now c.now-now.result moments (state c.args.keeper.now) (state answer.new.keeper) (g.C.Clock.coming c.args.clock.now)
    (g.W.Wire.output c.args.wire.now) (g.W.Wire.output c.write_answer.new.wire) answer.result c.write_answer.result
    (g.met.K.Keeper.settled c.args.keeper.now fell.0 fell.1) fell s e c.now-now.ensures.first answer.ensures.acknowledged answer.ensures.form.0 answer.ensures.crash c.write_answer.ensures.wrote

pub returns-clause-undone : goal.returns-clause-undone
returns-clause-undone g c shut clean =
    let state = g.K.Keeper.state in
    let answer = c.answer_message-answer in
    undone_reply c.args.message.now (state c.args.keeper.now) (state answer.new.keeper) (g.W.Wire.output c.args.wire.now) (g.W.Wire.output c.write_answer.new.wire) answer.result c.write_answer.result
    answer.ensures.steps answer.ensures.acknowledged answer.ensures.form.0 c.write_answer.ensures.wrote shut clean
