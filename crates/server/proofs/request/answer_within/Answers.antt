use Rattle.std.proofs.Common.{subst}
use Rattle.model.specs.Step.{key_in}
use Rattle.server.specs.Own.{AsksFirst}
use Rattle.server.specs.Requests.{message_in}
use Rattle.server.proofs.Asked as asked
use Rattle.server.proofs.request.answer_within.Goals as goal

pub returns-in-Ok-clause-does : goal.returns-in-Ok-clause-does
returns-in-Ok-clause-does g c =
    let state = g.K.Keeper.state in
    let old = state c.args.keeper.now in
    let mid = state c.ask_first.new.keeper in
    let first = subst (AsksFirst old mid) c.in-Ok.is c.ask_first.ensures in
    let m = c.args.message.now in
    asked.does_after old mid first (state c.answer_drafted.new.keeper) (c.answer_drafted.ensures.asks first.trusted).steps
    (key_in (message_in m)) (message_in m) m.close c.args.now c.answer_drafted.result c.answer_drafted.ensures.does

pub returns-in-Err-clause-does : goal.returns-in-Err-clause-does
returns-in-Err-clause-does g c =
    let state = g.K.Keeper.state in
    let old = state c.args.keeper.now in
    let mid = state c.ask_first.new.keeper in
    let m = c.args.message.now in
    asked.does_none old mid c.in-Err.fail (subst (AsksFirst old mid) c.in-Err.is c.ask_first.ensures) (key_in (message_in m)) (message_in m) m.close c.args.now

pub returns-in-Ok-clause-form : goal.returns-in-Ok-clause-form
returns-in-Ok-clause-form g c =
    let state = g.K.Keeper.state in
    let old = state c.args.keeper.now in
    let mid = state c.ask_first.new.keeper in
    let first = subst (AsksFirst old mid) c.in-Ok.is c.ask_first.ensures in
    let m = c.args.message.now in
    asked.replies_after old mid first (state c.answer_drafted.new.keeper) (c.answer_drafted.ensures.asks first.trusted).steps (message_in m) m.close c.answer_drafted.result c.answer_drafted.ensures.form

pub returns-in-Ok-clause-asks : goal.returns-in-Ok-clause-asks
returns-in-Ok-clause-asks g c =
    let state = g.K.Keeper.state in
    let old = state c.args.keeper.now in
    let mid = state c.ask_first.new.keeper in
    let first = subst (AsksFirst old mid) c.in-Ok.is c.ask_first.ensures in
    asked.asks_after old mid first (state c.answer_drafted.new.keeper) (message_in c.args.message.now) c.answer_drafted.result (c.answer_drafted.ensures.asks first.trusted)

pub returns-in-Err-clause-asks : goal.returns-in-Err-clause-asks
returns-in-Err-clause-asks g c =
    let state = g.K.Keeper.state in
    let old = state c.args.keeper.now in
    let mid = state c.ask_first.new.keeper in
    asked.asks_none old mid c.in-Err.fail (subst (AsksFirst old mid) c.in-Err.is c.ask_first.ensures) (message_in c.args.message.now)
