use Rattle.std.proofs.Common.{Err, subst, sym}
use Rattle.server.specs.Own.{AsksFirst}
use Rattle.server.proofs.Asked.{asked_done, asked_failed}
use Rattle.server.proofs.request.ask_first.Goals as goal

pub returns-in-Ok : goal.returns-in-Ok
returns-in-Ok g c =
    let state = g.K.Keeper.state in
    let get = c.get-asked.ensures in
    asked_done (state c.args.keeper.now) (state c.get-asked.new.self) c.get-asked.result get.reads get.shown get.trusted get.cause get.quiet c.in-Ok._row c.in-Ok.is

pub returns-in-Err : goal.returns-in-Err
returns-in-Err g c =
    let state = g.K.Keeper.state in
    let get = c.get-asked.ensures in
    let old = state c.args.keeper.now in
    let new = state c.get-asked.new.self in
    subst (λ e. AsksFirst old new (Err e)) (sym c.from.ensures) (asked_failed old new c.get-asked.result get.reads get.shown get.trusted get.cause get.quiet c.in-Err.fail c.in-Err.is)
