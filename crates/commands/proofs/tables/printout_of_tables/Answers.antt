use Rattle.std.proofs.Common.{◌≡◌, true, refl, sym, subst}
use Rattle.store_abstraction.specs.Fails.{sees_version}
use Rattle.store_abstraction.specs.Opening.{OpensAs}
use Rattle.commands.proofs.Ends.{crash_through, opened, opened_failed, unopened}
use Rattle.commands.proofs.tables.printout_of_tables.Goals as goal

pub returns-in-Ok-make_printout-clause-does : goal.returns-in-Ok-make_printout-clause-does
returns-in-Ok-make_printout-clause-does g c told w s =
    let state = g.K.Keeper.state in
    opened (state c.args.keeper.now) (state c.open_tables.new.keeper) c.open_tables.ensures.same c.open_tables.ensures.crash c.in-Ok.organisations c.in-Ok.ensures.counts (state c.make_printout.new.keeper) c.make_printout.ensures.steps
    (g.P.TableWork.does c.args.work.now) w c.make_printout.result told s c.make_printout.ensures.does c.in-Ok-make_printout.printout c.in-Ok-make_printout.is

pub returns-in-Err-make_printout-clause-does : goal.returns-in-Err-make_printout-clause-does
returns-in-Err-make_printout-clause-does g c told w s =
    let state = g.K.Keeper.state in
    opened_failed (state c.args.keeper.now) (state c.open_tables.new.keeper) c.open_tables.ensures.same c.open_tables.ensures.crash c.in-Ok.organisations c.in-Ok.ensures.counts (state c.make_printout.new.keeper) c.make_printout.ensures.steps
    (g.P.TableWork.does c.args.work.now) w c.make_printout.result told s c.make_printout.ensures.does c.in-Err-make_printout.fail c.in-Err-make_printout.is

pub returns-in-Ok-make_printout-clause-crash : goal.returns-in-Ok-make_printout-clause-crash
returns-in-Ok-make_printout-clause-crash g c tells _ clean w s m h =
    let state = g.K.Keeper.state in
    crash_through (state c.args.keeper.now) (state c.open_tables.new.keeper) c.open_tables.ensures.same c.open_tables.ensures.crash c.in-Ok.organisations c.in-Ok.ensures.counts (state c.make_printout.new.keeper) c.make_printout.ensures.steps
    (λ v. (g.P.TableWork.does c.args.work.now v).1) (c.open_tables.ensures.trusted (subst (λ r. sees_version r ≡ true) (sym c.in-Ok.is) refl)) c.make_printout.ensures.crash tells clean w s m h

pub returns-in-Err-make_printout-clause-crash : goal.returns-in-Err-make_printout-clause-crash
returns-in-Err-make_printout-clause-crash g c tells _ clean w s m h =
    let state = g.K.Keeper.state in
    crash_through (state c.args.keeper.now) (state c.open_tables.new.keeper) c.open_tables.ensures.same c.open_tables.ensures.crash c.in-Ok.organisations c.in-Ok.ensures.counts (state c.make_printout.new.keeper) c.make_printout.ensures.steps
    (λ v. (g.P.TableWork.does c.args.work.now v).1) (c.open_tables.ensures.trusted (subst (λ r. sees_version r ≡ true) (sym c.in-Ok.is) refl)) c.make_printout.ensures.crash tells clean w s m h

pub returns-in-Err-clause-does : goal.returns-in-Err-clause-does
returns-in-Err-clause-does g c told w s =
    let state = g.K.Keeper.state in
    unopened (state c.args.keeper.now) (state c.open_tables.new.keeper) c.open_tables.ensures.same c.open_tables.ensures.crash c.stands_laws.ensures.known c.stands_laws.ensures.one_version
    (g.P.TableWork.does c.args.work.now) w c.in-Err.fail told s (subst (OpensAs (state c.args.keeper.now).tables) c.in-Err.is (c.open_tables.ensures.opens told))
