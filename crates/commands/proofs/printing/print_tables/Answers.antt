use Rattle.std.proofs.Common.{Ok, subst, sym}
use Rattle.base_lemmas.proofs.Results.{err_from_parts as handed_on}
use Rattle.commands.specs.Deeds.{Prints, one_deed}
use Rattle.commands.specs.Statuses.{KeepsWorld}
use Rattle.commands.specs.Stops.{DoesOpened, behind, store_end, store_stop_of}
use Rattle.commands.specs.declared.printing.StoreStop.TheVariants as store_stop
use Rattle.commands.proofs.Ends.{opening_keeps, opening_stops}
use Rattle.commands.proofs.printing.print_tables.Goals as goal

pub returns-clause-prints : goal.returns-clause-prints
returns-clause-prints g c told w s =
    let old = g.W.Sink.written c.args.sink.now in
    let new = g.W.Sink.written c.write_printout.new.sink in
    let op = g.P.TableWork.does c.args.work.now in
    let status = c.in_ok-write_printout.field-0 in
    subst (λ p. Prints w (one_deed p (op w).1) old new (Ok status) (op w).1) (c.in_ok-printout.ensures.does told w s).0 (c.in_ok-write_printout.ensures.prints w (op w).1)

pub returns-in_err-printout-clause-prints : goal.returns-in_err-printout-clause-prints
returns-in_err-printout-clause-prints g c told w s =
    let l = g.K.Keeper.state c.printout_of_tables.new.keeper in
    let old = g.W.Sink.written c.args.sink.now in
    let op = g.P.TableWork.does c.args.work.now in
    let fail = c.in_err-printout.field-0.0 in
    subst (λ r. Prints w (one_deed (op w).0 (op w).1) old old (store_end r) (behind w (op w).1 (store_end r)))
    (sym (handed_on c.from_residual.result (store_stop_of fail) c.from_residual.ensures))
    (opening_stops op w l old fail (subst (DoesOpened op w l) c.in_err-printout.was (c.printout_of_tables.ensures.does told w s)))

pub returns-in_err-printout-clause-keeps : goal.returns-in_err-printout-clause-keeps
returns-in_err-printout-clause-keeps g c told w s =
    let l = g.K.Keeper.state c.printout_of_tables.new.keeper in
    let op = g.P.TableWork.does c.args.work.now in
    let fail = c.in_err-printout.field-0.0 in
    subst (λ r. KeepsWorld (behind w (op w).1 (store_end r)) l)
    (sym (handed_on c.from_residual.result (store_stop_of fail) c.from_residual.ensures))
    (opening_keeps op w l fail (subst (DoesOpened op w l) c.in_err-printout.was (c.printout_of_tables.ensures.does told w s)))

pub returns-clause-keeps : goal.returns-clause-keeps
returns-clause-keeps g c told w s = (c.in_ok-printout.ensures.does told w s).1

pub returns-in_err-write_printout-clause-keeps : goal.returns-in_err-write_printout-clause-keeps
returns-in_err-write_printout-clause-keeps g c told w s =
    let l = g.K.Keeper.state c.printout_of_tables.new.keeper in
    let op = g.P.TableWork.does c.args.work.now in
    subst (λ r. KeepsWorld (behind w (op w).1 (store_end r)) l)
    (sym (handed_on c.from_residual-in_err-write_printout.result store_stop.SinkFailed c.from_residual-in_err-write_printout.ensures))
    (c.in_ok-printout.ensures.does told w s).1
