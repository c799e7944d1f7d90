use Rattle.std.proofs.Common.{Err, Ok, subst, sym}
use Rattle.base_lemmas.proofs.Results.{err_from_parts as handed_on}
use Rattle.commands.specs.Deeds.{Prints, one_deed}
use Rattle.commands.specs.Printed.{refused}
use Rattle.commands.specs.declared.stop.Stop.TheVariants as stop
use Rattle.commands.proofs.Ends.{stops_before}
use Rattle.commands.proofs.load.print_refusal.Goals as goal

pub returns-in_err-printout-clause-prints : goal.returns-in_err-printout-clause-prints
returns-in_err-printout-clause-prints g c w =
    let printout = refused c.args.refusal.now in
    let old = g.W.Sink.written c.args.sink.now in
    subst (λ r. Prints w (one_deed printout w) old old r w) (sym (handed_on c.from_residual.result stop.NoMemory c.from_residual.ensures)) (stops_before w w printout old)

pub returns-in_err-write_printout-clause-prints : goal.returns-in_err-write_printout-clause-prints
returns-in_err-write_printout-clause-prints g c w =
    let old = g.W.Sink.written c.args.sink.now in
    let new = g.W.Sink.written c.write_printout.new.sink in
    subst (λ r. Prints w (one_deed (refused c.args.refusal.now) w) old new r w) (sym (handed_on c.from_residual-in_err-write_printout.result stop.SinkFailed c.from_residual-in_err-write_printout.ensures))
    (subst (λ p. Prints w (one_deed p w) old new (Err stop.SinkFailed) w) c.in_ok-printout.ensures (c.in_err-write_printout.ensures.prints w w))

pub returns-clause-prints : goal.returns-clause-prints
returns-clause-prints g c w =
    let old = g.W.Sink.written c.args.sink.now in
    let new = g.W.Sink.written c.write_printout.new.sink in
    subst (λ p. Prints w (one_deed p w) old new (Ok c.in_ok-write_printout.field-0) w) c.in_ok-printout.ensures (c.in_ok-write_printout.ensures.prints w w)
