use Rattle.std.proofs.Common.{Err, Ok, ap, subst, sym, ◌∙◌}
use Rattle.base_lemmas.proofs.Results.{err_from_parts as handed_on}
use Rattle.commands.specs.Commands.{csvq, printed}
use Rattle.commands.specs.Csvq.{reads_input, rows_printed}
use Rattle.cmd_load.specs.Batches.{first_moment}
use Rattle.commands.specs.Deeds.{Prints, one_deed}
use Rattle.commands.specs.Stops.{csvq_end, csvq_stop_of}
use Rattle.commands.specs.declared.printing.CsvqStop.TheVariants as csvq_stop
use Rattle.commands.specs.declared.stop.Stop.TheVariants as stop
use Rattle.commands.proofs.Ends.{input_stops}
use Rattle.commands.proofs.Inputs.{some_input}
use Rattle.commands.proofs.printing.print_csvq.Goals as goal

pub returns-clause-prints : goal.returns-clause-prints
returns-clause-prints g c w moments first =
    let old = g.W.Sink.written c.args.sink.now in
    let new = g.W.Sink.written c.write_printout.new.sink in
    let status = c.in_ok-write_printout.field-0 in
    let printout = c.in_ok-printout.ensures.printout in
    (printout.0, printout.1, subst (λ p. Prints w (one_deed p w) old new (Ok status) w) (printout.2 ∙ ap (rows_printed c.args.query.now printout.0) first) (c.in_ok-write_printout.ensures.prints w w))

pub returns-in_err-printout-clause-prints : goal.returns-in_err-printout-clause-prints
returns-in_err-printout-clause-prints g c w moments first =
    let query = c.args.query.now in
    let old = g.W.Sink.written c.args.sink.now in
    let fail = c.in_err-printout.field-0.0 in
    let some = some_input (reads_input query) (g.S.Source.left c.args.source.now) in (
      some.0,
      some.1,
      subst (λ r. Prints w (printed (csvq query) w some.0 moments) old old (csvq_end r) w) (sym (handed_on c.from_residual.result (csvq_stop_of fail) c.from_residual.ensures))
          (input_stops w (rows_printed query some.0 (first_moment moments)) old fail),
    )

pub returns-in_err-write_printout-clause-prints : goal.returns-in_err-write_printout-clause-prints
returns-in_err-write_printout-clause-prints g c w moments first =
    let query = c.args.query.now in
    let old = g.W.Sink.written c.args.sink.now in
    let new = g.W.Sink.written c.write_printout.new.sink in
    let printout = c.in_ok-printout.ensures.printout in (
      printout.0,
      printout.1,
      subst (λ r. Prints w (printed (csvq query) w printout.0 moments) old new (csvq_end r) w)
          (sym (handed_on c.from_residual-in_err-write_printout.result csvq_stop.SinkFailed c.from_residual-in_err-write_printout.ensures))
          (subst (λ p. Prints w (one_deed p w) old new (Err stop.SinkFailed) w) (printout.2 ∙ ap (rows_printed query printout.0) first) (c.in_err-write_printout.ensures.prints w w)),
    )
