use Rattle.std.proofs.Common.{Ok, ap, subst, ◌∙◌}
use Rattle.cmd_load.specs.Batches.{first_moment}
use Rattle.commands.specs.Deeds.{Prints, one_deed}
use Rattle.commands.specs.Demo.{demo_printed}
use Rattle.commands.specs.Printed.{PrintoutText}
use Rattle.commands.proofs.Ends.{stops_before}
use Rattle.commands.proofs.demo.print_demo.Goals as goal

pub returns-in-Ok-write_printout-clause-prints : goal.returns-in-Ok-write_printout-clause-prints
returns-in-Ok-write_printout-clause-prints g c w bytes moments first =
    subst (λ (p : PrintoutText). Prints w (one_deed p w) (g.W.Sink.written c.args.sink.now) (g.W.Sink.written c.write_printout.new.sink) (Ok c.in-Ok-write_printout.status) w)
    (c.in-Ok.ensures ∙ ap (demo_printed c.args.count) first) (c.in-Ok-write_printout.ensures.prints w w)

pub returns-clause-prints : goal.returns-clause-prints
returns-clause-prints g c w bytes moments first = stops_before w w (demo_printed c.args.count (first_moment moments)) (g.W.Sink.written c.args.sink.now)
