use Rattle.std.proofs.Common.{rules}
use Rattle.commands.proofs.Ends.{stops_within}
use Rattle.commands.proofs.printing.write_printout.Goals as goal

pub returns-in-Err-clause-prints : goal.returns-in-Err-clause-prints
returns-in-Err-clause-prints g c w next = stops_within c.args.printout.now next (g.W.Sink.written c.args.sink.now) (g.W.Sink.written c.write_all.new.sink) (search rules)
