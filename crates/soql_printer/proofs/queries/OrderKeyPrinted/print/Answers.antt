use Rattle.soql_printer.proofs.Grown.{three}
use Rattle.soql_printer.proofs.queries.OrderKeyPrinted.print.Goals as goal
use Rattle.std.proofs.lemmas.Result.{on_ok_weaker as on_ok}

pub returns : goal.returns
returns c =
    on_ok c.only_if-2.result (λ e. three c.args.out.now c.print.new.out c.only_if.new.out c.only_if-2.new.out _ _ _ c.in_ok-print.ensures c.in_ok-only_if.ensures e) c.only_if-2.ensures
