use Rattle.std.proofs.Common.{◌≡◌, ◌++◌, length}
use Rattle.std.specs.List.{flat_map, join_by}
use Rattle.soql_printer.proofs.printed.join.Given as goal

abbrev pub invariant-more : goal.invariant-more
invariant-more g l = l.out ++ flat_map (λ x. l.between ++ g.T.Printed.printed x) l.rest ≡ l.fn.out ++ join_by g.T.Printed.printed l.between l.fn.all

abbrev pub decreases-more : goal.decreases-more
decreases-more g l = length l.rest
