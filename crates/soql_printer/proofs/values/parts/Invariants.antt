use Rattle.std.proofs.Common.{◌≡◌, ◌++◌, length}
use Rattle.std.specs.List.{flat_map}
use Rattle.soql_printer.specs.Printing as spec
use Rattle.soql_printer.proofs.values.parts.Given as goal

abbrev pub invariant-parts : goal.invariant-parts
invariant-parts l = l.out ++ flat_map spec.printed_part l.rest ≡ l.fn.out ++ flat_map spec.printed_part l.fn.parts

abbrev pub decreases-parts : goal.decreases-parts
decreases-parts l = length l.rest
