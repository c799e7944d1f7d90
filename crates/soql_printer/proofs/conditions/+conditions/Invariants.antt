use Rattle.std.proofs.Common.{◌≡◌, ◌++◌, drop}
use Rattle.std.specs.List.{join_by}
use Rattle.soql_printer.specs.inner.Units.{unit_text}
use Rattle.soql_printer.proofs.Grown.{left_text}
use Rattle.soql_printer.proofs.conditions.+conditions.Given as goal

abbrev pub invariant-units-parts : goal.invariant-units-parts
invariant-units-parts l = l.out ++ left_text l.begun l.between (drop l.part-index l.parts) ≡ l.fn.out ++ join_by unit_text l.fn.between l.fn.parts
