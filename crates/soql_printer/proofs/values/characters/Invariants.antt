use Rattle.std.proofs.Common.{◌≡◌, ◌++◌}
use Rattle.std.specs.List.{flat_map}
use Rattle.soql_printer.specs.Printing as spec
use Rattle.soql_printer.proofs.values.characters.Given as goal

abbrev pub invariant-characters : goal.invariant-characters
invariant-characters l = l.out ≡ l.fn.out ++ flat_map spec.printed_character l.yielded
