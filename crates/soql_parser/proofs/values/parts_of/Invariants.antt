use Rattle.std.proofs.Common.{◌≡◌, ◌++◌, length}
use Rattle.soql.specs.grammar.Grammar as grammar
use Rattle.soql_parser.proofs.values.parts_of.Given as goal

abbrev pub invariant-pieces : goal.invariant-pieces
invariant-pieces l = l.parts ++ grammar.parts_of l.rest ≡ grammar.parts_of l.fn.pieces

abbrev pub decreases-pieces : goal.decreases-pieces
decreases-pieces l = length l.rest
