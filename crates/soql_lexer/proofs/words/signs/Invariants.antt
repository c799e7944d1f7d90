use Rattle.std.proofs.Common.{◌≡◌, ◌++◌, length}
use Rattle.soql.specs.grammar.Signs as spec
use Rattle.soql_lexer.proofs.words.signs.Given as goal

abbrev pub invariant-tokens : goal.invariant-tokens
invariant-tokens l = l.found ++ spec.signs l.rest ≡ spec.signs l.fn.tokens

abbrev pub decreases-tokens : goal.decreases-tokens
decreases-tokens l = length l.rest
