use Rattle.std.proofs.Common.{◌≡◌, ◌++◌, length}
use Rattle.formula.specs.grammar.Signs as spec
use Rattle.formula_parser.proofs.words.signs.Given as goal

abbrev pub invariant-tokens : goal.invariant-tokens
invariant-tokens l = l.found ++ spec.signs l.criteria l.fields l.rest ≡ spec.signs l.criteria l.fields l.fn.tokens

abbrev pub decreases-tokens : goal.decreases-tokens
decreases-tokens l = length l.rest
