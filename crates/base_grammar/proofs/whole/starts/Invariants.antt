use Rattle.std.proofs.Common.{◌≡◌, ◌++◌, length}
use Rattle.base_grammar.specs.Place as spec
use Rattle.base_grammar.proofs.whole.starts.Given as goal

abbrev pub invariant-tokens : goal.invariant-tokens
invariant-tokens l = l.found ++ spec.starts l.rest ≡ spec.starts l.fn.tokens

abbrev pub decreases-tokens : goal.decreases-tokens
decreases-tokens l = length l.rest
