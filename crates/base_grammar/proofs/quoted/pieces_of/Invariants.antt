use Rattle.std.proofs.Common.{◌≡◌, length, false}
use Rattle.base_grammar.specs.Tokens as spec
use Rattle.base_grammar.proofs.Texts.{joined}
use Rattle.base_grammar.proofs.quoted.pieces_of.Given as goal

abbrev pub invariant-pieces : goal.invariant-pieces
invariant-pieces g l = joined l.pieces (spec.pieces_of g.L.Lexis.lexis l.rest false) ≡ spec.pieces_of g.L.Lexis.lexis l.fn.chars false

abbrev pub decreases-pieces : goal.decreases-pieces
decreases-pieces g l = length l.rest
