use Rattle.std.proofs.Common.{◌≡◌, length}
use Rattle.base_grammar.specs.Counts.{plain_text}
use Rattle.base_grammar.proofs.Texts.{joined}
use Rattle.base_grammar.proofs.quoted.plain_characters.Given as goal

abbrev pub invariant-pieces : goal.invariant-pieces
invariant-pieces l = joined l.characters (plain_text l.rest) ≡ plain_text l.fn.pieces

abbrev pub decreases-pieces : goal.decreases-pieces
decreases-pieces l = length l.rest
