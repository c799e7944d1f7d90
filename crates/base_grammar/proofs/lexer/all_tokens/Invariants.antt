use Rattle.std.proofs.Common.{◌≡◌, ◌+◌, ◌++◌, length}
use Rattle.base_grammar.specs.Lexing as read
use Rattle.base_grammar.specs.Tokens as spec
use Rattle.base_grammar.proofs.lexer.all_tokens.Given as goal

abbrev pub invariant-tokens : goal.invariant-tokens
invariant-tokens g l = record {
  same : l.found ++ read.tokens_of g.L.Lexis.lexis l.at l.rest ≡ read.tokens_of g.L.Lexis.lexis 0 l.fn.chars;
  room : l.at + spec.byte_len l.rest ≡ spec.byte_len l.fn.chars;
}

abbrev pub decreases-tokens : goal.decreases-tokens
decreases-tokens g l = length l.rest
