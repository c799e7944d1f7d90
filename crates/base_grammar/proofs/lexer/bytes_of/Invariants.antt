use Rattle.std.proofs.Common.{◌≡◌, ◌+◌, drop}
use Rattle.base_grammar.specs.Tokens as spec
use Rattle.base_grammar.proofs.lexer.bytes_of.Given as goal

abbrev pub invariant-loop-c : goal.invariant-loop-c
invariant-loop-c l = l.sum + spec.byte_len (drop l.c-index l.chars) ≡ spec.byte_len l.chars
