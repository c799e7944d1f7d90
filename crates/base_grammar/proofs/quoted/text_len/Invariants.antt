use Rattle.std.proofs.Common.{◌≡◌, ◌+◌, drop, false}
use Rattle.base_grammar.specs.Tokens as spec
use Rattle.base_grammar.proofs.quoted.text_len.Given as goal

abbrev pub invariant-loop-at : goal.invariant-loop-at
invariant-loop-at g l = spec.text_len g.L.Lexis.lexis l.chars false ≡ l.at + spec.text_len g.L.Lexis.lexis (drop l.at l.chars) l.escaped
