use Rattle.std.proofs.Common.{◌≡◌, drop, map}
use Rattle.base_grammar.specs.Reader.{elem}
use Rattle.base_grammar.proofs.cursor.is_one_of.Given as goal

abbrev pub invariant-loop-kind : goal.invariant-loop-kind
invariant-loop-kind g l = elem l.number (map g.T.TokenKind.number l.kinds) ≡ elem l.number (map g.T.TokenKind.number (drop l.kind-index l.kinds))
