use Rattle.std.proofs.Common.{◌≡◌, ◌++◌, drop}
use Rattle.store_codec.specs.Composed.{ordered}
use Rattle.store_codec.proofs.texts.BytesPart.put.Given as goal

abbrev pub invariant-loop-byte : goal.invariant-loop-byte
invariant-loop-byte l = l.out.items ++ ordered (drop l.byte-index l.self) ≡ l.fn.out.items ++ ordered l.self
