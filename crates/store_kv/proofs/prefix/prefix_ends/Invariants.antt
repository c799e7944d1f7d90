use Rattle.std.proofs.Common.{◌≡◌, vec_len}
use Rattle.store_kv.specs.Prefixes.{raised}
use Rattle.store_kv.proofs.prefix.prefix_ends.Given as goal

abbrev pub invariant-bytes : goal.invariant-bytes
invariant-bytes l = raised l.above.items ≡ raised l.prefix

abbrev pub decreases-bytes : goal.decreases-bytes
decreases-bytes l = vec_len l.above
