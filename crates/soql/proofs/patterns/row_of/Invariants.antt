use Rattle.std.proofs.Common.{◌≡◌, map, reverse}
use Rattle.soql.specs.inner.Rests.{row_of}
use Rattle.soql.proofs.patterns.row_of.Given as goal

-- the row is that of the parts so far
abbrev pub invariant-loop-part : goal.invariant-loop-part
invariant-loop-part l = l.row.items ≡ row_of (reverse (map (λ p. p.now) l.yielded)) l.backwards
