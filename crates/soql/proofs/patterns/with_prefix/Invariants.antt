use Rattle.std.proofs.Common.{◌≡◌, List, map, reverse}
use Rattle.soql.specs.declared.query.LikePart.{LikePart}
use Rattle.soql.specs.inner.Rests.{row_of, row_behind}
use Rattle.soql.proofs.patterns.with_prefix.Given as goal

-- the row is that of the characters so far and then the parts
abbrev pub invariant-loop-c : goal.invariant-loop-c
invariant-loop-c l = (parts : List LikePart) → l.fn.row.items ≡ row_of parts l.backwards → l.row.items ≡ row_behind (reverse (map (λ c. c.now) l.yielded)) parts l.backwards
