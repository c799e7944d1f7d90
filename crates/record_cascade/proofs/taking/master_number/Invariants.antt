use Rattle.std.proofs.Common.{◌≡◌, ◌+◌, length}
use Rattle.record_cascade.specs.inner.Masters.{master_from}
use Rattle.record_cascade.proofs.taking.master_number.Given as goal

abbrev pub invariant-fields : goal.invariant-fields
invariant-fields l =
    (l.number + length l.rest ≡ length l.fields)
    × (master_from 0 l.fields ≡ master_from l.number l.rest)

abbrev pub decreases-fields : goal.decreases-fields
decreases-fields l = length l.rest
