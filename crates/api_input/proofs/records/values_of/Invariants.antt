use Rattle.std.proofs.Common.{◌≡◌, ◌++◌, length, reverse}
use Rattle.api_input.specs.inner.Given.{given_by}
use Rattle.api_input.specs.inner.Spelled.{body_of}
use Rattle.api_input.proofs.records.values_of.Given as goal

-- the values of those to come, and those so far, last first
abbrev pub invariant-members : goal.invariant-members
invariant-members l = given_by (body_of l.rest) ++ reverse l.values.items ≡ given_by (body_of l.fn.members)

abbrev pub decreases-members : goal.decreases-members
decreases-members l = length l.rest
