use Rattle.std.proofs.Common.{◌≡◌, ◌++◌, length}
use Rattle.model.specs.Members.{member_names}
use Rattle.api_input.specs.inner.Spelled.{body_of}
use Rattle.api_input.proofs.body.append_names.Given as goal

abbrev pub invariant-members : goal.invariant-members
invariant-members l = l.names ++ member_names (body_of l.rest) ≡ l.fn.names ++ member_names (body_of l.fn.members)

abbrev pub decreases-members : goal.decreases-members
decreases-members l = length l.rest
