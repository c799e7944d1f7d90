use Rattle.std.proofs.Common.{◌≡◌, length}
use Rattle.std.specs.Str.{chars}
use Rattle.model.specs.Members.{is_one_of, member_names}
use Rattle.api_input.specs.inner.Spelled.{body_of}
use Rattle.api_input.proofs.members.has.Given as goal

abbrev pub invariant-members : goal.invariant-members
invariant-members l = is_one_of (member_names (body_of l.rest)) (chars l.name) ≡ is_one_of (member_names (body_of l.fn.members)) (chars l.name)

abbrev pub decreases-members : goal.decreases-members
decreases-members l = length l.rest
