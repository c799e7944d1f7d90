use Rattle.std.proofs.Common.{◌≡◌, length, map}
use Rattle.base_value.specs.Texts.{lower, texts_differ}
use Rattle.model.specs.Members.{member_names}
use Rattle.api_input.specs.inner.Spelled.{body_of}
use Rattle.api_input.proofs.Folded.{are_new}
use Rattle.api_input.proofs.members.differ_in_any_case.Given as goal

-- the names to come are none of those so far, and differ
abbrev pub invariant-members : goal.invariant-members
invariant-members l = are_new l.names (map lower (member_names (body_of l.rest))) ≡ texts_differ (map lower (member_names (body_of l.fn.members)))

abbrev pub decreases-members : goal.decreases-members
decreases-members l = length l.rest
