use Rattle.std.proofs.Common.{◌≡◌, ◌++◌, length}
use Rattle.std.specs.List.{list_all}
use Rattle.model.specs.Members.{is_one_of, member_names}
use Rattle.api_input.specs.inner.Names.{names_of}
use Rattle.api_input.specs.inner.Spelled.{body_of}
use Rattle.api_input.proofs.members.are_among.Given as goal

abbrev pub invariant-members : goal.invariant-members
invariant-members l =
    list_all (is_one_of (names_of l.needed ++ names_of l.optional)) (member_names (body_of l.rest))
    ≡ list_all (is_one_of (names_of l.needed ++ names_of l.optional)) (member_names (body_of l.fn.members))

abbrev pub decreases-members : goal.decreases-members
decreases-members l = length l.rest
