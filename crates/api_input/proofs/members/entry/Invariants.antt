use Rattle.std.proofs.Common.{◌≡◌, length}
use Rattle.std.specs.Str.{chars}
use Rattle.model.specs.Members.{entry_named}
use Rattle.api_input.specs.inner.Spelled.{body_of}
use Rattle.api_input.proofs.members.entry.Given as goal

abbrev pub invariant-members : goal.invariant-members
invariant-members l = entry_named (body_of l.rest) (chars l.name) ≡ entry_named (body_of l.fn.members) (chars l.name)

abbrev pub decreases-members : goal.decreases-members
decreases-members l = length l.rest
