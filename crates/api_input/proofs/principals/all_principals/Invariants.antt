use Rattle.std.proofs.Common.{◌≡◌, length, map}
use Rattle.model.specs.Members.{all_there}
use Rattle.api_input.specs.inner.Spelled.{as_principal}
use Rattle.api_input.proofs.Binds.{after}
use Rattle.api_input.proofs.principals.all_principals.Given as goal

abbrev pub invariant-items : goal.invariant-items
invariant-items l = after l.principals (all_there (map as_principal l.rest)) ≡ all_there (map as_principal l.fn.items)

abbrev pub decreases-items : goal.decreases-items
decreases-items l = length l.rest
