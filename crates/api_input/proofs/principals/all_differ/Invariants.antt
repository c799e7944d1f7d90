use Rattle.std.proofs.Common.{◌≡◌, length, map}
use Rattle.base_value.specs.Texts.{texts_differ}
use Rattle.model_requests.specs.PeopleForms.{identity_of}
use Rattle.api_input.proofs.Folded.{are_new}
use Rattle.api_input.proofs.principals.all_differ.Given as goal

-- the principals to come are none of those so far, and differ
abbrev pub invariant-principals : goal.invariant-principals
invariant-principals l = are_new l.seen (map identity_of l.rest) ≡ texts_differ (map identity_of l.fn.principals)

abbrev pub decreases-principals : goal.decreases-principals
decreases-principals l = length l.rest
