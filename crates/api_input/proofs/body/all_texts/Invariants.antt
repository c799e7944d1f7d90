use Rattle.std.proofs.Common.{◌≡◌, length, map}
use Rattle.model.specs.Members.{all_there, as_text}
use Rattle.api_input.proofs.Binds.{after}
use Rattle.api_input.proofs.body.all_texts.Given as goal

abbrev pub invariant-items : goal.invariant-items
invariant-items l = after l.texts (all_there (map as_text l.rest)) ≡ all_there (map as_text l.fn.items)

abbrev pub decreases-items : goal.decreases-items
decreases-items l = length l.rest
