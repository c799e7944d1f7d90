use Rattle.std.proofs.Common.{◌≡◌, Ok}
use Rattle.model.specs.Paths.{Asked}
use Rattle.cmd_sandbox.specs.Making.{IsOwned}
use Rattle.cmd_demo.specs.Demos.{with_items}
use Rattle.cmd_demo.proofs.items.make_items.Given as goal

abbrev pub invariant-loop-place : goal.invariant-loop-place
invariant-loop-place l =
    (a : Asked) → IsOwned l.now l.fn.draft a
    → (b : Asked) × (with_items l.place a ≡ Ok b) × IsOwned l.now l.draft b
