use Rattle.std.proofs.Common.{◌≡◌, ℕ, drop, false}
use Rattle.csv.specs.Records.{fields_of}
use Rattle.model.specs.Paths.{Asked}
use Rattle.cmd_csvq.specs.Organisation.{with_columns}
use Rattle.cmd_sandbox.specs.Making.{IsOwned}
use Rattle.cmd_csvq.proofs.columns.make_columns.Given as goal

abbrev pub invariant-loop-place : goal.invariant-loop-place
invariant-loop-place l =
    (now : ℕ) (a : Asked) → IsOwned now l.fn.draft a
    → (b : Asked) × IsOwned now l.draft b
    × (with_columns l.named b (drop l.place (fields_of l.heading)) ≡ with_columns false a (fields_of l.heading))
