use Rattle.std.proofs.Common.{◌≡◌, ◌+◌, drop, map}
use Rattle.csv.specs.Records.{fields_of}
use Rattle.model.specs.Paths.{Asked}
use Rattle.cmd_csvq.specs.Organisation.{object_name, with_rows}
use Rattle.cmd_sandbox.specs.Making.{IsLaidOut}
use Rattle.cmd_csvq.proofs.rows.make_rows_of.Given as goal

abbrev pub invariant-loop-place : goal.invariant-loop-place
invariant-loop-place l =
    (a : Asked) → IsLaidOut l.now l.fn.draft object_name l.layout a
    → (b : Asked) × IsLaidOut l.now l.draft object_name l.layout b
    × (with_rows (fields_of l.heading) (l.place + 1) b (map fields_of (drop l.place l.rows)) ≡ with_rows (fields_of l.heading) 1 a (map fields_of l.rows))
