use Rattle.std.proofs.Common.{◌≡◌, take}
use Rattle.std.proofs.Common.{map as plain_map}
use Rattle.std.specs.List.{AllByRecursion}
use Rattle.store_rows.specs.Forms.{FitsForm, kept_as}
use Rattle.store_rows.proofs.scans.read_rows.Given as goal

abbrev pub invariant-loop-row : goal.invariant-loop-row
invariant-loop-row g l = (plain_map (kept_as g.R.RowForm.form) l.rows.items ≡ take l.row-index l.kept) × AllByRecursion (FitsForm g.R.RowForm.form) l.rows.items
