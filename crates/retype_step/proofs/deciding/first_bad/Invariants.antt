use Rattle.std.proofs.Common.{◌≡◌, drop}
use Rattle.std.specs.List.{find}
use Rattle.retype_step.specs.inner.Deciding.{is_bad_by}
use Rattle.retype_step.proofs.deciding.first_bad.Given as goal

abbrev pub invariant-loop-item : goal.invariant-loop-item
invariant-loop-item l = find (is_bad_by l.row) (drop l.item-index l.items) ≡ find (is_bad_by l.row) l.items
