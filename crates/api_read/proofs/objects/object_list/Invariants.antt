use Rattle.std.proofs.Common.{◌≡◌, ◌++◌, drop, map}
use Rattle.api_read.specs.inner.Settings.{settings_by_row}
use Rattle.api_read.proofs.objects.object_list.Given as goal

abbrev pub invariant-loop-row : goal.invariant-loop-row
invariant-loop-row l = l.all ++ map settings_by_row (drop l.row-index l.rows) ≡ map settings_by_row l.rows
