use Rattle.std.proofs.Common.{◌≡◌, ◌++◌, drop, map}
use Rattle.api_read.specs.inner.Settings.{rule_by_row}
use Rattle.api_read.proofs.objects.rule_list.Given as goal

abbrev pub invariant-loop-row : goal.invariant-loop-row
invariant-loop-row l = l.all ++ map (rule_by_row l.object) (drop l.row-index l.rows) ≡ map (rule_by_row l.object) l.rows
