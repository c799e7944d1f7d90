use Rattle.std.proofs.Common.{◌≡◌, ◌++◌}
use Rattle.api_read.specs.inner.Columns.{value_sites}
use Rattle.api_read.proofs.records.columns.push_values.Given as goal

abbrev pub invariant-loop-number : goal.invariant-loop-number
invariant-loop-number l = l.sites ≡ l.fn.sites ++ value_sites l.number 0
