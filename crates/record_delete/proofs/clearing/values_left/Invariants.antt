use Rattle.std.proofs.Common.{◌≡◌, map, take}
use Rattle.std.specs.List.{enumerate_from}
use Rattle.record_delete.specs.inner.Clearing.{value_left}
use Rattle.record_delete.proofs.clearing.values_left.Given as goal

abbrev pub invariant-loop-position : goal.invariant-loop-position
invariant-loop-position l = l.left ≡ map (value_left l.fields l.ids) (enumerate_from 0 (take l.position l.values))
