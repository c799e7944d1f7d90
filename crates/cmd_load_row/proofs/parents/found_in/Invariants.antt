use Rattle.std.proofs.Common.{◌≡◌, map, take}
use Rattle.cmd_load_row.specs.inner.Parents.{told, told_of}
use Rattle.cmd_load_row.proofs.parents.found_in.Given as goal

abbrev pub invariant-loop-parent : goal.invariant-loop-parent
invariant-loop-parent l = map told l.found ≡ map told_of (take l.parent-index l.parents)
