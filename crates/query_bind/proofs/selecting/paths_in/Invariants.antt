use Rattle.std.proofs.Common.{◌≡◌, ◌++◌, drop, filter_map}
use Rattle.query_bind.specs.Cells.{path_in}
use Rattle.query_bind.proofs.selecting.paths_in.Given as goal

abbrev pub invariant-loop-item : goal.invariant-loop-item
invariant-loop-item l = l.paths.items ++ filter_map path_in (drop l.item-index l.items) ≡ filter_map path_in l.items
