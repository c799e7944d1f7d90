use Rattle.std.proofs.Common.{◌≡◌, ◌++◌, drop, map}
use Rattle.base_json_tree.proofs.lists.list_of.Given as goal

abbrev pub invariant-loop-item : goal.invariant-loop-item
invariant-loop-item g l = l.told ++ map g.T.Told.json (drop l.item-index l.items) ≡ map g.T.Told.json l.items
