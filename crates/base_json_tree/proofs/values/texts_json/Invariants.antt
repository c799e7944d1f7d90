use Rattle.std.proofs.Common.{◌≡◌, ◌++◌, drop, map}
use Rattle.base_json_tree.specs.Words.{text}
use Rattle.base_json_tree.proofs.values.texts_json.Given as goal

abbrev pub invariant-loop-item : goal.invariant-loop-item
invariant-loop-item l = l.told ++ map text (drop l.item-index l.items) ≡ map text l.items
