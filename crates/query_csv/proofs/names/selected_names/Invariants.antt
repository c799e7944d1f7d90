use Rattle.std.proofs.Common.{◌≡◌, ◌++◌, drop, filter_map}
use Rattle.query_csv.specs.inner.Names.{item_by}
use Rattle.query_csv.proofs.names.selected_names.Given as goal

abbrev pub invariant-loop-item : goal.invariant-loop-item
invariant-loop-item l =
    l.names.items ++ filter_map (item_by l.layouts l.layout) (drop l.item-index l.items) ≡ filter_map (item_by l.layouts l.layout) l.items
