use Rattle.std.proofs.Common.{◌≡◌, ◌++◌, drop, filter_map, map}
use Rattle.std.specs.Str.{chars}
use Rattle.model.specs.RowsJson.{behind_relationship}
use Rattle.soql.specs.declared.query.Item.TheVariants as item
use Rattle.query_bind.proofs.members.paths_behind.Given as goal

abbrev pub invariant-loop-path : goal.invariant-loop-path
invariant-loop-path l =
    map item.Path l.behind.items ++ filter_map (behind_relationship (chars l.name)) (map item.Path (drop l.path-index l.paths))
    ≡ filter_map (behind_relationship (chars l.name)) (map item.Path l.paths)
