use Rattle.std.proofs.Common.{◌≡◌, ◌++◌, drop, filter, map}
use Rattle.std.specs.Str.{chars}
use Rattle.api_read.specs.inner.DescribedLayouts.{child_by, is_child}
use Rattle.api_read.proofs.describe.children.child_list.Given as goal

abbrev pub invariant-loop-field : goal.invariant-loop-field
invariant-loop-field l =
    l.all ++ map (child_by (chars l.name)) (filter (is_child l.object) (drop l.field-index l.fields))
    ≡ map (child_by (chars l.name)) (filter (is_child l.object) l.fields)
