use Rattle.std.proofs.Common.{◌≡◌, drop}
use Rattle.std.specs.Str.{chars}
use Rattle.query_plan.specs.paths.ByLayout.{child_of}
use Rattle.query_plan.proofs.paths.children.child_of.Given as goal

abbrev pub invariant-loop-layout : goal.invariant-loop-layout
invariant-loop-layout l = child_of l.object (chars l.name) (drop l.layout-index l.layouts) ≡ child_of l.object (chars l.name) l.layouts
