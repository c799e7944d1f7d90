use Rattle.std.proofs.Common.{◌≡◌, ◌++◌, drop}
use Rattle.api_read.specs.inner.DescribedLayouts.{children_by}
use Rattle.api_read.proofs.describe.children.children.Given as goal

abbrev pub invariant-loop-layout : goal.invariant-loop-layout
invariant-loop-layout l = l.all ++ children_by l.object (drop l.layout-index l.layouts) ≡ children_by l.object l.layouts
