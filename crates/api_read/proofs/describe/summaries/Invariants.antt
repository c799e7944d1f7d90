use Rattle.std.proofs.Common.{◌≡◌, ◌++◌, drop, map}
use Rattle.base_json_tree.specs.Words.{object}
use Rattle.api_read.specs.inner.DescribedLayouts.{summary_by}
use Rattle.api_read.proofs.describe.summaries.Given as goal

abbrev pub invariant-loop-layout : goal.invariant-loop-layout
invariant-loop-layout l = l.all ++ map (λ l. object (summary_by l)) (drop l.layout-index l.layouts) ≡ map (λ l. object (summary_by l)) l.layouts
