use Rattle.std.proofs.Common.{◌≡◌, [], drop, map}
use Rattle.model.specs.Tenant.{Tenant}
use Rattle.store_abstraction.specs.Plan.{OrgPlan}
use Rattle.schema_rules.specs.Objects.{numbered_in}
use Rattle.cmd_load_plan.specs.Columns.{columns_behind}
use Rattle.cmd_load_plan.specs.Headings.{AreLayouts}
use Rattle.cmd_load_plan.proofs.heading.columns_of.Given as goal

abbrev pub invariant-cells : goal.invariant-cells
invariant-cells l =
    (q : OrgPlan) (t : Tenant) → AreLayouts q t l.layouts l.layout
    → columns_behind t (numbered_in l.layout) l.columns.items (map (λ c. c.now) (drop l.cell-index l.heading)) ≡ columns_behind t (numbered_in l.layout) [] (map (λ c. c.now) l.heading)
