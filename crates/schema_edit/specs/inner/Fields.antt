-- A new field's object among the layouts.
use Rattle.std.specs.Prelude.{◌≡◌, ℕ, List}
use Rattle.schema_edit.specs.Judging.{layouts_in}
use Rattle.model.specs.Objects.{Numbered}
use Rattle.model.specs.Tenant.{Tenant}
use Rattle.store_abstraction.specs.Layouts.{layout_of}
use Rattle.store_abstraction.specs.Plan.{OrgPlan}
use Rattle.store_abstraction.specs.declared.layout.Layout.{Layout}

-- these are a tenant's layouts, and this is that of one of its objects
pub record Places (t : Tenant) (o : Numbered) (layouts : List Layout) (layout : Layout) : Type 0 where
  pub org : ℕ
  pub plan : OrgPlan
  pub all : layouts ≡ layouts_in org plan t
  pub one : layout ≡ layout_of org plan t o
