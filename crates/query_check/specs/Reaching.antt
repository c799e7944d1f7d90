-- By which layouts a query is judged.
use Rattle.std.specs.Prelude.{◌≡◌, ◌⊎◌, ℕ, true, List, Some}
use Rattle.soql.specs.declared.query.Query.{Query}
use Rattle.model.specs.Sound.{IsSound}
use Rattle.model.specs.Tenant.{Tenant}
use Rattle.store_abstraction.specs.declared.layout.Layout.{Layout}
use Rattle.store_abstraction.specs.Layouts.{own_layouts}
use Rattle.store_abstraction.specs.Plan.{OrgPlan}
use Rattle.model.specs.Flat.{is_flat}

-- these are those of all objects of a sound tenant; of a flat query none of them is looked at
abbrev pub Reaches : (org : ℕ) → OrgPlan → Tenant → List Layout → Query → Type 0
Reaches org p t layouts q = (is_flat q ≡ true) ⊎ (IsSound t × (layouts ≡ own_layouts org p (Some t)))
