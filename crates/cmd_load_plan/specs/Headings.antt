-- Headings by the layouts of an organisation's objects.
use Rattle.std.specs.Prelude.{ℕ, ◌≡◌, Some, List, Result, Ok, Err}
use Rattle.std.specs.Str.{chars}
use Rattle.model.specs.Sound.{IsSound}
use Rattle.model.specs.Tenant.{Tenant}
use Rattle.store_abstraction.specs.Layouts.{IsLayout, own_layouts}
use Rattle.store_abstraction.specs.Plan.{OrgPlan}
use Rattle.store_abstraction.specs.declared.layout.Layout.{Layout}

-- these are the layouts of all the tenant's objects, and that of one of them
pub record AreLayouts (q : OrgPlan) (t : Tenant) (layouts : List Layout) (l : Layout) : Type 0 where
  pub sound : IsSound t
  pub all : layouts ≡ own_layouts l.org q (Some t)
  pub layout : IsLayout q t l

-- in each such tenant
abbrev pub InEach : List Layout → Layout → (Tenant → Type 0) → Type 0
InEach layouts l is = (q : OrgPlan) (t : Tenant) → AreLayouts q t layouts l → is t

-- the same, with the characters of the cell that is refused
abbrev pub in_characters : {X : Type 0} → Result X (List ℕ) → Result X (List ℕ)
in_characters (Ok x) = Ok x
in_characters (Err cell) = Err (chars cell)
