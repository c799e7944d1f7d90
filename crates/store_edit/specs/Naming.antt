-- The object that an edit names, by its layout.
use Rattle.std.specs.Prelude.{◌≡◌, ◌≢◌, ℕ, List, Some, None, Result, Ok, Err}
use Rattle.store_rows.specs.declared.fail.StoreFail.TheVariants.{Damaged}
use Rattle.model.specs.Objects.{Numbered, object_named}
use Rattle.model.specs.Tenant.{Tenant}
use Rattle.model.specs.declared.refusal.Refusal.TheVariants.{InvalidType}
use Rattle.store_abstraction.specs.declared.fail.EditFail.{EditFail}
use Rattle.store_abstraction.specs.declared.fail.EditFail.TheVariants.{Refused, Store}
use Rattle.store_abstraction.specs.Layouts.{layout_of}
use Rattle.store_abstraction.specs.Plan.{OrgPlan}
use Rattle.store_abstraction.specs.declared.layout.Layout.{Layout}

-- the layout of the object with this name; or INVALID_TYPE where there is none, or why the work on the tables stopped
abbrev pub NamesLayout : (org : ℕ) → OrgPlan → Tenant → (name : List ℕ) → Result Layout EditFail → Type 0
NamesLayout org q t name (Ok layout) = (o : Numbered) × (object_named t name ≡ Some o) × (layout ≡ layout_of org q t o)
NamesLayout org q t name (Err (Refused r)) = (object_named t name ≡ None) × (r ≡ InvalidType name)
NamesLayout org q t name (Err (Store e)) = e ≢ Damaged
