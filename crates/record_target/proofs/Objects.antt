-- The layout of the object with a name.
use Rattle.std.proofs.Common.{◌≡◌, ℕ, List, Some, subst}
use Rattle.std.specs.Prelude.{Result, Ok}
use Rattle.store_edit.specs.Naming.{NamesLayout}
use Rattle.model.specs.Objects.{Numbered, object_named, object_numbered}
use Rattle.model.specs.Tenant.{Tenant}
use Rattle.store_abstraction.specs.declared.fail.EditFail.{EditFail}
use Rattle.store_abstraction.specs.declared.layout.Layout.{Layout}
use Rattle.store_abstraction.specs.Layouts.{layout_of}
use Rattle.store_abstraction.specs.Plan.{OrgPlan}

-- what `model` says of an object that is named
abbrev pub Named : Type 0
Named = (t : Tenant) (name : List ℕ) (o : Numbered) → object_named t name ≡ Some o → object_numbered t o.number ≡ Some o.object

abbrev pub IsOn : (org : ℕ) → OrgPlan → Tenant → (name : List ℕ) → Layout → Type 0
IsOn org q t name l = (o : Numbered) × (object_named t name ≡ Some o) × (l ≡ layout_of org q t o)

pub named_so : (org : ℕ) (q : OrgPlan) (t : Tenant) (name : List ℕ) (r : Result Layout EditFail) (l : Layout) → NamesLayout org q t name r → r ≡ Ok l → IsOn org q t name l
named_so org q t name r l h was = subst (NamesLayout org q t name) was h
