-- The slot that a new field takes. That it is the least that is free is this product's own.
-- Source of slots: C. D. Weissman and S. Bobrowski, "The Design of the Force.com Multitenant Internet Application Development
-- Platform" (SIGMOD 2009): the values of all fields are in the flex columns of one table.
use Rattle.std.specs.Prelude.{◌≡◌, ℕ, ◌<◌, true, false, length, Some, IsTrue}
use Rattle.store_edit.specs.Edits.{Planned}
use Rattle.model.specs.declared.metadata_bodies.NewField.{NewField}
use Rattle.model.specs.Objects.{Numbered, object_named}
use Rattle.model.specs.Tenant.{Tenant}
use Rattle.store_abstraction.specs.Plan.{OrgPlan}
use Rattle.store_abstraction.specs.Records.{has_free, is_free, with_slot}
use Rattle.store_abstraction.specs.declared.layout.Layout.{Layout}

-- it is free, and no slot below it is
pub record IsLeastFree (l : Layout) (slot : ℕ) : Type 0 where
  pub free : IsTrue (has_free l slot)
  pub least : (s : ℕ) → s < slot → has_free l s ≡ false

-- nothing is kept in the slot for the object's fields, nor by a change that isn't done; and there is no such slot below it
pub record IsLeastUnused (q : OrgPlan) (t : Tenant) (o : Numbered) (slot : ℕ) : Type 0 where
  pub unused : is_free q t.job o.number o.object slot ≡ true
  pub least : (s : ℕ) → s < slot → is_free q t.job o.number o.object s ≡ false

-- how the rows are kept with a new field: it has the least slot that was unused
abbrev pub FieldPlanned : NewField → Planned
FieldPlanned b q t next =
    (o : Numbered) → object_named t b.object ≡ Some o
    → (s : ℕ) × IsLeastUnused q t o s × (next ≡ with_slot o.number (length o.object.fields) s q)
