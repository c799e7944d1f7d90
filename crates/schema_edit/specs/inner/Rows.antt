-- The row of a field in a slot, and an object with its row. No public contract reaches these words.
-- Source: C. D. Weissman and S. Bobrowski, "The Design of the Force.com Multitenant Internet Application Development
-- Platform" (SIGMOD 2009): objects and fields are rows of tables too.
use Rattle.std.specs.Prelude.{◌≡◌, ℕ, List, Some}
use Rattle.store_rows.specs.declared.field.FieldRow.{FieldRow}
use Rattle.store_rows.specs.declared.object.ObjectRow.{ObjectRow}
use Rattle.model.specs.Objects.{Numbered, object_named}
use Rattle.model.specs.Tenant.{Field, Tenant}
use Rattle.store_abstraction.specs.Metadata.{field_of, row_of_object}
use Rattle.store_abstraction.specs.Plan.{no_slots}

-- the row of a field of this object, with its number, in this slot
abbrev pub field_row : (org object field slot : ℕ) → Field → FieldRow
field_row org n place s f = record (field_of org no_slots n place f) { slot = s }

-- an object with its row
pub record HasRow (org : ℕ) (t : Tenant) (name : List ℕ) (row : ObjectRow) : Type 0 where
  pub numbered : Numbered
  pub there : object_named t name ≡ Some numbered
  pub is : row ≡ row_of_object org t numbered.number numbered.object
