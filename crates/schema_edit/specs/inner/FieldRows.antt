-- The rows that a new field changes: that of its object, and its own. No public contract reaches these words.
-- Source: C. D. Weissman and S. Bobrowski, "The Design of the Force.com Multitenant Internet Application Development
-- Platform" (SIGMOD 2009): objects and fields are rows of tables too.
use Rattle.std.specs.Prelude.{◌≡◌, ℕ, ◌+◌, ◌<◌, List, [], ◌∷◌, Option, is_some, IfSome, IsTrue}
use Rattle.store_edit.specs.Rows.{change_to}
use Rattle.store_rows.specs.declared.object.ObjectRow.{ObjectRow}
use Rattle.store_rows.specs.Forms.{FitsForm}
use Rattle.store_rows.specs.Rows.{field_form, object_form}
use Rattle.model.specs.declared.metadata_bodies.SpelledType.{SpelledType}
use Rattle.model.specs.declared.metadata_bodies.SpelledType.TheVariants.{Plain, LookupTo}
use Rattle.model.specs.Tenant.{Field}
use Rattle.store_codec.specs.Composed.{FitsType}
use Rattle.store_codec.specs.Plain.{FitsText}
use Rattle.store_abstraction.specs.Changes.{Change}
use Rattle.store_abstraction.specs.declared.layout.Layout.{Layout}
use Rattle.store_abstraction.specs.Plan.{slot_count}
use Rattle.store_abstraction.specs.Records.{has_free}
use Rattle.schema_edit.specs.Slots.{IsLeastFree}
use Rattle.schema_edit.specs.declared.edits.fields.NewFieldRows.{NewFieldRows}
use Rattle.schema_edit.specs.inner.Rows.{field_row}

-- ---- what has such rows

-- a lookup has the number of its object
abbrev pub HasTarget : (target : Option ℕ) → SpelledType → Type 0
HasTarget target (Plain kind) = Unit {0}
HasTarget target (LookupTo object on_delete child) = IsTrue (is_some target)

-- a row can have its texts and its type
pub record IsSpelled (f : Field) : Type 0 where
  pub name : FitsText f.name
  pub kind : FitsType f.kind
  pub child : IfSome f.child FitsText

-- ---- the rows

-- by the row of the object: with one field more, and that of the field in this slot, which has the next number
abbrev pub rows_in : (slot : ℕ) → ObjectRow → Field → NewFieldRows
rows_in s object f =
    record {
      object = record object { fields = object.fields + 1 };
      field = field_row object.org object.object object.fields s f;
    }

-- the same in the least slot that is free by the object's layout, if one is
pub record AreRowsFor (l : Layout) (object : ObjectRow) (f : Field) (rows : NewFieldRows) : Type 0 where
  pub made : rows ≡ rows_in rows.field.slot object f
  pub least : (s : ℕ) → s < slot_count → IsTrue (has_free l s) → IsLeastFree l rows.field.slot
  pub below : rows.field.slot < slot_count

-- they are rows of the organisation with this number
pub record AreOfOrg (org : ℕ) (r : NewFieldRows) : Type 0 where
  pub object : r.object.org ≡ org
  pub field : r.field.org ≡ org

-- they have spellings
pub record FitFieldRows (r : NewFieldRows) : Type 0 where
  pub object : FitsForm object_form r.object
  pub field : FitsForm field_form r.field

-- ---- changes

abbrev pub changes_of : NewFieldRows → List Change
changes_of r = change_to object_form r.object ∷ change_to field_form r.field ∷ []
