-- The rows that a new object changes: that of its organisation, its own, and that of a detail's Master field.
-- Source: C. D. Weissman and S. Bobrowski, "The Design of the Force.com Multitenant Internet Application Development
-- Platform" (SIGMOD 2009): objects and fields are rows of tables too.
use Rattle.std.specs.Prelude.{ℕ, ◌+◌, ◌<◌, ◌^◌, true, false, if◌then◌else◌, List, [], ◌∷◌, ◌++◌, length, Option, Some, None, is_some, IsTrue, IfSome}
use Rattle.std.specs.Option.{option_and_then, option_map}
use Rattle.store_edit.specs.Rows.{change_to}
use Rattle.store_rows.specs.declared.field.FieldRow.{FieldRow}
use Rattle.store_rows.specs.declared.object.ObjectRow.{ObjectRow}
use Rattle.store_rows.specs.declared.org.OrgRow.{OrgRow}
use Rattle.store_rows.specs.Forms.{FitsForm}
use Rattle.store_rows.specs.Rows.{field_form, object_form, org_form}
use Rattle.model.specs.declared.metadata_bodies.NewMaster.{NewMaster}
use Rattle.model.specs.declared.metadata_bodies.NewObject.{NewObject}
use Rattle.store_codec.specs.Plain.{FitsText}
use Rattle.store_abstraction.specs.Changes.{Change}
use Rattle.store_abstraction.specs.declared.layout.Layout.{Layout}
use Rattle.base_value.specs.declared.value.FieldType.TheVariants as type
use Rattle.schema_edit.specs.declared.edits.objects.NewRows.{NewRows}
use Rattle.schema_edit.specs.inner.Access.{spelled_access}
use Rattle.schema_edit.specs.inner.Relations.{layout_by_name}
use Rattle.schema_edit.specs.inner.Rows.{field_row}

-- ---- the rows

-- of the Master field of the object with this number, whose masters are of the object with the other
abbrev pub master_row : (org object parent : ℕ) → NewMaster → FieldRow
master_row org n parent m =
    field_row org n 0 0
    (record { name = m.field; kind = type.Master parent; required = true; unique = false; indexed = false; child = Some m.child })

-- the same where its parent is among the layouts
abbrev pub master_row_in : (org object : ℕ) → List Layout → NewMaster → Option FieldRow
master_row_in org n layouts m = option_map (λ (l : Layout). master_row org n l.object m) (layout_by_name layouts m.parent)

-- of a new object's first field
abbrev pub first_field : (org object : ℕ) → List Layout → Option NewMaster → Option FieldRow
first_field org n layouts master = option_and_then (master_row_in org n layouts) master

-- of a new object, which has this field or none
abbrev pub new_object_row : (org object : ℕ) → Option FieldRow → NewObject → ObjectRow
new_object_row org n field b =
    record {
      org = org;
      object = n;
      name = b.name;
      access = spelled_access b.access b.hierarchy;
      records = 0;
      fields = if is_some field then 1 else 0;
      validation_rules = 0;
    }

-- all of them, by the row of the organisation and the layouts of its objects
abbrev pub rows_by : List Layout → OrgRow → NewObject → NewRows
rows_by layouts org b =
    record {
      org = record org { objects = length layouts + 1 };
      field = first_field org.org (length layouts) layouts b.master;
      object = new_object_row org.org (length layouts) (first_field org.org (length layouts) layouts b.master) b;
    }

-- they have spellings
pub record FitRows (r : NewRows) : Type 0 where
  pub org : FitsForm org_form r.org
  pub field : IfSome r.field (FitsForm field_form)
  pub object : FitsForm object_form r.object

-- ---- what has such rows

-- the names of a detail's master have spellings, and the parent is there
pub record IsSpelledMaster (layouts : List Layout) (m : NewMaster) : Type 0 where
  pub field : FitsText m.field
  pub child : FitsText m.child
  pub parent : IsTrue (is_some (layout_by_name layouts m.parent))

-- the names of a new object have spellings, and so has its number
pub record IsSpelledObject (layouts : List Layout) (b : NewObject) : Type 0 where
  pub few : length layouts + 1 < 2 ^ 16
  pub name : FitsText b.name
  pub master : IfSome b.master (IsSpelledMaster layouts)

-- ---- changes

abbrev pub field_row_changes : Option FieldRow → List Change
field_row_changes None = []
field_row_changes (Some f) = change_to field_form f ∷ []

abbrev pub changes_of : NewRows → List Change
changes_of r = change_to org_form r.org ∷ (field_row_changes r.field ++ change_to object_form r.object ∷ [])
