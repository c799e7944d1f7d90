-- How layouts are made of rows. No public contract reaches these words.
use Rattle.std.specs.Prelude.{◌≡◌, ℕ, ◌==◌, if◌then◌else◌, List, [], map, Option, Some, None, Result, Ok, Err, Vec}
use Rattle.std.specs.List.{enumerate_from, find}
use Rattle.std.specs.Option.{option_and_then, option_map}
use Rattle.store_kv.specs.Tables.{Tables}
use Rattle.store_rows.specs.declared.fail.StoreFail.{StoreFail}
use Rattle.store_rows.specs.declared.fail.StoreFail.TheVariants.{Keeper, Memory, Damaged}
use Rattle.store_rows.specs.declared.field.FieldRow.{FieldRow}
use Rattle.store_rows.specs.declared.job.JobRow.{JobRow}
use Rattle.store_rows.specs.declared.object.ObjectRow.{ObjectRow}
use Rattle.model.specs.Cases.{in_case}
use Rattle.model.specs.Objects.{object_numbered}
use Rattle.model.specs.Fields.{same_name}
use Rattle.model.specs.Tenant.{Field, Object, Tenant}
use Rattle.store_abstraction.specs.declared.layout.FieldPlace.{FieldPlace}
use Rattle.store_abstraction.specs.declared.layout.JobPlace.{JobPlace}
use Rattle.store_abstraction.specs.declared.layout.Layout.{Layout}
use Rattle.store_abstraction.specs.Layouts.{own_change_row, place_of}
use Rattle.store_abstraction.specs.Local.{StandsIn}
use Rattle.store_abstraction.specs.Metadata.{field_of, row_of_object}
use Rattle.store_abstraction.specs.Plan.{OrgPlan}

-- a field's row as its place
abbrev pub place_of_row : FieldRow → FieldPlace
place_of_row r =
    record {
      name = r.name;
      kind = r.kind;
      required = r.flags.required;
      unique = r.flags.unique;
      indexed = r.flags.indexed;
      slot = r.slot;
      child = r.child;
    }

-- a change's row as its place, if it is on this object
abbrev pub job_of_row : (object : ℕ) → JobRow → Option JobPlace
job_of_row n r =
    if r.object == n
    then Some (record { field = r.field; kind = r.kind; twin = r.twin; phase = r.phase; cursor = r.cursor })
    else None

-- the first row with this name, whatever the case of its letters
abbrev pub row_named : List ℕ → List ObjectRow → Option ObjectRow
row_named name rows = find (λ r. same_name r.name name) rows

-- the rows of an organisation's objects; none where there is no such organisation
unfoldable pub object_rows : (org : ℕ) → OrgPlan → Option Tenant → List ObjectRow
object_rows org q t =
    in_case t [] (λ u. map (λ (o : ℕ × Object). row_of_object org u o.0 o.1) (enumerate_from 0 u.objects))

-- the rows of an object's fields; none where there is no such object
unfoldable pub field_rows : (org object : ℕ) → OrgPlan → Option Tenant → List FieldRow
field_rows org n q t =
    in_case t [] (λ u. in_case (object_numbered u n) [] (λ o.
    map (λ (f : ℕ × Field). field_of org q n f.0 f.1) (enumerate_from 0 o.fields)))

-- the fields of an object with their slots; none where there is no such object
unfoldable pub places_in : (object : ℕ) → OrgPlan → Option Tenant → List FieldPlace
places_in n q t = in_case t [] (λ u. in_case (object_numbered u n) [] (λ o. map (place_of q n) (enumerate_from 0 o.fields)))

-- rows that are read are what each tenant has there, or none, for which the organisation's rows stand, and such are never damaged
abbrev pub ListsIn : {U A : Type 0} → (org : ℕ) → (OrgPlan → Option Tenant → List U) → Tables → Result (Vec U A) StoreFail → Type 0
ListsIn n value m (Ok rows) = (q : OrgPlan) (t : Option Tenant) → StandsIn n q m t → rows.items ≡ value q t
ListsIn n value m (Err Damaged) = (q : OrgPlan) (t : Option Tenant) → StandsIn n q m t → ⊥
ListsIn n value m (Err Keeper) = Unit {0}
ListsIn n value m (Err Memory) = Unit {0}

-- the layout of the object that has this row, where the change has that row
abbrev pub layout_by : (org : ℕ) → ObjectRow → Option JobRow → OrgPlan → Option Tenant → Layout
layout_by org r change q t =
    record {
      org = org;
      object = r.object;
      name = r.name;
      access = r.access.access;
      hierarchy = r.access.hierarchy;
      fields = places_in r.object q t;
      job = option_and_then (job_of_row r.object) change;
    }

-- the layout by the object's row, if there is one, and the layouts by several
abbrev pub layout_by_found : (org : ℕ) → Option ObjectRow → OrgPlan → Option Tenant → Option Layout
layout_by_found org row q t = option_map (λ r. layout_by org r (own_change_row org q t) q t) row

abbrev pub layouts_by : (org : ℕ) → List ObjectRow → Option JobRow → OrgPlan → Option Tenant → List Layout
layouts_by org rows change q t = map (λ r. layout_by org r change q t) rows
