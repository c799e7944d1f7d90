-- The layout of an object of one organisation, and its records.
-- Source: C. D. Weissman and S. Bobrowski, "The Design of the Force.com Multitenant Internet Application Development
-- Platform" (SIGMOD 2009): metadata say which field is in which slot.
use Rattle.std.specs.Prelude.{◌≡◌, ℕ, ◌==◌, if◌then◌else◌, List, [], map, filter, take, Option, Some, None, Result, Ok, Err}
use Rattle.std.specs.List.{enumerate_from}
use Rattle.std.specs.Option.{option_and_then, option_map}
use Rattle.store_kv.specs.Tables.{Tables}
use Rattle.store_rows.specs.declared.fail.StoreFail.{StoreFail}
use Rattle.store_rows.specs.declared.job.JobRow.{JobRow}
use Rattle.store_rows.specs.declared.object.ObjectRow.{ObjectRow}
use Rattle.store_rows.specs.declared.org.OrgRow.{OrgRow}
use Rattle.store_rows.specs.declared.validation.ValidationRow.{ValidationRow}
use Rattle.store_rows.specs.declared.fail.StoreFail.TheVariants.{Keeper, Memory, Damaged}
use Rattle.model.specs.declared.record.Record.{Record}
use Rattle.model.specs.Cases.{in_case}
use Rattle.model.specs.Jobs.{is_past}
use Rattle.model.specs.Objects.{Numbered, numbered, object_named, object_numbered, records_of}
use Rattle.model.specs.Tenant.{Field, Job, Tenant}
use Rattle.store_abstraction.specs.declared.layout.FieldPlace.{FieldPlace}
use Rattle.store_abstraction.specs.declared.layout.JobPlace.{JobPlace}
use Rattle.store_abstraction.specs.declared.layout.Layout.{Layout}
use Rattle.store_abstraction.specs.Local.{StandsIn}
use Rattle.store_abstraction.specs.Metadata.{job_of, named_so, org_of, row_of_object, validation_of}
use Rattle.store_abstraction.specs.Plan.{OrgPlan, type_there}

-- ---- layouts

abbrev pub place_of : OrgPlan → (object : ℕ) → ℕ × Field → FieldPlace
place_of p n f =
    record {
      name = f.1.name;
      kind = f.1.kind;
      required = f.1.required;
      unique = f.1.unique;
      indexed = f.1.indexed;
      slot = p.slot n f.0;
      child = f.1.child;
    }

abbrev pub job_place : OrgPlan → Job → JobPlace
job_place p j = record { field = j.field; kind = type_there p j; twin = p.other; phase = j.phase; cursor = j.cursor }

-- the change on the object with this number
abbrev pub job_on : OrgPlan → Tenant → (object : ℕ) → Option JobPlace
job_on p t n = option_and_then (λ (j : Job). if j.object == n then Some (job_place p j) else None) t.job

-- the layout of an object of the organisation with this number
abbrev pub layout_of : (org : ℕ) → OrgPlan → Tenant → Numbered → Layout
layout_of org p t o =
    record {
      org = org;
      object = o.number;
      name = o.object.name;
      access = o.object.access;
      hierarchy = o.object.hierarchy;
      fields = map (place_of p o.number) (enumerate_from 0 o.object.fields);
      job = job_on p t o.number;
    }

-- the object with this number, in a tenant
abbrev pub numbered_at : Tenant → ℕ → Option Numbered
numbered_at t n = option_map (λ o. record { number = n; object = o }) (object_numbered t n)

-- in one organisation, which is this tenant or isn't there: the layout of the object with this number, of the one with this
-- name, whatever the case of its letters, and of all objects in their order
unfoldable pub own_layout : (org object : ℕ) → OrgPlan → Option Tenant → Option Layout
own_layout org n q t = option_and_then (λ u. option_map (layout_of org q u) (numbered_at u n)) t

unfoldable pub own_layout_named : (org : ℕ) → List ℕ → OrgPlan → Option Tenant → Option Layout
own_layout_named org name q t = option_and_then (λ u. option_map (layout_of org q u) (object_named u name)) t

unfoldable pub own_layouts : (org : ℕ) → OrgPlan → Option Tenant → List Layout
own_layouts org q t = in_case t [] (λ u. map (layout_of org q u) (numbered u.objects))

-- ---- rows

-- in one organisation: its row, and that of one of its objects
abbrev pub own_row : (org : ℕ) → OrgPlan → Option Tenant → Option OrgRow
own_row org q t = option_map (org_of org) t

abbrev pub own_object_row : (org object : ℕ) → OrgPlan → Option Tenant → Option ObjectRow
own_object_row org n q t = option_and_then (λ u. option_map (row_of_object org u n) (object_numbered u n)) t

-- the row of its change of a field's type
unfoldable pub own_change_row : (org : ℕ) → OrgPlan → Option Tenant → Option JobRow
own_change_row org q t = option_and_then (λ u. option_map (job_of org q) u.job) t

-- the row of the validation rule of an object that has this name in lower case
abbrev pub own_rule_row : (org object : ℕ) → (lower_name : List ℕ) → OrgPlan → Option Tenant → Option ValidationRow
own_rule_row org n lower_name q t =
    option_and_then (λ u. option_map (validation_of org n) (option_and_then (λ o. named_so (λ r. r.name) o.validation_rules lower_name) (object_numbered u n))) t

-- ---- records

-- of one organisation: at most so many records of the object in the order of their ids: the first, or those after an id
unfoldable pub records_after : (object : ℕ) → Option (List ℕ) → (limit : ℕ) → Tenant → List Record
records_after n after limit t = take limit (filter (λ r. is_past after r.id) (records_of t n))

-- ---- what is read by a layout

-- the layout is that of its object in this tenant
abbrev pub IsLayout : OrgPlan → Tenant → Layout → Type 0
IsLayout q t l = own_layout l.org l.object q (Some t) ≡ Some l

-- what is found is what each tenant has for which the organisation's rows stand and whose layout it is, and such are never damaged
abbrev pub FindsOf : {X : Type 0} → Layout → (Tenant → X) → Tables → Result X StoreFail → Type 0
FindsOf l value m (Ok x) = (q : OrgPlan) (t : Tenant) → StandsIn l.org q m (Some t) → IsLayout q t l → x ≡ value t
FindsOf l value m (Err Damaged) = (q : OrgPlan) (t : Tenant) → StandsIn l.org q m (Some t) → IsLayout q t l → ⊥
FindsOf l value m (Err Keeper) = Unit {0}
FindsOf l value m (Err Memory) = Unit {0}
