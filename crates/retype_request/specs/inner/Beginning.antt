-- The rules on a change of a field's type, by what is read of the field's object, and the row of a change that begins. No public
-- contract reaches these words.
-- It is this product's own.
use Rattle.std.specs.Prelude.{◌≡◌, ℕ, if◌then◌else◌, List, [], ◌∷◌, Option, None, Some, slice_get, Result, Ok, Err}
use Rattle.std.specs.Option.{option_and_then, option_map}
use Rattle.store_edit.specs.Edits.{FailsBy}
use Rattle.store_rows.specs.declared.job.JobRow.{JobRow}
use Rattle.model.specs.Cases.{in_case}
use Rattle.model.specs.declared.refusal.Refusal.TheVariants.{InvalidField, RetypeUnsupported}
use Rattle.model.specs.Fields.{column_named}
use Rattle.model.specs.Objects.{Numbered, object_named}
use Rattle.model.specs.Retyping.{begin_on, can_become, new_job, under_way, with_job}
use Rattle.model.specs.Rules.{Rule, first_refusal}
use Rattle.model.specs.Tenant.{Tenant}
use Rattle.model.specs.Verdict.{Verdict, accept, done, on_object, refuse}
use Rattle.retype_request.specs.declared.columns.NamedField.{NamedField}
use Rattle.retype_request.specs.declared.judging.Chosen.{Chosen}
use Rattle.retype_request.specs.inner.Columns.{named_by}
use Rattle.retype_request.specs.inner.Rules.{use_rule}
use Rattle.schema_rules.specs.Objects.{field_of_place, object_of_layout}
use Rattle.store_abstraction.specs.declared.fail.EditFail.{EditFail}
use Rattle.store_abstraction.specs.declared.layout.FieldPlace.{FieldPlace}
use Rattle.store_abstraction.specs.declared.layout.Layout.{Layout}
use Rattle.store_abstraction.specs.Layouts.{layout_of}
use Rattle.store_abstraction.specs.Plan.{OrgPlan}
use Rattle.base_value.specs.declared.job.Outcome.{Outcome}
use Rattle.base_value.specs.declared.job.Phase.{Phase}
use Rattle.base_value.specs.declared.value.FieldType.{FieldType}

-- ---- the rules

-- the number of a custom field, if it can have this type
abbrev pub place_in : List FieldPlace → (to : FieldType) → (custom : Option ℕ) → Option ℕ
place_in fields to custom =
    option_and_then
    (λ place. option_and_then (λ f. if can_become to (field_of_place f) then Some place else None) (slice_get fields place))
    custom

-- RETYPE_UNSUPPORTED
abbrev pub type_rule : Layout → (to : FieldType) → NamedField → Rule
type_rule l to f = in_case (place_in l.fields to f.custom) (Some (RetypeUnsupported f.name)) (λ place. None)

-- JOB_BUSY, RETYPE_UNSUPPORTED, or FIELD_IN_USE
abbrev pub column_rule : Layout → Tenant → (to : FieldType) → NamedField → Rule
column_rule l t to f =
    first_refusal
    (under_way t
    ∷ in_case (place_in l.fields to f.custom) (Some (RetypeUnsupported f.name)) (λ place. use_rule l t place f.name)
    ∷ [])

-- the field with this name
abbrev pub named_in : Layout → (name : List ℕ) → Option NamedField
named_in l name = option_map named_by (column_named (object_of_layout l) name)

-- the same, or INVALID_FIELD
abbrev pub field_rule : Layout → Tenant → (to : FieldType) → (name : List ℕ) → Rule
field_rule l t to name = in_case (named_in l name) (Some (InvalidField name)) (column_rule l t to)

-- it is the number of the custom field with this name, which can have this type
abbrev pub IsPlace : Layout → (to : FieldType) → (name : List ℕ) → (place : ℕ) → Type 0
IsPlace l to name place = (f : NamedField) × (named_in l name ≡ Some f) × (place_in l.fields to f.custom ≡ Some place)

-- ---- the verdict

-- on a beginning with this type
abbrev pub begin_by : Tenant → (object field : List ℕ) → (to : FieldType) → Verdict
begin_by t object field to =
    on_object t object (λ o.
    in_case (column_named o.object field) (refuse t (InvalidField field)) (λ c. begin_on t o to c.name c.at))

-- the change begins on the field that was chosen
pub record Begins (org : ℕ) (q : OrgPlan) (t : Tenant) (object field : List ℕ) (to : FieldType) (x : Chosen) : Type 0 where
  pub numbered : Numbered
  pub there : object_named t object ≡ Some numbered
  pub layout : x.layout ≡ layout_of org q t numbered
  pub idle : under_way t ≡ None
  pub accepted : begin_by t object field to ≡ accept done (with_job (new_job numbered.number x.field to) t)

-- the field is one on which it begins; or why there is none
abbrev pub BeginsBy : (org : ℕ) → OrgPlan → Tenant → (object field : List ℕ) → (to : FieldType) → Result Chosen EditFail → Type 0
BeginsBy org q t object field to (Ok x) = Begins org q t object field to x
BeginsBy org q t object field to (Err e) = FailsBy (begin_by t object field to) e

-- ---- the row

-- of a change that is at no record
abbrev pub row_by : (org object field : ℕ) → FieldType → (twin : ℕ) → Phase → Outcome → JobRow
row_by org object field kind twin phase outcome =
    record {
      org = org;
      object = object;
      field = field;
      kind = kind;
      twin = twin;
      phase = phase;
      outcome = outcome;
      cursor = None;
      failed = None;
    }
