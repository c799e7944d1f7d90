-- What was read of a sound tenant passes the tests of a step.
use Rattle.std.proofs.Common.{◌≡◌, ◌<◌, ◌^◌, ℕ, true, not, ◌&&◌, ◌||◌, IsTrue, Some, refl, ap}
use Rattle.std.specs.Prelude.{IfSome, slice_get}
use Rattle.std.proofs.lemmas.Bool.{and_from as both}
use Rattle.retype_step.proofs.Facts.{FieldOf, place_there}
use Rattle.retype_step.specs.inner.Deciding.{is_ready}
use Rattle.retype_step.specs.inner.Rows.{is_plain}
use Rattle.record_read.specs.Decoding.{has_types}
use Rattle.store_rows.specs.Forms.{FitsForm}
use Rattle.store_rows.specs.Rows.{field_form}
use Rattle.model.specs.Objects.{object_numbered}
use Rattle.model.specs.RuleFormulas.{is_copy}
use Rattle.model.specs.Sound.{IsSound}
use Rattle.model.specs.Tenant.{Field, Job, Object, Tenant}
use Rattle.store_codec.specs.Plain.{FitsText}
use Rattle.retype_step.proofs.Facts.{field_typed}
use Rattle.record_index.specs.Turned.{converts}
use Rattle.store_abstraction.specs.declared.layout.Layout.{Layout}
use Rattle.store_abstraction.specs.Layouts.{layout_of, place_of}
use Rattle.store_abstraction.specs.Metadata.{field_of, job_of}
use Rattle.store_abstraction.specs.Plan.{FitsPlan, OrgPlan, slot_type}
use Rattle.base_value.specs.Conversion.{convertible}
use Rattle.base_value.specs.Types.{is_reference, is_type}
use Rattle.base_value.specs.declared.job.Outcome.{Outcome}
use Rattle.base_value.specs.declared.job.Outcome.TheVariants as outcome
use Rattle.base_value.specs.declared.job.Phase.{Phase}
use Rattle.base_value.specs.declared.job.Phase.TheVariants as phase
use Rattle.base_value.specs.declared.value.FieldType.{FieldType}

-- ---- what other crates say

abbrev pub Typed : Type 0
Typed = (org n : ℕ) (p : OrgPlan) (t : Tenant) (o : Object) → IsSound t → object_numbered t n ≡ Some o → IsTrue (has_types (layout_of org p t (record { number = n; object = o })))

abbrev pub ConvertsThere : Type 0
ConvertsThere = (org n : ℕ) (p : OrgPlan) (t : Tenant) (o : Object) → IsSound t → object_numbered t n ≡ Some o → IsTrue (converts (layout_of org p t (record { number = n; object = o })))

abbrev pub FieldFits : Type 0
FieldFits = (org : ℕ) (p : OrgPlan) (t : Tenant) (n i : ℕ) (o : Object) (f : Field) → org < 2 ^ 32 → IsSound t → FitsPlan p t
    → object_numbered t n ≡ Some o → slice_get o.fields i ≡ Some f → FitsForm field_form (field_of org p n i f)

-- ---- the tests

plain_there : (q : OrgPlan) (j : Job) (ph : Phase) (x : Outcome) → is_plain q.was ≡ true → is_plain j.to ≡ true → is_plain (slot_type q j ph x) ≡ true
plain_there q j phase.Clear outcome.Switched was to = was
plain_there q j _ _ was to = to

copies_so : (q : OrgPlan) (j : Job) (kind : FieldType) (ph : Phase) (x : Outcome) → convertible kind j.to ≡ true → (not (is_copy ph) || convertible kind (slot_type q j ph x)) ≡ true
copies_so q j kind phase.Copy x h = h
copies_so q j kind phase.Clear x h = refl
copies_so q j kind phase.Done x h = refl

module _ (typed : Typed) (converting : ConvertsThere) (org : ℕ) (q : OrgPlan) (t : Tenant) (j : Job) (o : Object) (sound : IsSound t) (fits : FitsPlan q t) (there : object_numbered t j.object ≡ Some o) (f : FieldOf t j o) where
  abbrev l : Layout
  l = layout_of org q t (record { number = j.object; object = o })

  plain_field : is_plain f.field.kind ≡ true
  plain_field =
      both (is_type f.field.kind) (not (is_reference f.field.kind))
      (field_typed l j.field (place_of q j.object (j.field, f.field)) (typed org j.object q t o sound there) (place_there org q t j o f.field f.at))
      (ap not f.change.reference)

  pub ready : is_ready (job_of org q j) l (place_of q j.object (j.field, f.field)) ≡ true
  ready =
      both (is_plain (job_of org q j).kind && is_plain f.field.kind) ((has_types l && converts l) && (not (is_copy j.phase) || convertible f.field.kind (job_of org q j).kind))
      (both (is_plain (job_of org q j).kind) (is_plain f.field.kind) (plain_there q j j.phase j.outcome fits.was f.change.to) plain_field)
      (both (has_types l && converts l) (not (is_copy j.phase) || convertible f.field.kind (job_of org q j).kind)
      (both (has_types l) (converts l) (typed org j.object q t o sound there) (converting org j.object q t o sound there))
      (copies_so q j f.field.kind j.phase j.outcome f.change.converts))

-- ---- the field's texts

pub name_fits : FieldFits → (org : ℕ) (q : OrgPlan) (t : Tenant) (j : Job) (o : Object) → org < 2 ^ 32 → IsSound t → FitsPlan q t → object_numbered t j.object ≡ Some o → (f : Field) → slice_get o.fields j.field ≡ Some f
    → FitsText f.name × IfSome f.child FitsText
name_fits field_fits org q t j o lo sound fits there f at =
    let all = field_fits org q t j.object j.field o f lo sound fits there at in
    (all.1.0, all.1.1.1.1.1)
