-- The rows of an organisation's objects, fields and change of a type: they fit their forms, and what is read is what it has.
use Rattle.std.proofs.Common.{◌≡◌, ℕ, zero, suc, ◌+◌, ◌<◌, ◌^◌, Bool, true, false, not, ◌&&◌, ◌||◌, IsTrue, Option, Some, None, List, [], ◌∷◌, length, refl, ap, subst, ◌∙◌, arith, map}
use Rattle.std.specs.Prelude.{slice_get, is_some}
use Rattle.std.specs.List.{AllByRecursion, enumerate_from}
use Rattle.std.specs.Option.{option_and_then, option_map}
use Rattle.std.proofs.lemmas.Option.{slice_get_within, same_Some as some_is}
use Rattle.std.proofs.lemmas.Bool.{and_parts as both}
use Rattle.base_lemmas.proofs.Options.{option_map-compose as map_twice}
use Rattle.store_rows.specs.declared.field.FieldRow.{FieldRow}
use Rattle.store_rows.specs.declared.job.JobRow.{JobRow}
use Rattle.store_rows.specs.declared.object.ObjectRow.{ObjectRow}
use Rattle.store_rows.specs.Forms.{FitsForm, row_bytes}
use Rattle.store_rows.specs.Keys.{Field, Job, Object}
use Rattle.store_rows.specs.Reads.{MayStandAt}
use Rattle.store_rows.specs.Rows.{field_form, job_form, object_form}
use Rattle.store_codec.specs.Choices.{is_own}
use Rattle.store_codec.specs.Composed.{FitsType}
use Rattle.base_value.specs.declared.sharing.Access.{Access}
use Rattle.base_value.specs.declared.sharing.Access.TheVariants as access
use Rattle.base_value.specs.Types.{is_reference, is_type}
use Rattle.base_value.specs.declared.value.FieldType.{FieldType}
use Rattle.base_value.specs.declared.job.Outcome.{Outcome}
use Rattle.base_value.specs.declared.job.Outcome.TheVariants as outcome
use Rattle.base_value.specs.declared.job.Phase.{Phase}
use Rattle.base_value.specs.declared.job.Phase.TheVariants as phase
use Rattle.model.specs.Objects.{Numbered, object_numbered}
use Rattle.model.specs.Sound.{IsSound}
use Rattle.model.specs.SoundJob.{HasSoundJob, IsSoundJob}
use Rattle.model.specs.Fields.{by_parent}
use Rattle.model.specs.SoundMetadata.{IsSoundField, IsSoundObject, implies}
use Rattle.model.specs.Tenant as model
use Rattle.model.specs.Tenant.{Tenant}
use Rattle.store_abstraction.specs.Metadata.{field_of, job_of, row_of_object}
use Rattle.store_abstraction.specs.Plan.{FitsPlan, OrgPlan, has_field, slot_type}
use Rattle.store_abstraction.specs.Stands.{row_in}
use Rattle.store_abstraction.proofs.Spelled.{child_option_fits, cursor_is_id, custom_fits, plain_type_fits, type_fits}
use Rattle.store_abstraction.proofs.Found.{IsRowOf}
use Rattle.store_abstraction.proofs.Names.{MakesIds}

-- what holds of each element holds of the one at a place
pub all_at : {X : Type 0} (P : X → Type 0) (xs : List X) (i : ℕ) (x : X) → AllByRecursion P xs → slice_get xs i ≡ Some x → P x
all_at P [] i x h e = absurd cc
all_at P (y ∷ ys) zero x h e = subst P (some_is y x e) h.0
all_at P (y ∷ ys) (suc i) x h e = all_at P ys i x h.1 e

abbrev numbered_from : ℕ → List model.Object → List Numbered
numbered_from k os = map (λ (o : ℕ × model.Object). record { number = o.0; object = o.1 }) (enumerate_from k os)

numbered_all : (P : Numbered → Type 0) (k : ℕ) (os : List model.Object) (i : ℕ) (o : model.Object) → AllByRecursion P (numbered_from k os) → slice_get os i ≡ Some o → P (record { number = k + i; object = o })
numbered_all P k [] i o h e = absurd cc
numbered_all P k (x ∷ os) zero o h e =
    subst (λ (n : ℕ). P (record { number = n; object = o })) (omega arith) (subst (λ (y : model.Object). P (record { number = k; object = y })) (some_is x o e) h.0)
numbered_all P k (x ∷ os) (suc i) o h e =
    subst (λ (n : ℕ). P (record { number = n; object = o })) (omega arith) (numbered_all P (k + 1) os i o h.1 e)

pub sound_object : (t : Tenant) (n : ℕ) (o : model.Object) → IsSound t → object_numbered t n ≡ Some o → IsSoundObject t.objects (record { number = n; object = o })
sound_object t n o s e =
    subst (λ (k : ℕ). IsSoundObject t.objects (record { number = k; object = o })) (omega arith) (numbered_all (IsSoundObject t.objects) 0 t.objects n o s.metadata.objects e)

-- ---- objects

-- the hierarchy counts where the access is the parent's, and so both have a byte
pub access_spelled : (a : Access) (h : Bool) → implies (by_parent a) h ≡ true → (h || is_own a) ≡ true
access_spelled a true e = refl
access_spelled access.Private false e = refl
access_spelled access.Read false e = refl
access_spelled access.ReadWrite false e = refl
access_spelled access.ControlledByParent false e = absurd cc

pub object_fits : (org : ℕ) (t : Tenant) (n : ℕ) (o : model.Object) → org < 2 ^ 32 → IsSound t → object_numbered t n ≡ Some o → FitsForm object_form (row_of_object org t n o)
object_fits org t n o lo s e =
    let so = sound_object t n o s e in
    let there : n < length t.objects = slice_get_within t.objects n o e in (
      (lo, omega (arith, there, s.metadata.few)),
      (custom_fits o.name so.name, (access_spelled o.access o.hierarchy so.hierarchy, (omega (arith, s.records.few_of n), (omega (arith, so.few_fields), omega (arith, so.few_rules))))),
    )

-- the row of an object, if there is one
abbrev pub object_there : (org n : ℕ) → OrgPlan → Tenant → Option ObjectRow
object_there org n p t = option_map (row_of_object org t n) (object_numbered t n)

object_may : (org n : ℕ) (t : Tenant) → org < 2 ^ 32 → IsSound t → (o : Option model.Object) → object_numbered t n ≡ o → MayStandAt object_form (org, n) (option_map (row_of_object org t n) o)
object_may org n t lo s None e = tt
object_may org n t lo s (Some o) e = (refl, object_fits org t n o lo s e)

object_rows_are : (org n : ℕ) (p : OrgPlan) (t : Tenant) → row_in p t (Object org n) ≡ option_map (row_bytes object_form) (object_there org n p t)
unfolding row_in
object_rows_are org n p t = map_twice (row_bytes object_form) (row_of_object org t n) (object_numbered t n)

pub object_is_row : (org n : ℕ) → org < 2 ^ 32 → n < 2 ^ 16 → IsRowOf object_form org (org, n) (object_there org n)
object_is_row org n lo small = record {
  owned = refl;
  fits = (lo, small);
  rows = object_rows_are org n;
  stands = λ p t s f. object_may org n t lo s (object_numbered t n) refl;
}

-- ---- fields

has_it : (t : Tenant) (n i : ℕ) (o : model.Object) (f : model.Field) → object_numbered t n ≡ Some o → slice_get o.fields i ≡ Some f → IsTrue (has_field t n i)
has_it t n i o f e g = ap (λ (x : Option model.Object). is_some (option_and_then (λ o. slice_get o.fields i) x)) e ∙ ap is_some g

pub field_fits : (org : ℕ) (p : OrgPlan) (t : Tenant) (n i : ℕ) (o : model.Object) (f : model.Field) → org < 2 ^ 32 → IsSound t → FitsPlan p t → object_numbered t n ≡ Some o → slice_get o.fields i ≡ Some f → FitsForm field_form (field_of org p n i f)
field_fits org p t n i o f lo s fp e g =
    let so = sound_object t n o s e in
    let sf = all_at (IsSoundField (length t.objects)) o.fields i f so.fields g in
    let there : n < length t.objects = slice_get_within t.objects n o e in
    let inside : i < length o.fields = slice_get_within o.fields i f g in
    let slot : p.slot n i < 48 = fp.below n i (has_it t n i o f e g) in (
      (lo, (omega (arith, there, s.metadata.few), omega (arith, inside, so.few_fields))),
      (custom_fits f.name sf.name, (type_fits f.kind (length t.objects) s.metadata.few sf.kind sf.target, (tt, (omega (arith, slot), child_option_fits f.child sf.child_name)))),
    )

-- the row of a field, if there is one
abbrev pub field_there : (org n i : ℕ) → OrgPlan → Tenant → Option FieldRow
field_there org n i p t = option_map (field_of org p n i) (option_and_then (λ o. slice_get o.fields i) (object_numbered t n))

pub and_then_some : {X Y : Type 0} (f : X → Option Y) (o : Option X) (y : Y) → option_and_then f o ≡ Some y → (x : X) × (o ≡ Some x) × (f x ≡ Some y)
and_then_some f None y e = absurd cc
and_then_some f (Some x) y e = (x, refl, e)

field_may : (org n i : ℕ) (p : OrgPlan) (t : Tenant) → org < 2 ^ 32 → IsSound t → FitsPlan p t → (f : Option model.Field) → option_and_then (λ o. slice_get o.fields i) (object_numbered t n) ≡ f
    → MayStandAt field_form (org, (n, i)) (option_map (field_of org p n i) f)
field_may org n i p t lo s fp None e = tt
field_may org n i p t lo s fp (Some f) e =
    let it = and_then_some (λ (o : model.Object). slice_get o.fields i) (object_numbered t n) f e in
    (refl, field_fits org p t n i it.0 f lo s fp it.1 it.2)

field_rows_are : (org n i : ℕ) (p : OrgPlan) (t : Tenant) → row_in p t (Field org n i) ≡ option_map (row_bytes field_form) (field_there org n i p t)
unfolding row_in
field_rows_are org n i p t = map_twice (row_bytes field_form) (field_of org p n i) (option_and_then (λ o. slice_get o.fields i) (object_numbered t n))

pub field_is_row : (org n i : ℕ) → org < 2 ^ 32 → n < 2 ^ 16 → i < 256 → IsRowOf field_form org (org, (n, i)) (field_there org n i)
field_is_row org n i lo small low = record {
  owned = refl;
  fits = (lo, (small, low));
  rows = field_rows_are org n i;
  stands = λ p t s f. field_may org n i p t lo s f (option_and_then (λ o. slice_get o.fields i) (object_numbered t n)) refl;
}

-- ---- the change of a type

plain_type : (k : FieldType) → IsTrue (is_type k && not (is_reference k)) → FitsType k
plain_type k h =
    let p = both (is_type k) (not (is_reference k)) h in
    plain_type_fits k p.0 (not_true (is_reference k) p.1)
  where
    not_true : (b : Bool) → not b ≡ true → b ≡ false
    not_true true e = absurd cc
    not_true false e = refl

type_there_fits : (p : OrgPlan) (j : model.Job) (ph : Phase) (out : Outcome) → FitsType p.was → FitsType j.to → FitsType (slot_type p j ph out)
type_there_fits p j phase.Clear outcome.Switched was to = was
type_there_fits p j _ _ was to = to

job_sound : (t : Tenant) (j : model.Job) → IsSound t → t.job ≡ Some j → IsSoundJob t.counter t.objects t.records j
job_sound t j s e = subst (HasSoundJob t.counter t.objects t.records) e s.job

pub job_fits : MakesIds → (org : ℕ) (p : OrgPlan) (t : Tenant) (j : model.Job) → org < 2 ^ 32 → IsSound t → FitsPlan p t → t.job ≡ Some j → FitsForm job_form (job_of org p j)
job_fits makes org p t j lo s fp e =
    let sj = job_sound t j s e in
    let at = and_then_some (λ (o : model.Object). slice_get o.fields j.field) (slice_get t.objects j.object) sj.field sj.there in
    let o = at.0 in
    let so = sound_object t j.object o s at.1 in
    let there : j.object < length t.objects = slice_get_within t.objects j.object o at.1 in
    let inside : j.field < length o.fields = slice_get_within o.fields j.field sj.field at.2 in
    let twin : p.other < 48 = fp.other in (
      lo,
      (
        omega (arith, there, s.metadata.few),
        (
          omega (arith, inside, so.few_fields),
          (
            type_there_fits p j j.phase j.outcome (plain_type p.was fp.was) (plain_type j.to sj.change.to),
            (
              omega (arith, twin),
              (refl, (refl, (cursor_is_id makes t.counter j.object j.cursor sj.cursor, cursor_is_id makes t.counter j.object j.failed sj.failed))),
            ),
          ),
        ),
      ),
    )

-- the row of the change, if there is one
abbrev pub job_there : (org : ℕ) → OrgPlan → Tenant → Option JobRow
job_there org p t = option_map (job_of org p) t.job

job_may : MakesIds → (org : ℕ) (p : OrgPlan) (t : Tenant) → org < 2 ^ 32 → IsSound t → FitsPlan p t → (j : Option model.Job) → t.job ≡ j → MayStandAt job_form org (option_map (job_of org p) j)
job_may makes org p t lo s fp None e = tt
job_may makes org p t lo s fp (Some j) e = (refl, job_fits makes org p t j lo s fp e)

job_rows_are : (org : ℕ) (p : OrgPlan) (t : Tenant) → row_in p t (Job org) ≡ option_map (row_bytes job_form) (job_there org p t)
unfolding row_in
job_rows_are org p t = map_twice (row_bytes job_form) (job_of org p) t.job

pub job_is_row : MakesIds → (org : ℕ) → org < 2 ^ 32 → IsRowOf job_form org org (job_there org)
job_is_row makes org lo = record {
  owned = refl;
  fits = lo;
  rows = job_rows_are org;
  stands = λ p t s f. job_may makes org p t lo s f t.job refl;
}
