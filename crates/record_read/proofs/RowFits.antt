-- What is in each slot of a sound record is a valid value of a type, and the row of the record fits its form.
use Rattle.std.proofs.Common.{◌≡◌, ℕ, zero, suc, true, not, ◌&&◌, cond, eqb, IsTrue, List, [], ◌∷◌, map, Option, Some, None, refl, ap, subst, arith}
use Rattle.std.specs.Prelude.{IfSome, slice_get}
use Rattle.std.specs.List.{list_all}
use Rattle.std.specs.Option.{option_and_then, option_map}
use Rattle.base_lemmas.proofs.Lists.{find-enumerate_from as found_at}
use Rattle.base_lemmas.proofs.Bools.{and_first as and_left, and_second as and_right, by_answer as pick}
use Rattle.std.proofs.lemmas.Option.{same_Some as some_is}
use Rattle.base_value.specs.Conversion.{convert}
use Rattle.base_value.specs.Types.{is_reference, is_type}
use Rattle.base_value.specs.Values.{valid}
use Rattle.base_value.specs.declared.job.Outcome.{Outcome}
use Rattle.base_value.specs.declared.job.Outcome.TheVariants as outcome
use Rattle.base_value.specs.declared.job.Phase.{Phase}
use Rattle.base_value.specs.declared.job.Phase.TheVariants as phase
use Rattle.base_value.specs.declared.value.FieldType.{FieldType}
use Rattle.base_value.specs.declared.value.FieldType.TheVariants as type
use Rattle.base_value.specs.declared.value.Value.{Value}
use Rattle.formula.specs.Meaning.{value_at}
use Rattle.model.specs.declared.record.Record.{Record}
use Rattle.model.specs.Cases.{in_case}
use Rattle.model.specs.Jobs.{is_past}
use Rattle.model.specs.Membership.{Has}
use Rattle.model.specs.Objects.{is_of, object_numbered}
use Rattle.model.specs.Sound.{IsSound}
use Rattle.model.specs.SoundJob.{IsSoundJob}
use Rattle.model.specs.SoundRecords.{all_valid, kinds_of}
use Rattle.model.specs.Tenant.{Field, Job, Object, Tenant}
use Rattle.store_codec.specs.Plain.{FitsText}
use Rattle.store_abstraction.specs.Entries.{entry_text, field_entry, job_entry, job_value, other_entry, slot_entry, slot_field, slot_text}
use Rattle.store_abstraction.specs.Plan.{FitsPlan, OrgPlan, is_clearing, slot_type, type_there}
use Rattle.record_read.proofs.Fits.{PrintsShort, value_fits}
use Rattle.record_read.proofs.Sound.{fields_typed, values_valid}

-- what `base_value` says of converted values
abbrev pub ConvertsValid : Type 0
ConvertsValid = (from to : FieldType) (v w : Value) → IsTrue (is_type from) → IsTrue (valid from v) → convert to v ≡ Some w → IsTrue (valid to w)

-- ---- the fields of an object

pub typed_at : {X : Type 0} (kind : X → FieldType) (xs : List X) (i : ℕ) (x : X) → list_all (λ x. is_type (kind x)) xs ≡ true → slice_get xs i ≡ Some x → is_type (kind x) ≡ true
typed_at kind [] i x h e = absurd cc
typed_at {X = X} kind (y ∷ ys) zero x h e =
    subst (λ (z : X). is_type (kind z) ≡ true) (some_is y x e) (and_left (is_type (kind y)) (list_all (λ x. is_type (kind x)) ys) h)
typed_at kind (y ∷ ys) (suc i) x h e = typed_at kind ys i x (and_right (is_type (kind y)) (list_all (λ x. is_type (kind x)) ys) h) e

pub valid_at : {X : Type 0} (kind : X → FieldType) (xs : List X) (vs : List Value) (i : ℕ) (x : X) → all_valid (map kind xs) vs ≡ true → slice_get xs i ≡ Some x → valid (kind x) (value_at vs i) ≡ true
valid_at kind [] vs i x h e = absurd cc
valid_at kind (y ∷ ys) [] i x h e = absurd cc
valid_at {X = X} kind (y ∷ ys) (v ∷ vs) zero x h e =
    subst (λ (z : X). valid (kind z) v ≡ true) (some_is y x e) (and_left (valid (kind y) v) (all_valid (map kind ys) vs) h)
valid_at kind (y ∷ ys) (v ∷ vs) (suc i) x h e = valid_at kind ys vs i x (and_right (valid (kind y) v) (all_valid (map kind ys) vs) h) e

-- the values begin with the name
field_valid : (o : Object) (values : List Value) (i : ℕ) (f : Field) → all_valid (kinds_of o) values ≡ true → slice_get o.fields i ≡ Some f → valid f.kind (value_at values (suc i)) ≡ true
field_valid o [] i f h e = absurd cc
field_valid o (v ∷ vs) i f h e = valid_at (λ (f : Field). f.kind) o.fields vs i f (and_right (valid (type.Text 80) v) (all_valid (map (λ f. f.kind) o.fields) vs) h) e

-- ---- what is in a slot

-- a valid value of some type
record IsValue (v : Value) : Type 0 where
  kind : FieldType
  typed : is_type kind ≡ true
  valued : valid kind v ≡ true

value_text_fits : PrintsShort → (v : Value) → IsValue v → IfSome (slot_text v) FitsText
value_text_fits prints v h = value_fits prints h.kind v h.typed h.valued

module _ (converts : ConvertsValid) (prints : PrintsShort) (p : OrgPlan) (t : Tenant) (n : ℕ) (o : Object) (r : Record) (sound : IsSound t) (fits : FitsPlan p t) (is : object_numbered t n ≡ Some o) (has : Has t.records r) (of : IsTrue (is_of n r)) where
  field_value : (i : ℕ) (f : Field) → slice_get o.fields i ≡ Some f → IsValue (value_at r.values (suc i))
  field_value i f at = record {
    kind = f.kind;
    typed = typed_at (λ (f : Field). f.kind) o.fields i f (fields_typed t n o sound is) at;
    valued = field_valid o r.values i f (values_valid t n o r sound is has of) at;
  }

  left_typed : (j : Job) → is_type j.to ≡ true → (f : Phase) (x : Outcome) → is_type (slot_type p j f x) ≡ true
  left_typed j to phase.Copy x = to
  left_typed j to phase.Done x = to
  left_typed j to phase.Clear outcome.Switched = and_left (is_type p.was) (not (is_reference p.was)) fits.was
  left_typed j to phase.Clear outcome.Open = to
  left_typed j to phase.Clear outcome.Failed = to
  left_typed j to phase.Clear outcome.Cancelled = to

  sound_job : (j : Job) → t.job ≡ Some j → IsSoundJob t.counter t.objects t.records j
  sound_job j e = subst (λ (x : Option Job). IfSome x (IsSoundJob t.counter t.objects t.records)) e sound.job

  job_is_value : (j : Job) (f : Field) (v : Value) → t.job ≡ Some j → slice_get o.fields j.field ≡ Some f → (ph : Phase) → j.phase ≡ ph → job_value p j ph r ≡ Some v → IsValue v
  job_is_value j f v e at phase.Copy is some =
      let to = and_left (is_type j.to) (not (is_reference j.to)) (sound_job j e).change.to in
      let one = field_value j.field f at in
      pick (is_past j.cursor r.id) (λ b. cond b None (convert j.to (value_at r.values (suc j.field))) ≡ Some v → IsValue v)
      (λ _ none. absurd cc)
      (λ _ made. record { kind = j.to; typed = to; valued = converts one.kind j.to (value_at r.values (suc j.field)) v one.typed one.valued made })
      some
  job_is_value j f v e at phase.Clear is some =
      let to = and_left (is_type j.to) (not (is_reference j.to)) (sound_job j e).change.to in
      pick (is_past j.cursor r.id) (λ b. cond b (p.left r.id) None ≡ Some v → IsValue v)
      (λ _ left. record { kind = type_there p j; typed = left_typed j to j.phase j.outcome; valued = fits.left j r.id v e (ap is_clearing is) left })
      (λ _ none. absurd cc)
      some
  job_is_value j f v e at phase.Done is some = absurd cc

  made_fits : (j : Job) (f : Field) → t.job ≡ Some j → slice_get o.fields j.field ≡ Some f → (x : Option Value) → job_value p j j.phase r ≡ x
      → IfSome (entry_text (option_map (λ v. record { kind = type_there p j; value = v; indexed = f.indexed; unique = f.unique }) x)) FitsText
  made_fits j f e at None made = tt
  made_fits j f e at (Some v) made = value_text_fits prints v (job_is_value j f v e at j.phase refl made)

  of_field : (j : Job) → t.job ≡ Some j → (x : Option Field) → slice_get o.fields j.field ≡ x → IfSome (entry_text (option_and_then (job_entry p j r) x)) FitsText
  of_field j e None at = tt
  of_field j e (Some f) at = made_fits j f e at (job_value p j j.phase r) refl

  of_job : (s : ℕ) (job : Option Job) → t.job ≡ job → IfSome (entry_text (other_entry p job n o r s)) FitsText
  of_job s None e = tt
  of_job s (Some j) e =
      pick (eqb j.object n && eqb p.other s) (λ b. IfSome (entry_text (cond b (option_and_then (job_entry p j r) (slice_get o.fields j.field)) None)) FitsText)
      (λ _. of_field j e (slice_get o.fields j.field) refl)
      (λ _. tt)

  of_slot : (s : ℕ) (x : Option (ℕ × Field)) → slot_field p n o.fields s ≡ x → IfSome (entry_text (in_case x (other_entry p t.job n o r s) (λ f. Some (field_entry r f)))) FitsText
  of_slot s None e = of_job s t.job refl
  of_slot s (Some f) e =
      let (i, number, at) = found_at (λ (g : ℕ × Field). eqb (p.slot n g.0) s) 0 o.fields f e in
      let same : i ≡ f.0 = omega (arith, number) in
      value_text_fits prints (value_at r.values (suc f.0)) (subst (λ (m : ℕ). IsValue (value_at r.values (suc m))) same (field_value i f.1 at))

  -- the text in each slot has a spelling
  pub entry_fits : (s : ℕ) → IfSome (entry_text (slot_entry p t.job n o r s)) FitsText
  unfolding slot_entry
  entry_fits s = of_slot s (slot_field p n o.fields s) refl
