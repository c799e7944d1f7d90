-- A sound tenant is kept as laws of edits suppose, by each plan that fits it.
use Rattle.std.proofs.Common.{◌≡◌, ◌↔◌, inl, inr, ℕ, zero, suc, ◌≤◌, true, false, not, ◌&&◌, cond, eqb, IsTrue, T, List, [], ◌∷◌, map, length, Option, Some, None, is_some, refl, sym, ap, subst, ◌∙◌, arith, bytes_eq}
use Rattle.std.specs.Prelude.{if◌then◌else◌, slice_get}
use Rattle.std.specs.FinMap.{is_sorted}
use Rattle.std.specs.FinMap.Entries.{below_all}
use Rattle.std.specs.List.{AllByRecursion, enumerate_from, list_all}
use Rattle.std.specs.Option.{option_and_then, option_map}
use Rattle.std.specs.Ordering.{is_lt}
use Rattle.std.proofs.lemmas.Bool.{eqb-true, not-true as is_false, true≢false as clash}
use Rattle.std.proofs.lemmas.Cmp.{nat_list_cmp_total, tied_itself}
use Rattle.base_lemmas.proofs.Bools.{and_first as and_left, and_second as and_right, T-and_first as t_first, T-and_second as t_second, true_from_T as t_true, by_answer as pick}
use Rattle.base_lemmas.proofs.Lists.{each_at_number as of_numbered, find-enumerate_from as found_at}
use Rattle.base_lemmas.proofs.Texts.{same_from_bytes_eq as same_exact, bytes_eq-self as same_itself}
use Rattle.std.proofs.lemmas.Option.{same_Some as some_is}
use Rattle.store_kv.specs.Tables.{bytes_cmp}
use Rattle.formula.specs.Meaning.{value_at}
use Rattle.model.specs.declared.record.Record.{Record}
use Rattle.model.specs.Cases.{in_case}
use Rattle.model.specs.Fields.{is_null}
use Rattle.model.specs.Known.{known}
use Rattle.model.specs.Membership.{Has}
use Rattle.model.specs.Objects.{is_of, object_number, object_numbered, record_at}
use Rattle.model.specs.Sound.{IsSound}
use Rattle.model.specs.SoundJob.{HasSoundJob, IsSoundJob, job_field}
use Rattle.model.specs.SoundMetadata.{IsSoundField, IsSoundObject}
use Rattle.model.specs.SoundPeople.{ids_rise}
use Rattle.model.specs.SoundRecords.{IsSoundRecord, all_valid, kinds_of, record_id}
use Rattle.model.specs.Tenant.{Field, Job, Object, Tenant}
use Rattle.model.specs.World.{having_id}
use Rattle.record_index.specs.Changed.{kept_entry}
use Rattle.store_abstraction.specs.Entries.{Entry, field_entry, is_unique, job_entry, job_value, other_entry, slot_entry, slot_field}
use Rattle.store_abstraction.specs.Plan.{FitsPlan, OrgPlan, has_field, slot_count, type_there}
use Rattle.store_abstraction.specs.Stands.{kept_at, kept_in}
use Rattle.record_index.proofs.Records.{has_kept, is_found}
use Rattle.record_index.specs.diff.Touched.{AllLow, HasSoundRows}
use Rattle.base_value.specs.OrderKeys.{Fits, order_key}
use Rattle.base_value.specs.Types.{is_type}
use Rattle.base_value.specs.Values.{equal, valid}
use Rattle.base_value.specs.declared.value.FieldType.{FieldType}
use Rattle.base_value.specs.declared.value.FieldType.TheVariants as type
use Rattle.base_value.specs.declared.value.Value.{Value}

-- ---- ids rise

abbrev with_ids : List Record → List (List ℕ × Record)
with_ids rs = map (λ (r : Record). (record_id r, r)) rs

below_has : (k : List ℕ) (rs : List Record) (r : Record) → T (below_all bytes_cmp k (with_ids rs)) → Has rs r → is_lt (bytes_cmp k r.id) ≡ true
below_has k [] r h has = absurd has
below_has k (x ∷ rs) r h (inl e) = subst (λ (y : Record). is_lt (bytes_cmp k y.id) ≡ true) (sym e) (t_true (is_lt (bytes_cmp k x.id)) (t_first (is_lt (bytes_cmp k x.id)) (below_all bytes_cmp k (with_ids rs)) h))
below_has k (x ∷ rs) r h (inr has) = below_has k rs r (t_second (is_lt (bytes_cmp k x.id)) (below_all bytes_cmp k (with_ids rs)) h) has

not_less : (a : List ℕ) → is_lt (bytes_cmp a a) ≡ true → ⊥
not_less a h = differ (sym (ap is_lt (tied_itself nat_list_cmp_total a)) ∙ h)
  where
    differ : false ≡ true → ⊥
    differ e = cc

-- a record is found by its id
found_itself : (rs : List Record) (r : Record) → T (ids_rise record_id rs) → Has rs r → having_id (λ r. r.id) rs r.id ≡ Some r
found_itself [] r h has = absurd has
found_itself (x ∷ rs) r h (inl e) = subst (λ (y : Record). having_id (λ r. r.id) (x ∷ rs) y.id ≡ Some y) (sym e) (rw (same_itself x.id) refl)
found_itself (x ∷ rs) r h (inr has) =
    let above = t_first (below_all bytes_cmp x.id (with_ids rs)) (is_sorted bytes_cmp (with_ids rs)) h in
    let rest = found_itself rs r (t_second (below_all bytes_cmp x.id (with_ids rs)) (is_sorted bytes_cmp (with_ids rs)) h) has in
    pick (bytes_eq r.id x.id) (λ b. bytes_eq r.id x.id ≡ b → cond b (Some x) (having_id (λ r. r.id) rs r.id) ≡ Some r)
    (λ _ same. absurd (not_less x.id (subst (λ (i : List ℕ). is_lt (bytes_cmp x.id i) ≡ true) (same_exact r.id x.id same) (below_has x.id rs r above has))))
    (λ _ _. rest)
    refl

-- ---- fields and their values

typed_at : {X : Type 0} (kind : X → FieldType) (xs : List X) (i : ℕ) (x : X) → list_all (λ x. is_type (kind x)) xs ≡ true → slice_get xs i ≡ Some x → is_type (kind x) ≡ true
typed_at kind [] i x h e = absurd cc
typed_at {X = X} kind (y ∷ ys) zero x h e =
    subst (λ (z : X). is_type (kind z) ≡ true) (some_is y x e) (and_left (is_type (kind y)) (list_all (λ x. is_type (kind x)) ys) h)
typed_at kind (y ∷ ys) (suc i) x h e = typed_at kind ys i x (and_right (is_type (kind y)) (list_all (λ x. is_type (kind x)) ys) h) e

valid_at : {X : Type 0} (kind : X → FieldType) (xs : List X) (vs : List Value) (i : ℕ) (x : X) → all_valid (map kind xs) vs ≡ true → slice_get xs i ≡ Some x → valid (kind x) (value_at vs i) ≡ true
valid_at kind [] vs i x h e = absurd cc
valid_at kind (y ∷ ys) [] i x h e = absurd cc
valid_at {X = X} kind (y ∷ ys) (v ∷ vs) zero x h e =
    subst (λ (z : X). valid (kind z) v ≡ true) (some_is y x e) (and_left (valid (kind y) v) (all_valid (map kind ys) vs) h)
valid_at kind (y ∷ ys) (v ∷ vs) (suc i) x h e = valid_at kind ys vs i x (and_right (valid (kind y) v) (all_valid (map kind ys) vs) h) e

-- the values begin with the name
field_valid : (o : Object) (values : List Value) (i : ℕ) (f : Field) → all_valid (kinds_of o) values ≡ true → slice_get o.fields i ≡ Some f → valid f.kind (value_at values (suc i)) ≡ true
field_valid o [] i f h e = absurd cc
field_valid o (v ∷ vs) i f h e = valid_at (λ (f : Field). f.kind) o.fields vs i f (and_right (valid (type.Text 80) v) (all_valid (map (λ f. f.kind) o.fields) vs) h) e

-- what holds of all holds of each
of_each : {X : Type 0} (P : X → Type 0) (xs : List X) (x : X) → AllByRecursion P xs → Has xs x → P x
of_each P [] x all h = absurd h
of_each P (y ∷ xs) x all (inl e) = subst P (sym e) all.0
of_each P (y ∷ xs) x all (inr h) = of_each P xs x all.1 h

-- a tenant's record, as a sound one
sound_record : (t : Tenant) (r : Record) → IsSound t → Has t.records r → IsSoundRecord (known t) t.objects r
sound_record t r sound has = of_each (IsSoundRecord (known t) t.objects) t.records r sound.records.each has

values_valid : (t : Tenant) (n : ℕ) (o : Object) (r : Record) → IsSound t → object_numbered t n ≡ Some o → Has t.records r → IsTrue (is_of n r) → IsTrue (all_valid (kinds_of o) r.values)
values_valid t n o r sound is has of =
    let one = sound_record t r sound has in
    let number : object_number r.id ≡ n = eqb-true (object_number r.id) n of in
    let same : one.object ≡ o = some_is one.object o (sym one.there ∙ ap (slice_get t.objects) number ∙ is) in
    subst (λ (x : Object). IsTrue (all_valid (kinds_of x) r.values)) same one.values

typed : (n : ℕ) (fs : List Field) → AllByRecursion (IsSoundField n) fs → list_all (λ f. is_type f.kind) fs ≡ true
typed n [] all = refl
typed n (f ∷ fs) all = rw (all.0.kind) (typed n fs all.1)

fields_typed : (t : Tenant) (n : ℕ) (o : Object) → IsSound t → object_numbered t n ≡ Some o → list_all (λ f. is_type f.kind) o.fields ≡ true
fields_typed t n o sound is =
    let one = of_numbered (IsSoundObject t.objects) (λ (x : ℕ × Object). record { number = x.0; object = x.1 }) t.objects 0 n n o (omega arith) is sound.metadata.objects in
    typed (length t.objects) o.fields one.fields

-- ---- the slots

module _ (p : OrgPlan) (t : Tenant) (fits : FitsPlan p t) (n : ℕ) (o : Object) (here : object_numbered t n ≡ Some o) where
  has_it : (f : ℕ) (g : Field) → slice_get o.fields f ≡ Some g → has_field t n f ≡ true
  has_it f g at = ap (λ (x : Option Object). is_some (option_and_then (λ o. slice_get o.fields f) x)) here ∙ ap (λ (x : Option Field). is_some x) at

  -- no field has a slot past the last
  no_slot : (s : ℕ) → slot_count ≤ s → slot_field p n o.fields s ≡ None
  no_slot s past = by (slot_field p n o.fields s) refl
    where
      by : (x : Option (ℕ × Field)) → slot_field p n o.fields s ≡ x → x ≡ None
      by None e = refl
      by (Some f) e =
          let (i, number, at) = found_at (λ (g : ℕ × Field). eqb (p.slot n g.0) s) 0 o.fields f e in
          let same : i ≡ f.0 = omega (arith, number) in
          let below = fits.below n f.0 (has_it f.0 f.1 (subst (λ (m : ℕ). slice_get o.fields m ≡ Some f.1) same at)) in
          let slot = eqb-true (p.slot n f.0) s (is_found (λ (g : ℕ × Field). eqb (p.slot n g.0) s) (enumerate_from 0 o.fields) f e).1 in
          absurd (omega (arith, below, slot, past))

  no_other : (r : Record) (s : ℕ) → slot_count ≤ s → (job : Option Job) → other_entry p job n o r s ≡ None
  no_other r s past None = refl
  no_other r s past (Some j) =
      pick (eqb j.object n && eqb p.other s) (λ b. cond b (option_and_then (job_entry p j r) (slice_get o.fields j.field)) None ≡ None)
      (λ g. let slot = eqb-true p.other s (and_right (eqb j.object n) (eqb p.other s) g) in let below = fits.other in absurd (omega (arith, below, slot, past)))
      (λ _. refl)

  no_entry : (r : Record) (s : ℕ) → slot_count ≤ s → slot_entry p t.job n o r s ≡ None
  unfolding slot_entry
  no_entry r s past =
      ap (λ (x : Option (ℕ × Field)). in_case x (other_entry p t.job n o r s) (λ f. Some (field_entry r f))) (no_slot s past) ∙ no_other r s past t.job

low : (p : OrgPlan) (t : Tenant) → FitsPlan p t → AllLow p t
unfolding kept_at
low p t fits n i s past = by (record_at t i)
  where
    in_object : (r : Record) (x : Option Object) → object_numbered t n ≡ x → kept_entry (option_map (λ o. kept_in p t n o r) x) s ≡ None
    in_object r None here = refl
    in_object r (Some o) here = no_entry p t fits n o here r s past

    by : (x : Option Record) → kept_entry (option_and_then (λ (r : Record). if is_of n r then option_map (λ o. kept_in p t n o r) (object_numbered t n) else None) x) s ≡ None
    by None = refl
    by (Some r) =
        pick (is_of n r) (λ b. kept_entry (cond b (option_map (λ o. kept_in p t n o r) (object_numbered t n)) None) s ≡ None)
        (λ _. in_object r (object_numbered t n) refl)
        (λ _. refl)

-- ---- unique values

-- what `base_value` says of valid values, and of order keys
abbrev pub FitValues : Type 0
FitValues = (kind : FieldType) (v : Value) → IsTrue (is_type kind) → IsTrue (valid kind v) → Fits v

abbrev pub SameKeys : Type 0
SameKeys = (a b : Value) → Fits a → Fits b → (order_key a ≡ order_key b) ↔ IsTrue (equal a b)

module _ (fit_values : FitValues) (same_keys : SameKeys) (p : OrgPlan) (t : Tenant) (sound : IsSound t) (n : ℕ) (o : Object) (here : object_numbered t n ≡ Some o) (s : ℕ) (key : List ℕ) where
  -- the values of a change aren't unique
  not_unique : (j : Job) → t.job ≡ Some j → j.object ≡ n → (r : Record) (f : Field) → slice_get o.fields j.field ≡ Some f → is_unique key (job_entry p j r f) ≡ false
  not_unique j at of r f is = by (job_value p j j.phase r)
    where
      one : IsSoundJob t.counter t.objects t.records j
      one = subst (λ (x : Option Job). HasSoundJob t.counter t.objects t.records x) at sound.job

      job_object : slice_get t.objects j.object ≡ Some o
      job_object = ap (slice_get t.objects) of ∙ here

      there : job_field t.objects j ≡ Some f
      there = ap (λ (x : Option Object). option_and_then (λ o. slice_get o.fields j.field) x) job_object ∙ is

      unique : f.unique ≡ false
      unique = ap (λ (x : Field). x.unique) (sym (some_is one.field f (sym one.there ∙ there))) ∙ one.change.unique

      by : (v : Option Value) → is_unique key (option_map {U = Entry} (λ v. record { kind = type_there p j; value = v; indexed = f.indexed; unique = f.unique }) v) ≡ false
      by None = refl
      by (Some v) = ap (λ b. b && (not (is_null v) && bytes_eq (order_key v) key)) unique

  pub other_not_unique : (r : Record) (job : Option Job) → t.job ≡ job → is_unique key (other_entry p job n o r s) ≡ false
  other_not_unique r None at = refl
  other_not_unique r (Some j) at =
      pick (eqb j.object n && eqb p.other s) (λ b. is_unique key (cond b (option_and_then (job_entry p j r) (slice_get o.fields j.field)) None) ≡ false)
      (λ g. by (eqb-true j.object n (and_left (eqb j.object n) (eqb p.other s) g)) (slice_get o.fields j.field) refl)
      (λ _. refl)
    where
      by : j.object ≡ n → (x : Option Field) → slice_get o.fields j.field ≡ x → is_unique key (option_and_then (job_entry p j r) x) ≡ false
      by of None is = refl
      by of (Some f) is = not_unique j at of r f is

  fits_value : (r : Record) (i : ℕ) (f : Field) → Has t.records r → is_of n r ≡ true → slice_get o.fields i ≡ Some f → Fits (value_at r.values (suc i))
  fits_value r i f has of at =
      fit_values f.kind (value_at r.values (suc i)) (typed_at (λ (x : Field). x.kind) o.fields i f (fields_typed t n o sound here) at)
      (field_valid o r.values i f (values_valid t n o r sound here has of) at)

  -- two records with the key in a unique field
  of_field : (f : ℕ × Field) → slice_get o.fields f.0 ≡ Some f.1 → (y z : Record) → Has t.records y → Has t.records z → is_of n y ≡ true → is_of n z ≡ true
      → is_unique key (Some (field_entry y f)) ≡ true → is_unique key (Some (field_entry z f)) ≡ true → y.id ≡ z.id
  of_field f at y z has_y has_z of_y of_z key_y key_z =
      let v = value_at y.values (suc f.0) in
      let w = value_at z.values (suc f.0) in
      let in_y = and_right f.1.unique (not (is_null v) && bytes_eq (order_key v) key) key_y in
      let in_z = and_right f.1.unique (not (is_null w) && bytes_eq (order_key w) key) key_z in
      let keys : order_key v ≡ order_key w = same_exact (order_key v) key (and_right (not (is_null v)) (bytes_eq (order_key v) key) in_y)
      ∙ sym (same_exact (order_key w) key (and_right (not (is_null w)) (bytes_eq (order_key w) key) in_z)) in
      sound.records.unique n f.0 o f.1 here at (and_left f.1.unique (not (is_null v) && bytes_eq (order_key v) key) key_y) y z
      (has_kept (is_of n) t.records y has_y of_y) (has_kept (is_of n) t.records z has_z of_z)
      (is_false (is_null v) (and_left (not (is_null v)) (bytes_eq (order_key v) key) in_y))
      ((same_keys v w (fits_value y f.0 f.1 has_y of_y at) (fits_value z f.0 f.1 has_z of_z at)).0 keys)

  one_holder : (y z : Record) → Has t.records y → Has t.records z → is_of n y ≡ true → is_of n z ≡ true
      → is_unique key (slot_entry p t.job n o y s) ≡ true → is_unique key (slot_entry p t.job n o z s) ≡ true → y.id ≡ z.id
  unfolding slot_entry
  one_holder y z has_y has_z of_y of_z key_y key_z = by (slot_field p n o.fields s) refl key_y key_z
    where
      by : (x : Option (ℕ × Field)) → slot_field p n o.fields s ≡ x → is_unique key (in_case x (other_entry p t.job n o y s) (λ f. Some (field_entry y f))) ≡ true
          → is_unique key (in_case x (other_entry p t.job n o z s) (λ f. Some (field_entry z f))) ≡ true → y.id ≡ z.id
      by None e h g = absurd (clash (sym h ∙ other_not_unique y t.job refl))
      by (Some f) e h g =
          let (i, number, at) = found_at (λ (g : ℕ × Field). eqb (p.slot n g.0) s) 0 o.fields f e in
          let same : i ≡ f.0 = omega (arith, number) in
          of_field f (subst (λ (m : ℕ). slice_get o.fields m ≡ Some f.1) same at) y z has_y has_z of_y of_z h g

pub kept : FitValues → SameKeys → (p : OrgPlan) (t : Tenant) → IsSound t → FitsPlan p t → HasSoundRows p t
kept fit_values same_keys p t sound fits = record {
  low = low p t fits;
  each = λ y h. found_itself t.records y sound.records.rise h;
  one = λ n o s key y z here has_y has_z of_y of_z key_y key_z. one_holder fit_values same_keys p t sound n o here s key y z has_y has_z of_y of_z key_y key_z;
}
