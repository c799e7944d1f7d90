-- The rows of unique values: what is read at the key of a value is the id of the record that has the value.
use Rattle.std.proofs.Common.{◌≡◌, ◌↔◌, ℕ, zero, suc, ◌+◌, Bool, true, false, not, ◌&&◌, IsTrue, List, [], ◌∷◌, map as plain_map, add-one, Option, Some, None, refl, sym, ap, subst, ◌∙◌, arith, bytes_eq}
use Rattle.std.specs.Prelude.{Result, Ok, Err, slice_get}
use Rattle.std.specs.FinMap as map
use Rattle.std.specs.FinMap.{IsAntisymmetric}
use Rattle.std.specs.List.{enumerate_from, find}
use Rattle.std.specs.Option.{option_and_then, option_map}
use Rattle.std.proofs.lemmas.Slice.Eq.{bytes_eq-Decides}
use Rattle.base_lemmas.proofs.Options.{option_map-compose as map_twice}
use Rattle.base_lemmas.proofs.Bools.{and_first as and_left, and_second as and_right, by_answer as pick, same_both_ways as agree}
use Rattle.std.proofs.lemmas.Option.{same_Some as some_is}
use Rattle.std.proofs.lemmas.Bool.{true≢false as differ}
use Rattle.formula.specs.Meaning.{value_at}
use Rattle.store_kv.specs.Draft.{Held}
use Rattle.store_kv.specs.State.{KeeperState}
use Rattle.store_kv.specs.Tables.{Tables, place_cmp}
use Rattle.store_rows.specs.declared.fail.StoreFail.{StoreFail}
use Rattle.store_rows.specs.declared.fail.StoreFail.TheVariants.{Keeper, Memory, Damaged}
use Rattle.store_rows.specs.declared.unique.UniqueRow.{UniqueRow}
use Rattle.store_rows.specs.Forms.{row_bytes}
use Rattle.store_rows.specs.Keys.{Unique, slot_key, spell}
use Rattle.store_rows.specs.Reads.{MayStandAt, ReadsAs}
use Rattle.store_rows.specs.Rows.{unique_form}
use Rattle.model.specs.declared.record.Record.{Record}
use Rattle.model.specs.Cases.{in_case}
use Rattle.model.specs.Fields.{is_null}
use Rattle.model.specs.Given.{has_value, record_by_value}
use Rattle.model.specs.Membership.{Has}
use Rattle.model.specs.Objects.{is_of, object_numbered, records_of}
use Rattle.model.specs.Sound.{IsSound}
use Rattle.model.specs.SoundRecords.{all_valid, kinds_of}
use Rattle.model.specs.Tenant as model
use Rattle.model.specs.Tenant.{Field, Tenant}
use Rattle.store_codec.specs.Shapes.{FitsIn, Ordered}
use Rattle.store_abstraction.specs.Calls.{Calls, ended}
use Rattle.store_abstraction.specs.Entries.{field_entry, is_unique, slot_entry}
use Rattle.store_abstraction.specs.Layouts.{FindsOf, place_of}
use Rattle.store_abstraction.specs.Local.{FindsIn}
use Rattle.store_abstraction.specs.Plan.{FitsPlan, OrgPlan}
use Rattle.store_abstraction.specs.Stands.{row_in, unique_at, unique_of}
use Rattle.store_abstraction.specs.declared.layout.FieldPlace.{FieldPlace}
use Rattle.store_abstraction.specs.declared.layout.Layout.{Layout}
use Rattle.store_abstraction.proofs.Found.{FindsRow, IsRowOf, row_finds, row_in_org}
use Rattle.store_abstraction.proofs.Places.{PrefixLaws}
use Rattle.record_read.proofs.RecordFits.{MakesIds, record_is_id}
use Rattle.record_read.proofs.Rising.{has_filter}
use Rattle.record_read.proofs.RowFits.{typed_at, valid_at}
use Rattle.record_read.proofs.Slots.{entry_at}
use Rattle.record_read.proofs.Sound.{fields_typed, values_valid}
use Rattle.record_read.proofs.Standing.{IsOf, layout_is}
use Rattle.base_value.specs.OrderKeys.{Fits, order_key}
use Rattle.base_value.specs.Types.{is_type}
use Rattle.base_value.specs.Values.{equal, valid}
use Rattle.base_value.specs.declared.value.FieldType.{FieldType}
use Rattle.base_value.specs.declared.value.FieldType.TheVariants as type
use Rattle.base_value.specs.declared.value.Value.{Value}
use Rattle.base_value.specs.declared.value.Value.TheVariants as value
use Rattle.record_constraints.specs.Uniques.{is_unique_value}
use Rattle.record_constraints.specs.inner.Clashes.{id_in_row}
use Rattle.record_constraints.proofs.Searching.{find_has, find_same}

-- ---- the row

-- the row of a unique value, if there is one
abbrev pub unique_there : (org n s : ℕ) → List ℕ → OrgPlan → Tenant → Option UniqueRow
unique_there org n s key p t = option_map (unique_of org n s key) (unique_at p t n s key)

module _ (makes : MakesIds) (org n s : ℕ) (key : List ℕ) (fits : FitsIn (slot_key Ordered) (org, (n, (s, key)))) where
  abbrev has_it : OrgPlan → Tenant → model.Object → Record → Bool
  has_it p t o r = is_unique key (slot_entry p t.job n o r s)

  unique_may : (p : OrgPlan) (t : Tenant) → IsSound t → (o : Option model.Object)
      → MayStandAt unique_form (org, (n, (s, key))) (option_map (unique_of org n s key) (option_and_then (λ o. find (has_it p t o) (records_of t n)) o))
  unique_may p t sound None = tt
  unique_may p t sound (Some o) = by (find (has_it p t o) (records_of t n)) refl
    where
      by : (x : Option Record) → find (has_it p t o) (records_of t n) ≡ x → MayStandAt unique_form (org, (n, (s, key))) (option_map (unique_of org n s key) x)
      by None e = tt
      by (Some r) e =
          let has = has_filter (is_of n) t.records r (find_has (has_it p t o) (records_of t n) r e).0 in
          (refl, (fits, record_is_id makes t r sound has.0))

  rows_are : (p : OrgPlan) (t : Tenant) → row_in p t (Unique org n s key) ≡ option_map (row_bytes unique_form) (unique_there org n s key p t)
  unfolding row_in
  rows_are p t = map_twice (row_bytes unique_form) (unique_of org n s key) (unique_at p t n s key)

  unique_is_row : IsRowOf unique_form org (org, (n, (s, key))) (unique_there org n s key)
  unique_is_row = record {
    owned = refl;
    fits = fits;
    rows = rows_are;
    stands = λ p t sound plan. unique_may p t sound (object_numbered t n);
  }

-- ---- order keys

-- what `base_value` says of valid values, and of order keys
abbrev pub FitValues : Type 0
FitValues = (kind : FieldType) (v : Value) → IsTrue (is_type kind) → IsTrue (valid kind v) → Fits v

abbrev pub SameKeys : Type 0
SameKeys = (a b : Value) → Fits a → Fits b → (order_key a ≡ order_key b) ↔ IsTrue (equal a b)

pub record ValueLaws : Type 0 where
  pub fits : FitValues
  pub same : SameKeys

-- null equals no value but null
other_null : (v : Value) → is_null v ≡ false → equal value.Null v ≡ false
other_null value.Null h = absurd cc
other_null (value.Text cs) h = refl
other_null (value.Num count) h = refl
other_null (value.Bool truth) h = refl
other_null (value.Day day) h = refl
other_null (value.Moment second) h = refl
other_null (value.Ref id) h = refl

null_other : (v : Value) → is_null v ≡ false → equal v value.Null ≡ false
null_other value.Null h = absurd cc
null_other (value.Text cs) h = refl
null_other (value.Num count) h = refl
null_other (value.Bool truth) h = refl
null_other (value.Day day) h = refl
null_other (value.Moment second) h = refl
null_other (value.Ref id) h = refl

null_is : (v : Value) → is_null v ≡ true → v ≡ value.Null
null_is value.Null h = refl
null_is (value.Text cs) h = absurd cc
null_is (value.Num count) h = absurd cc
null_is (value.Bool truth) h = absurd cc
null_is (value.Day day) h = absurd cc
null_is (value.Moment second) h = absurd cc
null_is (value.Ref id) h = absurd cc

-- of two values that are equal neither is null, or both are
either_null : (w v : Value) → (not (is_null w) && equal w v) ≡ (not (is_null v) && equal w v)
either_null w v =
    pick (is_null w) (λ b. is_null w ≡ b → (not b && equal w v) ≡ (not (is_null v) && equal w v))
    (λ _ here.
    pick (is_null v) (λ c. is_null v ≡ c → false ≡ (not c && equal w v))
    (λ _ _. refl)
    (λ _ there. sym (ap (λ (x : Value). equal x v) (null_is w here) ∙ other_null v there))
    refl)
    (λ _ here.
    pick (is_null v) (λ c. is_null v ≡ c → equal w v ≡ (not c && equal w v))
    (λ _ there. ap (equal w) (null_is v there) ∙ null_other w here)
    (λ _ _. refl)
    refl)
    refl

keys_tell : SameKeys → (w v : Value) → Fits w → Fits v → bytes_eq (order_key w) (order_key v) ≡ equal w v
keys_tell same w v here there =
    agree (bytes_eq (order_key w) (order_key v)) (equal w v)
    (λ h. (same w v here there).0 ((bytes_eq-Decides (order_key w) (order_key v)).0 h))
    (λ h. (bytes_eq-Decides (order_key w) (order_key v)).1 ((same w v here there).1 h))

-- two records with a value in one field have equal values there, which aren't null
pub values_equal : SameKeys → (number : ℕ) (v : Value) → is_null v ≡ false → Fits v → (x y : Record) → Fits (value_at x.values (suc number)) → Fits (value_at y.values (suc number))
    → has_value (number + 1) v x ≡ true → has_value (number + 1) v y ≡ true
    → (is_null (value_at x.values (suc number)) ≡ false) × (equal (value_at x.values (suc number)) (value_at y.values (suc number)) ≡ true)
values_equal same number v there fits x y fits_x fits_y of_x of_y =
    let a = value_at x.values (suc number) in
    let b = value_at y.values (suc number) in
    let equal_x = and_right (not (is_null v)) (equal a v) (ap (λ (k : ℕ). has_value k v x) (sym (add-one number)) ∙ of_x) in
    let equal_y = and_right (not (is_null v)) (equal b v) (ap (λ (k : ℕ). has_value k v y) (sym (add-one number)) ∙ of_y) in (
      pick (is_null a) (λ n. is_null a ≡ n → n ≡ false)
          (λ _ null. absurd (differ (sym equal_x ∙ ap (λ (w : Value). equal w v) (null_is a null) ∙ other_null v there)))
          (λ _ _. refl)
          refl,
      (same a b fits_x fits_y).0 ((same a v fits_x fits).1 equal_x ∙ sym ((same b v fits_y fits).1 equal_y)),
    )

-- ---- the field of a tenant's object that has a place in the layout

field_at : (p : OrgPlan) (n k : ℕ) (fs : List Field) (i m : ℕ) (x : FieldPlace) → k + i ≡ m → slice_get (plain_map (place_of p n) (enumerate_from k fs)) i ≡ Some x
    → (f : Field) × (slice_get fs i ≡ Some f) × (place_of p n (m, f) ≡ x)
field_at p n k [] i m x e h = absurd cc
field_at p n k (f ∷ fs) zero m x e h =
    let same : k ≡ m = omega (arith, e) in
    (f, refl, ap (λ (j : ℕ). place_of p n (j, f)) (sym same) ∙ some_is (place_of p n (k, f)) x h)
field_at p n k (f ∷ fs) (suc i) m x e h = field_at p n (k + 1) fs i m x (omega (arith, e)) h

-- the values begin with the name
field_valid : (o : model.Object) (values : List Value) (i : ℕ) (f : Field) → all_valid (kinds_of o) values ≡ true → slice_get o.fields i ≡ Some f → valid f.kind (value_at values (suc i)) ≡ true
field_valid o [] i f h e = absurd cc
field_valid o (v ∷ vs) i f h e = valid_at (λ (f : Field). f.kind) o.fields vs i f (and_right (valid (type.Text 80) v) (all_valid (plain_map (λ f. f.kind) o.fields) vs) h) e

module _ (laws : ValueLaws) (q : OrgPlan) (t : Tenant) (l : Layout) (one : IsOf q t l) (sound : IsSound t) (plan : FitsPlan q t) (number : ℕ) (f : FieldPlace) (at : slice_get l.fields number ≡ Some f) where
  pub its : (g : Field) × (slice_get one.object.fields number ≡ Some g) × (place_of q l.object (number, g) ≡ f)
  its = field_at q l.object 0 one.object.fields number number f (omega arith) (subst (λ (k : Layout). slice_get k.fields number ≡ Some f) (sym one.made) at)

  pub its_unique : its.0.unique ≡ f.unique
  its_unique = ap (λ (x : FieldPlace). x.unique) its.2

  its_entry : (r : Record) → slot_entry q t.job l.object one.object r f.slot ≡ Some (field_entry r (number, its.0))
  its_entry r =
      subst (λ (s : ℕ). slot_entry q t.job l.object one.object r s ≡ Some (field_entry r (number, its.0))) (ap (λ (x : FieldPlace). x.slot) its.2)
      (entry_at q t l.object one.object r number its.0 plan one.there its.1)

  -- the object's records have values of the field's type
  pub its_fits : (r : Record) → Has (records_of t l.object) r → Fits (value_at r.values (suc number))
  its_fits r m =
      let has = has_filter (is_of l.object) t.records r m in
      laws.fits its.0.kind (value_at r.values (suc number))
      (typed_at (λ (x : Field). x.kind) one.object.fields number its.0 (fields_typed t l.object one.object sound one.there) its.1)
      (field_valid one.object r.values number its.0 (values_valid t l.object one.object r sound one.there has.0 has.1) its.1)

  module _ (unique : f.unique ≡ true) (v : Value) (fits : Fits v) where
    same_test : (r : Record) → Has (records_of t l.object) r → is_unique (order_key v) (slot_entry q t.job l.object one.object r f.slot) ≡ has_value (number + 1) v r
    same_test r m =
        let w = value_at r.values (suc number) in
        ap (is_unique (order_key v)) (its_entry r)
        ∙ ap (λ b. b && (not (is_null w) && bytes_eq (order_key w) (order_key v))) (its_unique ∙ unique)
        ∙ ap (λ b. not (is_null w) && b) (keys_tell laws.same w v (its_fits r m) fits)
        ∙ either_null w v
        ∙ ap (λ (k : ℕ). has_value k v r) (sym (add-one number))

    found_is : unique_at q t l.object f.slot (order_key v) ≡ record_by_value t l.object (number + 1) v
    unfolding record_by_value
    found_is =
        ap (option_and_then (λ o. find (λ r. is_unique (order_key v) (slot_entry q t.job l.object o r f.slot)) (records_of t l.object))) one.there
        ∙ find_same (λ r. is_unique (order_key v) (slot_entry q t.job l.object one.object r f.slot)) (has_value (number + 1) v) (records_of t l.object) same_test

-- ---- what is read

ids_same : (org n s : ℕ) (key : List ℕ) (x : Option Record) → option_map (λ (row : UniqueRow). row.id) (option_map (unique_of org n s key) x) ≡ option_map (λ r. r.id) x
ids_same org n s key None = refl
ids_same org n s key (Some r) = refl

-- a value of this field
pub unique_part : (v : Value) (f : FieldPlace) → is_unique_value v f ≡ true → f.unique ≡ true
unique_part v f h = and_left f.unique (is_type f.kind && valid f.kind v) h

pub fits_part : FitValues → (v : Value) (f : FieldPlace) → is_unique_value v f ≡ true → Fits v
fits_part fits v f h =
    let both = and_right f.unique (is_type f.kind && valid f.kind v) h in
    fits f.kind v (and_left (is_type f.kind) (valid f.kind v) both) (and_right (is_type f.kind) (valid f.kind v) both)

pub there_is : (l : Layout) (number : ℕ) (v : Value) (f : FieldPlace) → slice_get l.fields number ≡ Some f → IsTrue (in_case (slice_get l.fields number) false (is_unique_value v)) → is_unique_value v f ≡ true
there_is l number v f at h = sym (ap (λ x. in_case x false (is_unique_value v)) at) ∙ h

module _ (prefix : PrefixLaws) (exact : IsAntisymmetric place_cmp) (finds : FindsRow unique_form) (makes : MakesIds) (laws : ValueLaws) (m : Tables) (l : Layout) (number : ℕ) (v : Value) (f : FieldPlace)
    (at : slice_get l.fields number ≡ Some f) (is : is_unique_value v f ≡ true) (fits : FitsIn (slot_key Ordered) (l.org, (l.object, (f.slot, order_key v)))) where
  abbrev there : OrgPlan → Tenant → Option UniqueRow
  there = unique_there l.org l.object f.slot (order_key v)

  pub id_finds : (row : Result (Option UniqueRow) StoreFail) → ReadsAs unique_form (l.org, (l.object, (f.slot, order_key v))) (map.get m (spell (Unique l.org l.object f.slot (order_key v)))) row
      → FindsOf l (λ (t : Tenant). option_map (λ r. r.id) (record_by_value t l.object (number + 1) v)) m (id_in_row row)
  id_finds row e = by row (row_finds prefix exact unique_form l.org fits.0 (l.org, (l.object, (f.slot, order_key v))) there (unique_is_row makes l.org l.object f.slot (order_key v) fits) finds m row e)
    where
      by : (row : Result (Option UniqueRow) StoreFail) → FindsIn l.org (row_in_org there) m row
          → FindsOf l (λ (t : Tenant). option_map (λ r. r.id) (record_by_value t l.object (number + 1) v)) m (id_in_row row)
      by (Ok found) h = λ q t s g.
          ap (option_map (λ (row : UniqueRow). row.id)) (h q (Some t) s)
          ∙ ids_same l.org l.object f.slot (order_key v) (unique_at q t l.object f.slot (order_key v))
          ∙ ap (option_map (λ (r : Record). r.id)) (found_is laws q t l (layout_is q t l g) s.sound s.plan number f at (unique_part v f is) v (fits_part laws.fits v f is))
      by (Err Damaged) h = λ q t s g. h q (Some t) s
      by (Err Keeper) h = tt
      by (Err Memory) h = tt

-- ---- how it ended

pub id_calls : {K : Type 0} (state : K → KeeperState) (a b : Held K) (row : Result (Option UniqueRow) StoreFail) → Calls state 0 (ended row) a b → Calls state 0 (ended (id_in_row row)) a b
id_calls state a b (Ok found) h = h
id_calls state a b (Err e) h = h
