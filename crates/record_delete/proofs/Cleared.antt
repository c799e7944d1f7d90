-- A record that loses lookups, in the model and by the layout of its object.
use Rattle.std.proofs.Common.{◌≡◌, ◌∙◌, ◌⊎◌, inl, inr, ℕ, zero, suc, ◌+◌, ◌<◌, Bool, true, false, not, ◌&&◌, ◌==◌, cond, IsTrue, List, [], ◌∷◌, ◌++◌, length, map, take, get_or, Option, Some, None, refl, sym, ap, subst, eq-eqb, arith, ℤ}
use Rattle.std.specs.Prelude.{slice_get}
use Rattle.std.specs.List.{enumerate_from, list_all, list_any}
use Rattle.std.specs.Option.{option_map}
use Rattle.std.proofs.lemmas.Bool.{eqb-true, and_from as both}
use Rattle.std.proofs.lemmas.List.{length-take-le, take_more}
use Rattle.base_lemmas.proofs.Bools.{same_both_ways as same_bool, and_first as and_left, and_second as and_right, by_answer as pick}
use Rattle.std.proofs.lemmas.Option.{same_Some as some_is}
use Rattle.record_cascade.proofs.Among.{any_has, has_any}
use Rattle.record_read.specs.Decoding.{kinds_in}
use Rattle.formula.specs.Meaning.{value_at}
use Rattle.model.specs.Cases.{in_case}
use Rattle.model.specs.declared.record.Record.{Record}
use Rattle.model.specs.Deletes.{cleared, cleared_lookups, has_id, is_cleared, loses_lookup, refers_into, refers_to_one_of}
use Rattle.model.specs.Membership.{Has}
use Rattle.model.specs.Objects.{is_of, object_number}
use Rattle.model.specs.Relationships.{Reference, named_id, references, target_of}
use Rattle.model.specs.SoundRecords.{all_valid}
use Rattle.model.specs.Tenant.{Field, Object, Tenant}
use Rattle.store_abstraction.specs.declared.layout.FieldPlace.{FieldPlace}
use Rattle.store_abstraction.specs.declared.layout.Layout.{Layout}
use Rattle.store_abstraction.specs.Layouts.{layout_of, place_of}
use Rattle.store_abstraction.specs.Plan.{OrgPlan}
use Rattle.record_index.specs.diff.Touched.{has}
use Rattle.base_value.specs.declared.value.FieldType.{FieldType}
use Rattle.base_value.specs.declared.value.FieldType.TheVariants as type
use Rattle.base_value.specs.declared.value.OnDelete.TheVariants as on_delete
use Rattle.base_value.specs.declared.value.Value.{Value}
use Rattle.base_value.specs.declared.value.Value.TheVariants as value
use Rattle.base_value.specs.Printing.{is_printable}
use Rattle.base_value.specs.Values.{valid}
use Rattle.record_delete.specs.inner.Clearing.{cleared_in, field_at, is_lost, names_one, value_left}
use Rattle.record_delete.proofs.Layouts.{as_numbered}
use Rattle.record_delete.proofs.Lists.{has_map, map_has}
use Rattle.record_delete.proofs.References.{has_reference, is_kept, kept_is, reference_is}
use Rattle.record_delete.proofs.Without.{stays_not_gone}

-- ---- lists

-- what is made of what is numbered is the same, where it is so at each place
same_made : {X Y : Type 0} (f g : ℕ × X → Y) (k : ℕ) (xs : List X) → ((i : ℕ) (x : X) → slice_get xs i ≡ Some x → f (k + i, x) ≡ g (k + i, x)) → map f (enumerate_from k xs) ≡ map g (enumerate_from k xs)
same_made f g k [] h = refl
same_made {X = X} {Y = Y} f g k (x ∷ xs) h =
    let first : f (k, x) ≡ g (k, x) = subst (λ (m : ℕ). f (m, x) ≡ g (m, x)) (omega arith) (h 0 x refl) in
    let rest = same_made f g (k + 1) xs (λ i y e. subst (λ (m : ℕ). f (m, y) ≡ g (m, y)) (omega arith) (h (suc i) y e)) in
    ap (λ (y : Y). y ∷ map f (enumerate_from (k + 1) xs)) first ∙ ap (λ (ys : List Y). g (k, x) ∷ ys) rest

get_place : (q : OrgPlan) (n k i : ℕ) (fs : List Field) → slice_get (map (place_of q n) (enumerate_from k fs)) i ≡ option_map (λ (f : Field). place_of q n (k + i, f)) (slice_get fs i)
get_place q n k i [] = refl
get_place q n k zero (f ∷ fs) = let none : k ≡ k + 0 = omega arith in ap (λ (m : ℕ). Some (place_of q n (m, f))) none
get_place q n k (suc i) (f ∷ fs) =
    let same : k + 1 + i ≡ k + suc i = omega arith in
    get_place q n (k + 1) i fs ∙ ap (λ (m : ℕ). option_map (λ (f : Field). place_of q n (m, f)) (slice_get fs i)) same

at_is : (vs : List Value) (i : ℕ) (v : Value) → slice_get vs i ≡ Some v → value_at vs i ≡ v
at_is [] i v e = absurd cc
at_is (x ∷ vs) zero v e = some_is x v e
at_is (x ∷ vs) (suc i) v e = at_is vs i v e

-- ---- types

target_of_cleared : (k : FieldType) → is_cleared k ≡ true → (target : ℕ) × (target_of k ≡ Some target)
target_of_cleared (type.Lookup o on_delete.Clear) e = (o, refl)
target_of_cleared k e = absurd cc

cleared_null : (k : FieldType) → is_cleared k ≡ true → valid k value.Null ≡ true
cleared_null (type.Lookup o on_delete.Clear) e = refl
cleared_null k e = absurd cc

-- ---- in the model

module _ (org : ℕ) (q : OrgPlan) (t : Tenant) (n : ℕ) (o : Object) (there : slice_get t.objects n ≡ Some o) (ids : List (List ℕ)) (rs : List Record) (same : (i : List ℕ) → has ids i ≡ has_id rs i)
    (r : Record) (at : object_number r.id ≡ n) where
  abbrev l : Layout
  l = layout_of org q t (as_numbered n o)

  abbrev lost : Reference → Bool
  lost f = is_cleared f.field.kind && refers_into rs f r

  abbrev places : List ℕ
  places = map (λ (f : Reference). f.position) (cleared_lookups t rs r)

  names_same : (x : Option (List ℕ)) → in_case x false (has ids) ≡ in_case x false (has_id rs)
  names_same None = refl
  names_same (Some i) = same i

  field_there : (i : ℕ) (f : Field) → slice_get o.fields i ≡ Some f → field_at l.fields (suc i) ≡ Some (place_of q n (0 + i, f))
  field_there i f e = get_place q n 0 i o.fields ∙ ap (option_map (λ (f : Field). place_of q n (0 + i, f))) e

  lost_by : (p i : ℕ) (f : Field) (v : Value) → p ≡ suc i → slice_get o.fields i ≡ Some f → is_cleared f.kind ≡ true → names_one ids v ≡ true → is_lost l.fields ids p v ≡ true
  lost_by p i f v place at clear one =
      ap (λ (m : ℕ). is_lost l.fields ids m v) place
      ∙ (ap (λ (y : Option FieldPlace). in_case y false (λ f. is_cleared f.kind && names_one ids v)) (field_there i f at)
      ∙ both (is_cleared f.kind) (names_one ids v) clear one)

  named_one : (f : Reference) (v : Value) → value_at r.values f.position ≡ v → refers_to_one_of rs f r ≡ true → names_one ids v ≡ true
  named_one f v is refers = ap (names_one ids) (sym is) ∙ (names_same (named_id f r) ∙ refers)

  lost_place : (p : ℕ) (v : Value) → value_at r.values p ≡ v → list_any (λ x. x == p) places ≡ true → is_lost l.fields ids p v ≡ true
  lost_place p v is h = by (any_has (λ x. x == p) places h)
    where
      by : (x : ℕ) × Has places x × ((x == p) ≡ true) → is_lost l.fields ids p v ≡ true
      by (x, among, same) =
          let (f, kept, at_f) = map_has (λ (f : Reference). f.position) (cleared_lookups t rs r) x among in
          let (m, so) = kept_is lost (references t.objects) f kept in
          let refers = and_right (not (has_id rs r.id)) (is_of f.object r && refers_to_one_of rs f r) (and_right (is_cleared f.field.kind) (refers_into rs f r) so) in
          let of : f.object ≡ n = sym (eqb-true (object_number r.id) f.object (and_left (is_of f.object r) (refers_to_one_of rs f r) refers)) ∙ at in
          let w = reference_is t f m n o of there in
          let place : p ≡ f.position = sym (eqb-true x p same) ∙ at_f in
          lost_by p w.place f.field v (place ∙ w.is) w.field (and_left (is_cleared f.field.kind) (refers_into rs f r) so)
          (named_one f v (ap (value_at r.values) (sym place) ∙ is) (and_right (is_of f.object r) (refers_to_one_of rs f r) refers))

  place_lost : loses_lookup t rs r ≡ true → (p : ℕ) (v : Value) → value_at r.values p ≡ v → is_lost l.fields ids p v ≡ true → list_any (λ x. x == p) places ≡ true
  place_lost loses zero v is h = absurd cc
  place_lost loses (suc i) v is h = by (slice_get o.fields i) refl (ap (λ (y : Option FieldPlace). in_case y false (λ f. is_cleared f.kind && names_one ids v)) (sym (get_place q n 0 i o.fields)) ∙ h)
    where
      by : (x : Option Field) → slice_get o.fields i ≡ x → in_case (option_map (λ (f : Field). place_of q n (0 + i, f)) x) false (λ f. is_cleared f.kind && names_one ids v) ≡ true → list_any (λ x. x == suc i) places ≡ true
      by None e so = absurd cc
      by (Some g) e so =
          let clear = and_left (is_cleared g.kind) (names_one ids v) so in
          let target = target_of_cleared g.kind clear in
          let f : Reference = record { object = n; position = suc i; field = g; target = target.0 } in
          let among = has_reference t n o there i g target.0 e target.1 in
          let one : refers_to_one_of rs f r ≡ true = sym (names_same (named_id f r)) ∙ ap (names_one ids) is ∙ and_right (is_cleared g.kind) (names_one ids v) so in
          let refers : refers_into rs f r ≡ true = both (not (has_id rs r.id)) (is_of n r && refers_to_one_of rs f r) (ap not (stays_not_gone t rs r loses)) (both (is_of n r) (refers_to_one_of rs f r) (eq-eqb (object_number r.id) n at) one) in
          has_any (λ x. x == suc i) places (suc i) (has_map (λ (f : Reference). f.position) (cleared_lookups t rs r) f (is_kept lost (references t.objects) f among (both (is_cleared g.kind) (refers_into rs f r) clear refers))) (eq-eqb (suc i) (suc i) refl)

  abbrev null_there : ℕ × Value → Value
  null_there v = cond (list_any (λ x. x == v.0) places) value.Null v.1

  each_same : loses_lookup t rs r ≡ true → (i : ℕ) (v : Value) → slice_get r.values i ≡ Some v → value_left l.fields ids (0 + i, v) ≡ null_there (0 + i, v)
  each_same loses i v e =
      let is : value_at r.values (0 + i) ≡ v = ap (value_at r.values) (omega arith) ∙ at_is r.values i v e in
      let same : is_lost l.fields ids (0 + i) v ≡ list_any (λ x. x == 0 + i) places
      = same_bool (is_lost l.fields ids (0 + i) v) (list_any (λ x. x == 0 + i) places) (place_lost loses (0 + i) v is) (lost_place (0 + i) v is) in
      ap (λ b. cond b value.Null v) same

  values_same : loses_lookup t rs r ≡ true → map (value_left l.fields ids) (enumerate_from 0 r.values) ≡ map null_there (enumerate_from 0 r.values)
  values_same loses = same_made (value_left l.fields ids) null_there 0 r.values (each_same loses)

  model_is : (now : ℤ) → loses_lookup t rs r ≡ true → cleared now t rs r ≡ record r { modified = now; values = map null_there (enumerate_from 0 r.values) }
  model_is now loses = rw loses refl

  -- where it loses one, the two say the same
  pub cleared_is : (now : ℤ) → loses_lookup t rs r ≡ true → cleared_in l now ids r ≡ cleared now t rs r
  cleared_is now loses = ap (λ (vs : List Value). record r { modified = now; values = vs }) (values_same loses) ∙ sym (model_is now loses)

-- ---- by the layout

-- a value afterwards is null, or the one that was there
null_or_same : (fields : List FieldPlace) (ids : List (List ℕ)) (m : ℕ) (vs : List Value) (k : ℕ)
    → (value_at (map (value_left fields ids) (enumerate_from m vs)) k ≡ value.Null) ⊎ (value_at (map (value_left fields ids) (enumerate_from m vs)) k ≡ value_at vs k)
null_or_same fields ids m [] k = inr refl
null_or_same fields ids m (v ∷ vs) zero = pick (is_lost fields ids m v) (λ b. (cond b value.Null v ≡ value.Null) ⊎ (cond b value.Null v ≡ v)) (λ _. inl refl) (λ _. inr refl)
null_or_same fields ids m (v ∷ vs) (suc k) = null_or_same fields ids (m + 1) vs k

pub left_or_null : (l : Layout) (now : ℤ) (ids : List (List ℕ)) (r : Record) (k : ℕ) → (value_at (cleared_in l now ids r).values k ≡ value.Null) ⊎ (value_at (cleared_in l now ids r).values k ≡ value_at r.values k)
left_or_null l now ids r k = null_or_same l.fields ids 0 r.values k

-- they are valid still
valid_left : (fields : List FieldPlace) (ids : List (List ℕ)) (k : ℕ) (fs : List FieldPlace) (vs : List Value) → ((i : ℕ) → field_at fields (k + i) ≡ slice_get fs i)
    → all_valid (map (λ (f : FieldPlace). f.kind) fs) vs ≡ true → all_valid (map (λ (f : FieldPlace). f.kind) fs) (map (value_left fields ids) (enumerate_from k vs)) ≡ true
valid_left fields ids k [] [] at h = refl
valid_left fields ids k [] (v ∷ vs) at h = absurd cc
valid_left fields ids k (f ∷ fs) [] at h = absurd cc
valid_left fields ids k (f ∷ fs) (v ∷ vs) at h =
    both (valid f.kind (value_left fields ids (k, v))) (all_valid (map (λ (f : FieldPlace). f.kind) fs) (map (value_left fields ids) (enumerate_from (k + 1) vs)))
    (ap (λ (y : Option FieldPlace). valid f.kind (cond (in_case y false (λ g. is_cleared g.kind && names_one ids v)) value.Null v)) here ∙ first)
    (valid_left fields ids (k + 1) fs vs (λ i. ap (field_at fields) (omega arith) ∙ at (suc i)) (and_right (valid f.kind v) (all_valid (map (λ (f : FieldPlace). f.kind) fs) vs) h))
  where
    here : field_at fields k ≡ Some f
    here = ap (field_at fields) (omega arith) ∙ at 0

    first : valid f.kind (cond (is_cleared f.kind && names_one ids v) value.Null v) ≡ true
    first =
        pick (is_cleared f.kind && names_one ids v) (λ b. valid f.kind (cond b value.Null v) ≡ true)
        (λ e. cleared_null f.kind (and_left (is_cleared f.kind) (names_one ids v) e))
        (λ _. and_left (valid f.kind v) (all_valid (map (λ (f : FieldPlace). f.kind) fs) vs) h)

pub left_valid : (fields : List FieldPlace) (ids : List (List ℕ)) (vs : List Value) → IsTrue (all_valid (kinds_in fields) vs) → IsTrue (all_valid (kinds_in fields) (map (value_left fields ids) (enumerate_from 0 vs)))
left_valid fields ids [] h = absurd cc
left_valid fields ids (v ∷ vs) h =
    both (valid (type.Text 80) v) (all_valid (map (λ (f : FieldPlace). f.kind) fields) (map (value_left fields ids) (enumerate_from 1 vs)))
    (and_left (valid (type.Text 80) v) (all_valid (map (λ (f : FieldPlace). f.kind) fields) vs) h)
    (valid_left fields ids 1 fields vs (λ i. let same : 1 + i ≡ suc i = omega arith in ap (field_at fields) same) (and_right (valid (type.Text 80) v) (all_valid (map (λ (f : FieldPlace). f.kind) fields) vs) h))

-- and so they have texts
abbrev pub Printable : Type 0
Printable = (kind : FieldType) (v : Value) → IsTrue (valid kind v) → IsTrue (is_printable v)

pub all_printable : Printable → (kinds : List FieldType) (vs : List Value) → IsTrue (all_valid kinds vs) → IsTrue (list_all is_printable vs)
all_printable print [] [] h = refl
all_printable print [] (v ∷ vs) h = absurd cc
all_printable print (k ∷ kinds) [] h = absurd cc
all_printable print (k ∷ kinds) (v ∷ vs) h = both (is_printable v) (list_all is_printable vs) (print k v (and_left (valid k v) (all_valid kinds vs) h)) (all_printable print kinds vs (and_right (valid k v) (all_valid kinds vs) h))

-- ---- one value after another

numbered_last : {X Y : Type 0} (f : ℕ × X → Y) (k : ℕ) (xs : List X) (y : X) → map f (enumerate_from k (xs ++ y ∷ [])) ≡ map f (enumerate_from k xs) ++ f (k + length xs, y) ∷ []
numbered_last f k [] y = let none : k ≡ k + 0 = omega arith in ap (λ (m : ℕ). f (m, y) ∷ []) none
numbered_last {Y = Y} f k (x ∷ xs) y =
    let same : k + 1 + length xs ≡ k + length (x ∷ xs) = omega arith in
    ap (λ (ys : List Y). f (k, x) ∷ ys) (numbered_last f (k + 1) xs y)
    ∙ ap (λ (m : ℕ). f (k, x) ∷ (map f (enumerate_from (k + 1) xs) ++ f (m, y) ∷ [])) same

pub left_more : (fields : List FieldPlace) (ids : List (List ℕ)) (vs : List Value) (n : ℕ) (d : Value) → n < length vs
    → map (value_left fields ids) (enumerate_from 0 (take (n + 1) vs)) ≡ map (value_left fields ids) (enumerate_from 0 (take n vs)) ++ value_left fields ids (n, get_or vs n d) ∷ []
left_more fields ids vs n d lt =
    let short : 0 + length (take n vs) ≡ n = omega (arith, length-take-le n vs (omega (arith, lt))) in
    ap (λ (xs : List Value). map (value_left fields ids) (enumerate_from 0 xs)) (take_more vs n d lt)
    ∙ numbered_last (value_left fields ids) 0 (take n vs) (get_or vs n d)
    ∙ ap (λ (m : ℕ). map (value_left fields ids) (enumerate_from 0 (take n vs)) ++ value_left fields ids (m, get_or vs n d) ∷ []) short
