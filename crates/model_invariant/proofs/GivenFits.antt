-- What is read of a body in JSON is of its field's type.
use Rattle.std.proofs.Common.{◌≡◌, ℕ, zero, suc, ◌+◌, ◌-◌, Bool, true, false, not, ◌&&◌, cond, List, [], ◌∷◌, map, take, drop, length, Option, Some, None, refl, ap, sym, subst, ◌∙◌, arith, ◌⊎◌, inl, inr, bytes_eq, slice_get, codes}
use Rattle.std.specs.Prelude.{Ok, Err, IsTrue, slice_index_or}
use Rattle.std.specs.Char.{to_ascii_lowercase}
use Rattle.std.specs.List.{enumerate_from, find, list_all, list_any}
use Rattle.std.specs.Option.{option_map, unwrap_or}
use Rattle.std.specs.Str.{all_scalars}
use Rattle.std.proofs.lemmas.Option.{same_Some as field_is}
use Rattle.std.proofs.lemmas.Bool.{and_from as both, true≢false as clash, or_left, or_right}
use Rattle.base_lemmas.proofs.Bools.{and_first as both_left, and_second as both_right}
use Rattle.base_lemmas.proofs.Texts.{same_from_bytes_eq as same_exact, bytes_eq-self as same_itself}
use Rattle.base_json.specs.declared.tree.Json.{Json}
use Rattle.base_json.specs.declared.tree.Json.TheVariants as json
use Rattle.base_json.specs.declared.tree.Num.{Num}
use Rattle.base_json.specs.declared.tree.Num.TheVariants as num
use Rattle.base_value.specs.Reading.{Read, as_value, read_value}
use Rattle.base_value.specs.Texts.{lower, texts_differ}
use Rattle.base_value.specs.Values.{is_number, valid}
use Rattle.base_value.specs.declared.fail.ValueFail.TheVariants.{OutOfRange}
use Rattle.base_value.specs.declared.value.FieldType.{FieldType}
use Rattle.base_value.specs.declared.value.FieldType.TheVariants as type
use Rattle.base_value.specs.declared.value.Value.{Value}
use Rattle.base_value.specs.declared.value.Value.TheVariants as value
use Rattle.formula.specs.Meaning.{value_at}
use Rattle.model.specs.declared.record.Record.{Record}
use Rattle.model.specs.Edits.{given_to, value_or}
use Rattle.model.specs.Fields.{Column, column, name_column, of_type, same_name, value_in, value_site}
use Rattle.model.specs.declared.record_bodies.Given.TheVariants as gives
use Rattle.model.specs.declared.record_bodies.Assignment.{Assignment}
use Rattle.model.specs.declared.record_bodies.Given.{Given}
use Rattle.model.specs.Given.{ReadOr, json_text, or_refusal, read_given, read_json, read_json_number}
use Rattle.model.specs.Cases.{in_case}
use Rattle.model.specs.Keys.{with_key}
use Rattle.model.specs.Membership.{Has}
use Rattle.model.specs.Names.{is_custom_name, is_stem}
use Rattle.model.specs.Paths.{Asked}
use Rattle.model_invariant.proofs.SoundParts.{HasSoundParts}
use Rattle.model.specs.SoundMetadata.{IsSoundField, names_differ}
use Rattle.model.specs.SoundRecords.{all_valid, kinds_of}
use Rattle.model.specs.Tenant.{Field, Object, Tenant}
use Rattle.model.specs.Upserts.{key_value}
use Rattle.model_invariant.specs.Fit.{OfObjects, ReadsWell, ReadsWellByKey, is_spelled, key_of}
use Rattle.model_invariant.proofs.Parts.{all_at, among_last, list_all_at}
use Rattle.model_invariant.proofs.Changes.{at_has}
use Rattle.model_invariant.proofs.DeletesSound.{sound_object}
use Rattle.model_invariant.proofs.ContentSound.{kind_at, valid_at}

-- what `base_value` says of a value that was read
abbrev pub ReadLaw : Type 0
ReadLaw = (kind : FieldType) (text : List ℕ) (v : Value) → IsTrue (all_scalars text) → read_value kind text ≡ Ok v → IsTrue (valid kind v)

abbrev was_read : Value → Read
was_read v = Ok v

read_is : (v w : Value) → was_read v ≡ was_read w → v ≡ w
read_is v w e = cc

abbrev was_given : Value → ReadOr
was_given v = Ok v

given_is : (v w : Value) → was_given v ≡ was_given w → v ≡ w
given_is v w e = cc

-- what is found is in the list, and passes
found_and : {A : Type 0} (p : A → Bool) (xs : List A) (x : A) → find p xs ≡ Some x → Has xs x × (p x ≡ true)
found_and p [] x e = absurd cc
found_and p (y ∷ xs) x e = by (p y) refl e (found_and p xs x)
  where
    by : (b : Bool) → p y ≡ b → cond b (Some y) (find p xs) ≡ Some x → (find p xs ≡ Some x → Has xs x × (p x ≡ true)) → Has (y ∷ xs) x × (p x ≡ true)
    by true w e more = let same : x ≡ y = sym (ap (λ o. unwrap_or o y) e) in (inl same, ap p same ∙ w)
    by false w e more = let m = more e in (inr m.0, m.1)

numbered_field : (n : ℕ) (fs : List Field) (f : ℕ × Field) → Has (enumerate_from n fs) f → (i : ℕ) × (slice_get fs i ≡ Some f.1)
numbered_field n [] f m = absurd m
numbered_field n (x ∷ fs) f (inl e) = (0, ap (λ (z : ℕ × Field). Some z.1) (sym e))
numbered_field n (x ∷ fs) f (inr m) = let r = numbered_field (n + 1) fs f m in (suc r.0, r.1)

listed : (name : List ℕ) (g : Field) (fs : List Field) (p : ℕ) → slice_get fs p ≡ Some g → same_name name g.name ≡ true → list_any (bytes_eq (lower name)) (map lower (map (λ (f : Field). f.name) fs)) ≡ true
listed name g [] p w same = absurd cc
listed name g (x ∷ fs) zero w same = or_left (same_name name x.name) (list_any (bytes_eq (lower name)) (map lower (map (λ (f : Field). f.name) fs))) (ap (λ (z : Field). same_name name z.name) (field_is x g w) ∙ same)
listed name g (x ∷ fs) (suc p) w same = or_right (same_name name x.name) (list_any (bytes_eq (lower name)) (map lower (map (λ (f : Field). f.name) fs))) (listed name g fs p w same)

-- a custom field isn't called `Name`
not_name : (cs : List ℕ) → is_custom_name cs ≡ true → same_name cs (codes "Name") ≡ true → ⊥
unfolding is_custom_name
not_name cs h same = by cs (both_right (is_stem (take (length cs - 3) cs)) (bytes_eq (drop (length cs - 3) cs) (codes "__c")) h) (same_exact (lower cs) (lower (codes "Name")) same)
  where
    by : (cs : List ℕ) → bytes_eq (drop (length cs - 3) cs) (codes "__c") ≡ true → lower cs ≡ lower (codes "Name") → ⊥
    by [] h e = cc
    by (a ∷ []) h e = cc
    by (a ∷ b ∷ []) h e = cc
    by (a ∷ b ∷ c ∷ []) h e = cc
    by (a ∷ b ∷ c ∷ d ∷ []) h e =
        let second : b ≡ 95 = ap (λ (zs : List ℕ). slice_index_or zs 0 0) (same_exact (b ∷ c ∷ d ∷ []) (codes "__c") h) in
        let small : to_ascii_lowercase b ≡ 97 = ap (λ (zs : List ℕ). slice_index_or zs 1 0) e in
        let wrong : 95 ≡ 97 = ap to_ascii_lowercase (sym second) ∙ small in
        omega (arith, wrong)
    by (a ∷ b ∷ c ∷ d ∷ x ∷ cs) h e = cc

-- fields with one name are one field
one_name : (fs : List Field) (i p : ℕ) (f g : Field) → names_differ (map (λ (f : Field). f.name) fs) ≡ true → slice_get fs i ≡ Some f → slice_get fs p ≡ Some g → same_name f.name g.name ≡ true → i ≡ p
one_name [] i p f g h e w same = absurd cc
one_name (x ∷ fs) zero zero f g h e w same = refl
one_name (x ∷ fs) (suc i) (suc p) f g h e w same =
    ap suc (one_name fs i p f g (both_right (not (list_any (bytes_eq (lower x.name)) (map lower (map (λ (f : Field). f.name) fs)))) (texts_differ (map lower (map (λ (f : Field). f.name) fs))) h) e w same)
one_name (x ∷ fs) zero (suc p) f g h e w same =
    absurd (twice x.name g fs p w (both_left (not (list_any (bytes_eq (lower x.name)) (map lower (map (λ (f : Field). f.name) fs)))) (texts_differ (map lower (map (λ (f : Field). f.name) fs))) h)
    (ap (λ (z : Field). same_name z.name g.name) (field_is x f e) ∙ same))
  where
    twice : (name : List ℕ) (g : Field) (fs : List Field) (p : ℕ) → slice_get fs p ≡ Some g → not (list_any (bytes_eq (lower name)) (map lower (map (λ (f : Field). f.name) fs))) ≡ true → same_name name g.name ≡ true → ⊥
    twice name g fs p w h same = clash (sym h ∙ ap not (listed name g fs p w same))
one_name (x ∷ fs) (suc i) zero f g h e w same =
    absurd (clash (sym (both_left (not (list_any (bytes_eq (lower x.name)) (map lower (map (λ (f : Field). f.name) fs)))) (texts_differ (map lower (map (λ (f : Field). f.name) fs))) h)
    ∙ ap not (listed x.name f fs i e (ap (λ (z : List ℕ). bytes_eq z (lower f.name)) (ap (λ (z : Field). lower z.name) (field_is x g w) ∙ sym (same_exact (lower f.name) (lower g.name) same)) ∙ same_itself (lower f.name)))))

module _ (law : ReadLaw) where
  number_valid : (k : FieldType) (n : Num) (v : Value) → read_json_number (of_type k) n ≡ Ok v → valid k v ≡ true
  number_valid (type.Number digits decimals) (num.Exact count) v e = by (is_number digits decimals count) refl e
    where
      by : (b : Bool) → is_number digits decimals count ≡ b → as_value (λ n. value.Num n) (cond b (Ok count) (Err OutOfRange)) ≡ Ok v → valid (type.Number digits decimals) v ≡ true
      by true w e = subst (λ (z : Value). valid (type.Number digits decimals) z ≡ true) (read_is (value.Num count) v e) w
      by false w e = absurd cc
  number_valid (type.Number digits decimals) num.Beyond v e = absurd cc
  number_valid k n v e = absurd cc

  json_valid : (k : FieldType) (j : Json) (v : Value) → all_scalars (json_text j) ≡ true → read_json (of_type k) j ≡ Ok v → valid k v ≡ true
  json_valid k (json.Text text) v h e = law k text v h e
  json_valid k json.Null v h e = law k [] v refl e
  json_valid k (json.Number n) v h e = number_valid k n v e
  json_valid type.Checkbox (json.Bool truth) v h e = subst (λ (z : Value). valid type.Checkbox z ≡ true) (read_is (value.Bool truth) v e) refl
  json_valid k (json.Bool truth) v h e = absurd cc
  json_valid k j v h e = absurd cc

  -- what is found for a field is in JSON, or a value of the field's type
  abbrev IsGood : FieldType → Assignment → Type 0
  IsGood k x = (is_spelled x.given ≡ true) ⊎ ((w : Value) × (x.given ≡ gives.Read w) × (valid k w ≡ true))

  -- the value of one field
  column_valid : (t : Tenant) (given : List Assignment) (name : List ℕ) (k : FieldType) (i : ℕ) (old : Value)
      → ((x : Assignment) → Has given x → same_name x.field name ≡ true → IsGood k x) → valid k old ≡ true
      → valid k (value_or old (given_to t given (column name (of_type k) (value_site i)))) ≡ true
  column_valid t given name k i old good h = by (find (λ x. same_name x.field name) given) refl
    where
      read : (r : Read) (text : List ℕ) → ((v : Value) → r ≡ Ok v → valid k v ≡ true) → valid k (value_or old (Some (or_refusal name (of_type k) text r))) ≡ true
      read (Ok v) text g = g v refl
      read (Err why) text g = h

      one : (x : Given) → is_spelled x ≡ true → valid k (value_or old (Some (read_given t (column name (of_type k) (value_site i)) x))) ≡ true
      one (gives.Json j) w = read (read_json (of_type k) j) (json_text j) (λ v e. json_valid k j v w e)
      one (gives.Read v) w = absurd cc
      one (gives.Find field text) w = absurd cc

      by : (x : Option Assignment) → find (λ x. same_name x.field name) given ≡ x → valid k (value_or old (option_map (λ x. read_given t (column name (of_type k) (value_site i)) x.given) x)) ≡ true
      by None e = h
      by (Some x) e =
          let f = found_and (λ x. same_name x.field name) given x e in
          elim (good x f.0 f.1) [
            | inl w ↦ one x.given w
            | inr w ↦ ap (λ z. valid k (value_or old (Some (read_given t (column name (of_type k) (value_site i)) z)))) w.1 ∙ w.2
          ]

  -- those of the custom fields
  fields_valid : (t : Tenant) (given : List Assignment) (old : Record) (i : ℕ) (fs : List Field)
      → ((p : ℕ) (f : Field) → slice_get fs p ≡ Some f → (x : Assignment) → Has given x → same_name x.field f.name ≡ true → IsGood f.kind x)
      → ((p : ℕ) (f : Field) → slice_get fs p ≡ Some f → valid f.kind (value_at old.values (i + p)) ≡ true)
      → all_valid (map (λ (f : Field). f.kind) fs) (map (λ (c : Column). value_or (value_in c.at old) (given_to t given c)) (map (λ (f : ℕ × Field). column f.1.name (of_type f.1.kind) (value_site f.0)) (enumerate_from i fs))) ≡ true
  fields_valid t given old i [] good h = refl
  fields_valid t given old i (f ∷ fs) good h =
      let none : i + 0 ≡ i = omega arith in
      both (valid f.kind (value_or (value_at old.values i) (given_to t given (column f.name (of_type f.kind) (value_site i)))))
      (all_valid (map (λ (f : Field). f.kind) fs) (map (λ (c : Column). value_or (value_in c.at old) (given_to t given c)) (map (λ (f : ℕ × Field). column f.1.name (of_type f.1.kind) (value_site f.0)) (enumerate_from (i + 1) fs))))
      (column_valid t given f.name f.kind i (value_at old.values i) (good 0 f refl) (subst (λ (n : ℕ). valid f.kind (value_at old.values n) ≡ true) none (h 0 f refl)))
      (fields_valid t given old (i + 1) fs (λ p g e. good (suc p) g e) (λ p g e. let same : i + suc p ≡ i + 1 + p = omega arith in subst (λ (n : ℕ). valid g.kind (value_at old.values n) ≡ true) same (h (suc p) g e)))

  good_fits : (a : Asked) (o : Object) (given : List Assignment) → ((x : Assignment) → Has given x → same_name x.field (codes "Name") ≡ true → IsGood (type.Text 80) x)
      → ((p : ℕ) (f : Field) → slice_get o.fields p ≡ Some f → (x : Assignment) → Has given x → same_name x.field f.name ≡ true → IsGood f.kind x) → ReadsWell a o given
  good_fits a o given named good refused old h =
      both (valid (type.Text 80) (value_or (value_at old.values 0) (given_to a.tenant given name_column)))
      (all_valid (map (λ (f : Field). f.kind) o.fields) (map (λ (c : Column). value_or (value_in c.at old) (given_to a.tenant given c)) (map (λ (f : ℕ × Field). column f.1.name (of_type f.1.kind) (value_site f.0)) (enumerate_from 1 o.fields))))
      (column_valid a.tenant given (codes "Name") (type.Text 80) 0 (value_at old.values 0) named (valid_at (kinds_of o) old.values 0 (type.Text 80) h refl))
      (fields_valid a.tenant given old 1 o.fields good (λ p f e. let same : suc p ≡ 1 + p = omega arith in subst (λ (n : ℕ). valid f.kind (value_at old.values n) ≡ true) same (valid_at (kinds_of o) old.values (suc p) f.kind h (kind_at o p f e))))

  pub spelled_fits : (a : Asked) (o : Object) (given : List Assignment) → list_all (λ x. is_spelled x.given) given ≡ true → ReadsWell a o given
  spelled_fits a o given spelled =
      good_fits a o given (λ x m e. inl (list_all_at (λ x. is_spelled x.given) x given spelled m)) (λ p f at x m e. inl (list_all_at (λ x. is_spelled x.given) x given spelled m))

  -- ---- the key of an upsert
  key_valid : (f : Field) (text : Option (List ℕ)) (v : Value) → in_case text true all_scalars ≡ true → key_value f text ≡ Ok v → valid f.kind v ≡ true
  key_valid f None v h e = absurd cc
  key_valid f (Some []) v h e = absurd cc
  key_valid f (Some (c ∷ cs)) v h e = by (read_value f.kind (c ∷ cs)) refl e
    where
      by : (r : Read) → read_value f.kind (c ∷ cs) ≡ r → or_refusal f.name (of_type f.kind) (c ∷ cs) r ≡ Ok v → valid f.kind v ≡ true
      by (Ok w) g e = law f.kind (c ∷ cs) v h (g ∙ ap was_read (given_is w v e))
      by (Err why) g e = absurd cc

  pub key_fits : (a : Asked) (key : List ℕ) (text : Option (List ℕ)) (given : List Assignment) → HasSoundParts a.tenant → list_all (λ x. is_spelled x.given) given ≡ true → in_case text true all_scalars ≡ true
      → OfObjects a (λ o. ReadsWellByKey a key text o given)
  key_fits a key text given sound spelled scalars n o there f v named read =
      let place = numbered_field 1 o.fields f (found_and (λ (f : ℕ × Field). f.1.unique && same_name f.1.name key) (enumerate_from 1 o.fields) f named).0 in
      let object = sound_object a.tenant sound n o there in
      let k = key_of f v in
      good_fits a o (with_key (Some k) given)
      (λ x m e. elim (among_last given (record { field = f.1.name; given = gives.Read v }) x m) [
        | inl w ↦ inl (list_all_at (λ x. is_spelled x.given) x given spelled w)
        | inr w ↦ absurd (not_name f.1.name (all_at (IsSoundField (length a.tenant.objects)) f.1 o.fields object.fields (at_has place.0 o.fields f.1 place.1)).name (ap (λ (z : Assignment). same_name z.field (codes "Name")) (sym w) ∙ e))
      ])
      (λ p g at x m e. elim (among_last given (record { field = f.1.name; given = gives.Read v }) x m) [
        | inl w ↦ inl (list_all_at (λ x. is_spelled x.given) x given spelled w)
        | inr w ↦
            let same : place.0 ≡ p = one_name o.fields place.0 p f.1 g object.field_names place.1 at (ap (λ (z : Assignment). same_name z.field g.name) (sym w) ∙ e) in
            let is : f.1 ≡ g = field_is f.1 g (sym place.1 ∙ ap (slice_get o.fields) same ∙ at) in
            inr (v, ap (λ (z : Assignment). z.given) w, ap (λ (z : Field). valid z.kind v) (sym is) ∙ key_valid f.1 text v scalars read)
      ])
