-- The columns of a sound object: no two have one name.
use Rattle.std.proofs.Common.{◌≡◌, ◌⊎◌, inl, inr, ℕ, ◌+◌, zero, suc, Bool, true, false, not, ◌==◌, ◌-◌, cond, if◌then◌else◌, List, [], ◌∷◌, ◌++◌, map, drop, length, Some, None, refl, sym, ap, subst, ◌∙◌, bytes_eq}
use Rattle.std.specs.Prelude.{codes, slice_get}
use Rattle.std.specs.List.{AllByRecursion, enumerate_from, find, list_any}
use Rattle.std.proofs.lemmas.Bool.{true≢false as apart, or_left as or_first, or_right as or_second}
use Rattle.base_lemmas.proofs.Texts.{bytes_eq-self as same_itself, same_from_bytes_eq as same_exact}
use Rattle.base_lemmas.proofs.Bools.{and_first as and_left, and_second as and_right}
use Rattle.base_value.specs.Texts.{lower, texts_differ}
use Rattle.base_value.specs.declared.value.FieldType.TheVariants as type
use Rattle.model.specs.declared.record_bodies.Assignment.{Assignment}
use Rattle.model.specs.Fields.{Column, column, column_named, columns, custom_columns, is_detail, its_created, its_id, its_modified, name_column, of_ids, of_type, owner_column, owner_columns, same_name, value_site}
use Rattle.model.specs.Membership.{Has}
use Rattle.model.specs.Names.{is_custom_name, is_stem}
use Rattle.model.specs.Objects.{Numbered, object_numbered}
use Rattle.model.specs.Sound.{IsSound}
use Rattle.model.specs.SoundMetadata.{IsSoundField, IsSoundObject, names_differ}
use Rattle.model.specs.Tenant.{Field, Object, Tenant}
use Rattle.record_input.specs.declared.found.Found.{Found}
use Rattle.record_input.specs.Given.{Finds, FindsNamed}

-- ---- lists

has_either : {X : Type 0} (xs ys : List X) (x : X) → Has (xs ++ ys) x → (Has xs x) ⊎ (Has ys x)
has_either [] ys x has = inr has
has_either (y ∷ xs) ys x (inl e) = inl (inl e)
has_either (y ∷ xs) ys x (inr has) = elim (has_either xs ys x has) [ inl first ↦ inl (inr first) | inr second ↦ inr second ]

-- the only one that passes is the one that is found
found_only : {X : Type 0} (test : X → Bool) (xs : List X) (x : X) → Has xs x → test x ≡ true → ((y : X) → Has xs y → test y ≡ true → y ≡ x) → find test xs ≡ Some x
found_only test [] x has passes only = absurd has
found_only {X = X} test (y ∷ xs) x has passes only = by (test y) refl has (λ more. found_only test xs x more passes (λ z m. only z (inr m)))
  where
    by : (b : Bool) → test y ≡ b → Has (y ∷ xs) x → (Has xs x → find test xs ≡ Some x) → cond b (Some y) (find test xs) ≡ Some x
    by true here has rest = ap (λ (z : X). Some z) (only y (inl refl) here)
    by false here (inl e) rest = absurd (apart (sym passes ∙ ap test e ∙ here))
    by false here (inr more) rest = rest more

-- those with one text are one
module _ {X : Type 0} (text : X → List ℕ) where
  taken : (z : X) (xs : List X) (x : X) → Has xs x → text z ≡ text x → list_any (bytes_eq (text z)) (map text xs) ≡ true
  taken z [] x has same = absurd has
  taken z (y ∷ xs) x (inl e) same =
      or_first (bytes_eq (text z) (text y)) (list_any (bytes_eq (text z)) (map text xs)) (ap (bytes_eq (text z)) (sym (same ∙ ap text e)) ∙ same_itself (text z))
  taken z (y ∷ xs) x (inr more) same =
      or_second (bytes_eq (text z) (text y)) (list_any (bytes_eq (text z)) (map text xs)) (taken z xs x more same)

  one_text : (xs : List X) → texts_differ (map text xs) ≡ true → (x y : X) → Has xs x → Has xs y → text x ≡ text y → x ≡ y
  one_text [] differ x y a b same = absurd a
  one_text (z ∷ xs) differ x y (inl a) (inl b) same = a ∙ sym b
  one_text (z ∷ xs) differ x y (inl a) (inr b) same =
      absurd (apart (sym (and_left (not (list_any (bytes_eq (text z)) (map text xs))) (texts_differ (map text xs)) differ) ∙ ap not (taken z xs y b (sym (ap text a) ∙ same))))
  one_text (z ∷ xs) differ x y (inr a) (inl b) same =
      absurd (apart (sym (and_left (not (list_any (bytes_eq (text z)) (map text xs))) (texts_differ (map text xs)) differ) ∙ ap not (taken z xs x a (sym (ap text b) ∙ sym same))))
  one_text (z ∷ xs) differ x y (inr a) (inr b) same =
      one_text xs (and_right (not (list_any (bytes_eq (text z)) (map text xs))) (texts_differ (map text xs)) differ) x y a b same

-- ---- names

-- it has a `_`
abbrev has_underscore : List ℕ → Bool
has_underscore = list_any (λ c. c == 95)

ends_so : (cs : List ℕ) → bytes_eq (drop (length cs - 3) cs) (codes "__c") ≡ true → has_underscore (lower cs) ≡ true
ends_so cs h = behind cs (length cs - 3) (ap (λ (ds : List ℕ). has_underscore (lower ds)) (same_exact (drop (length cs - 3) cs) (codes "__c") h))
  where
    behind : (ds : List ℕ) (k : ℕ) → has_underscore (lower (drop k ds)) ≡ true → has_underscore (lower ds) ≡ true
    behind ds zero h = h
    behind [] (suc k) h = h
    behind (d ∷ ds) (suc k) h = or_second _ (has_underscore (lower ds)) (behind ds k h)

custom_so : (cs : List ℕ) → is_custom_name cs ≡ true → has_underscore (lower cs) ≡ true
unfolding is_custom_name
custom_so cs h = ends_so cs (and_right (is_stem _) (bytes_eq (drop (length cs - 3) cs) (codes "__c")) h)

-- ---- columns

-- those that every object has, and the owner
abbrev standard : List Column
standard =
    column (codes "Id") of_ids its_id
    ∷ column (codes "CreatedDate") (of_type type.Moment) its_created
    ∷ column (codes "LastModifiedDate") (of_type type.Moment) its_modified
    ∷ name_column
    ∷ owner_column
    ∷ []

abbrev low_name : Column → List ℕ
low_name c = lower c.name

standard_differ : texts_differ (map low_name standard) ≡ true
standard_differ = refl

standard_so : (c : Column) → Has standard c → has_underscore (low_name c) ≡ false
standard_so c (inl e) = ap (λ (d : Column). has_underscore (low_name d)) e
standard_so c (inr (inl e)) = ap (λ (d : Column). has_underscore (low_name d)) e
standard_so c (inr (inr (inl e))) = ap (λ (d : Column). has_underscore (low_name d)) e
standard_so c (inr (inr (inr (inl e)))) = ap (λ (d : Column). has_underscore (low_name d)) e
standard_so c (inr (inr (inr (inr (inl e))))) = ap (λ (d : Column). has_underscore (low_name d)) e
standard_so c (inr (inr (inr (inr (inr none))))) = absurd none

abbrev custom : ℕ × Field → Column
custom f = column f.1.name (of_type f.1.kind) (value_site f.0)

customs_named : (k : ℕ) (fs : List Field) → map low_name (map custom (enumerate_from k fs)) ≡ map lower (map (λ f. f.name) fs)
customs_named k [] = refl
customs_named k (f ∷ fs) = ap (λ (names : List (List ℕ)). lower f.name ∷ names) (customs_named (k + 1) fs)

custom_field : (k : ℕ) (fs : List Field) (c : Column) → Has (map custom (enumerate_from k fs)) c → (f : Field) × Has fs f × (c.name ≡ f.name)
custom_field k [] c has = absurd has
custom_field k (f ∷ fs) c (inl e) = (f, inl refl, ap (λ (d : Column). d.name) e)
custom_field k (f ∷ fs) c (inr has) = let more = custom_field (k + 1) fs c has in (more.0, inr more.1, more.2)

of_owners : (detail : Bool) (c : Column) → Has (if detail then [] else owner_column ∷ []) c → c ≡ owner_column
of_owners true c has = absurd has
of_owners false c (inl e) = e
of_owners false c (inr has) = absurd has

either_column : (o : Object) (c : Column) → Has (columns o) c → (Has standard c) ⊎ (Has (custom_columns o) c)
either_column o c (inl e) = inl (inl e)
either_column o c (inr (inl e)) = inl (inr (inl e))
either_column o c (inr (inr (inl e))) = inl (inr (inr (inl e)))
either_column o c (inr (inr (inr (inl e)))) = inl (inr (inr (inr (inl e))))
either_column o c (inr (inr (inr (inr has)))) =
    elim (has_either (owner_columns o) (custom_columns o) c has) [
      | inl own ↦ inl (inr (inr (inr (inr (inl (of_owners (is_detail o) c own))))))
      | inr field ↦ inr field
    ]

module _ (o : Object) (customs : (f : Field) → Has o.fields f → is_custom_name f.name ≡ true) (differ : names_differ (map (λ f. f.name) o.fields) ≡ true) where
  field_so : (c : Column) → Has (custom_columns o) c → has_underscore (low_name c) ≡ true
  field_so c has = let f = custom_field 1 o.fields c has in ap (λ (n : List ℕ). has_underscore (lower n)) f.2 ∙ custom_so f.0.name (customs f.0 f.1)

  one_column : (c d : Column) → (Has standard c) ⊎ (Has (custom_columns o) c) → (Has standard d) ⊎ (Has (custom_columns o) d) → low_name c ≡ low_name d → c ≡ d
  one_column c d (inl a) (inl b) same = one_text low_name standard standard_differ c d a b same
  one_column c d (inl a) (inr b) same = absurd (apart (sym (field_so d b) ∙ ap has_underscore (sym same) ∙ standard_so c a))
  one_column c d (inr a) (inl b) same = absurd (apart (sym (field_so c a) ∙ ap has_underscore same ∙ standard_so d b))
  one_column c d (inr a) (inr b) same = one_text low_name (custom_columns o) (ap texts_differ (customs_named 1 o.fields) ∙ differ) c d a b same

  column_there : (name : List ℕ) (c : Column) → Has (columns o) c → same_name name c.name ≡ true → column_named o name ≡ Some c
  unfolding column_named
  column_there name c has same =
      let is : lower name ≡ low_name c = same_exact (lower name) (low_name c) same in
      found_only (λ d. same_name d.name name) (columns o) c has (ap (bytes_eq (low_name c)) is ∙ same_itself (low_name c))
      (λ d there so. one_column d c (either_column o d there) (either_column o c has) (same_exact (low_name d) (lower name) so ∙ is))

-- ---- sound objects

module _ (P : Numbered → Type 0) where
  numbered_at : (k : ℕ) (os : List Object) (n : ℕ) (o : Object) → AllByRecursion P (map (λ (x : ℕ × Object). record { number = x.0; object = x.1 }) (enumerate_from k os)) → slice_get os n ≡ Some o
      → (m : ℕ) × P (record { number = m; object = o })
  numbered_at k [] n o all there = absurd cc
  numbered_at k (x ∷ os) zero o all there = (k, subst (λ (y : Object). P (record { number = k; object = y })) (object_is there) all.0)
    where
      object_is : Some x ≡ Some o → x ≡ o
      object_is e = cc
  numbered_at k (x ∷ os) (suc n) o all there = numbered_at (k + 1) os n o all.1 there

all_there : {X : Type 0} (P : X → Type 0) (xs : List X) (x : X) → AllByRecursion P xs → Has xs x → P x
all_there P [] x all has = absurd has
all_there P (y ∷ xs) x all (inl e) = subst P (sym e) all.0
all_there P (y ∷ xs) x all (inr has) = all_there P xs x all.1 has

pub finds_named : (t : Tenant) (o : Numbered) (found : List Found) (body : List Assignment) → IsSound t → object_numbered t o.number ≡ Some o.object
    → FindsNamed t o.object found body → Finds t o.object None found body
finds_named t o found body sound there named c has x member same =
    let its = numbered_at (IsSoundObject t.objects) 0 t.objects o.number o.object sound.metadata.objects there in
    let customs = λ (f : Field) (has : Has o.object.fields f). (all_there (IsSoundField (length t.objects)) o.object.fields f its.1.fields has).name in
    named x c member (column_there o.object customs its.1.field_names x.field c (inr (inr (inr has))) same)
