-- A new field leaves a sound tenant: each record of its object has one value more, which is null or false.
use Rattle.std.proofs.Common.{◌≡◌, ℕ, zero, suc, ◌+◌, ◌<◌, ◌≤◌, Bool, true, false, not, ◌&&◌, ◌||◌, ◌==◌, cond, List, [], ◌∷◌, ◌++◌, map, filter, filter_map, length, Option, Some, None, is_some, refl, ap, sym, subst, ◌∙◌, eq-eqb, arith, ◌⊎◌, inl, inr, bytes_eq, slice_get, nat_cmp}
use Rattle.std.specs.List.{AllByRecursion, cons_option, enumerate_from, find, flat_map, list_all, list_any}
use Rattle.std.specs.Option.{option_and_then}
use Rattle.std.specs.Cmp.Lexicographic.{slice_cmp}
use Rattle.std.proofs.lemmas.Bool.{eqb-true, not-true as not_so, or_parts as neither, and_from as both, true≢false as clash}
use Rattle.std.proofs.lemmas.List.{length-map, map_push as names_of_last, map-append as map_parts, length_push as length_last, append-nil as nil_right}
use Rattle.std.proofs.lemmas.Option.{slice_get_within, same_Some as some_is}
use Rattle.std.proofs.lemmas.List.Elements.{filter-append as filter_parts, filter_map-append as filter_map_parts}
use Rattle.base_lemmas.proofs.Lists.{each-push as all_last, each_weaker as all_more}
use Rattle.base_lemmas.proofs.Bools.{and_first as both_left, and_second as both_right, by_answer as pick}
use Rattle.base_lemmas.proofs.Texts.{bytes_eq_false_sym as not_turned}
use Rattle.base_value.specs.Conversion.{convert}
use Rattle.base_value.specs.Reading.{empty_value}
use Rattle.base_value.specs.Texts.{lower, texts_differ}
use Rattle.base_value.specs.Types.{suits_unique}
use Rattle.base_value.specs.Values.{equal, valid}
use Rattle.base_value.specs.declared.value.FieldType.{FieldType}
use Rattle.base_value.specs.declared.value.FieldType.TheVariants as type
use Rattle.base_value.specs.declared.value.Value.{Value}
use Rattle.base_value.specs.declared.value.Value.TheVariants as value
use Rattle.formula.specs.Meaning.{value_at}
use Rattle.model.specs.declared.record.Record.{Record}
use Rattle.model.specs.Cases.{in_case}
use Rattle.model.specs.Fields.{is_detail, is_master, is_null, ref_of, same_name}
use Rattle.model.specs.Known.{Grows, item_of, known}
use Rattle.model.specs.Membership.{Has}
use Rattle.model.specs.Metadata.{masters_above}
use Rattle.model.specs.NewFields.{with_field}
use Rattle.model.specs.Objects.{change_at, is_of, object_number}
use Rattle.model.specs.Relationships.{Reference, master_of_object, parent_name, reference_at, references, references_of, relationship_names, target_of}
use Rattle.model_invariant.proofs.SoundParts.{HasSoundParts}
use Rattle.model.specs.SoundJob.{HasSoundJob, copies, job_field}
use Rattle.model.specs.SoundMetadata.{IsSoundField, IsSoundObject, names_differ}
use Rattle.model.specs.SoundRecords.{IsSoundRecord, UniqueHold, all_valid, is_sound_reference, kinds_of, record_id, those_of}
use Rattle.model.specs.SoundSharing.{IsSoundRule, IsSoundShare, shareable}
use Rattle.model.specs.Tenant.{Field, Job, Object, Tenant}
use Rattle.model.specs.Updates.{is_copied}
use Rattle.model_invariant.proofs.Parts.{all_at, all_from, among_kept, among_map, count_same, has_same, kept_among, list_all_at, list_all_from}
use Rattle.model_invariant.proofs.Orders.{rise_map}
use Rattle.model_invariant.proofs.Growing.{groups_more, numbers_less, record_more, roles_more, rules_more, shares_more, users_more}
use Rattle.model_invariant.proofs.SharingSound.{numbered_from}
use Rattle.model_invariant.proofs.DeletesSound.{among_either, sound_object}
use Rattle.model_invariant.proofs.Changes.{changed_or_not, length_changed, level_by_masters, map_changed, names_by_references, objects_changed, same_at}
use Rattle.model_invariant.proofs.NewObjects.{filter_last, get_before, in_turn, names_last}

-- ---- lists
last_or_before : {A : Type 0} (xs : List A) (x : A) (i : ℕ) (y : A) → slice_get (xs ++ x ∷ []) i ≡ Some y → (slice_get xs i ≡ Some y) ⊎ ((i ≡ length xs) × (x ≡ y))
last_or_before [] x zero y e = inr (refl, some_is x y e)
last_or_before [] x (suc i) y e = absurd cc
last_or_before (z ∷ xs) x zero y e = inl e
last_or_before (z ∷ xs) x (suc i) y e = elim (last_or_before xs x i y e) [ inl a ↦ inl a | inr b ↦ inr (ap suc b.0, b.1) ]

any_last : {A : Type 0} (q : A → Bool) (xs : List A) (x : A) → q x ≡ false → list_any q (xs ++ x ∷ []) ≡ list_any q xs
any_last q [] x e = ap (λ b. b || false) e
any_last q (y ∷ xs) x e = ap (λ b. q y || b) (any_last q xs x e)

-- ---- values with one more at the end
valid_last : (ks : List FieldType) (vs : List Value) (k : FieldType) (v : Value) → all_valid ks vs ≡ true → valid k v ≡ true → all_valid (ks ++ k ∷ []) (vs ++ v ∷ []) ≡ true
valid_last [] [] k v h e = both (valid k v) true e refl
valid_last [] (w ∷ vs) k v h e = absurd cc
valid_last (j ∷ ks) [] k v h e = absurd cc
valid_last (j ∷ ks) (w ∷ vs) k v h e = both (valid j w) (all_valid (ks ++ k ∷ []) (vs ++ v ∷ [])) (both_left (valid j w) (all_valid ks vs) h) (valid_last ks vs k v (both_right (valid j w) (all_valid ks vs) h) e)

as_many : (ks : List FieldType) (vs : List Value) → all_valid ks vs ≡ true → length vs ≡ length ks
as_many [] [] h = refl
as_many [] (w ∷ vs) h = absurd cc
as_many (j ∷ ks) [] h = absurd cc
as_many (j ∷ ks) (w ∷ vs) h = ap suc (as_many ks vs (both_right (valid j w) (all_valid ks vs) h))

value_before : (vs : List Value) (v : Value) (i : ℕ) → i < length vs → value_at (vs ++ v ∷ []) i ≡ value_at vs i
value_before [] v i h = absurd (omega (arith, h))
value_before (w ∷ vs) v zero h = refl
value_before (w ∷ vs) v (suc i) h = value_before vs v i (omega (arith, h))

value_end : (vs : List Value) (v : Value) (i : ℕ) → i ≡ length vs → value_at (vs ++ v ∷ []) i ≡ v
value_end [] v zero e = refl
value_end [] v (suc i) e = absurd (omega (arith, e))
value_end (w ∷ vs) v zero e = absurd (omega (arith, e))
value_end (w ∷ vs) v (suc i) e = value_end vs v i (omega (arith, e))

beyond : (vs : List Value) (i : ℕ) → length vs ≤ i → value_at vs i ≡ value.Null
beyond [] i h = refl
beyond (w ∷ vs) zero h = absurd (omega (arith, h))
beyond (w ∷ vs) (suc i) h = beyond vs i (omega (arith, h))

-- one that is no reference shows as none
same_refs : (vs : List Value) (v : Value) (i : ℕ) → ref_of v ≡ None → ref_of (value_at (vs ++ v ∷ []) i) ≡ ref_of (value_at vs i)
same_refs [] v zero e = e
same_refs [] v (suc i) e = refl
same_refs (w ∷ vs) v zero e = refl
same_refs (w ∷ vs) v (suc i) e = same_refs vs v i e

empty_valid : (k : FieldType) → valid k (empty_value k) ≡ true
empty_valid type.Checkbox = refl
empty_valid k = refl

empty_no_ref : (k : FieldType) → ref_of (empty_value k) ≡ None
empty_no_ref type.Checkbox = refl
empty_no_ref k = refl

unique_null : (k : FieldType) → suits_unique k ≡ true → is_null (empty_value k) ≡ true
unique_null type.Checkbox e = absurd cc
unique_null k e = refl

-- ---- one more name, anywhere
any_mapped : (c : List ℕ) (ys : List (List ℕ)) → list_any (bytes_eq (lower c)) (map lower ys) ≡ list_any (same_name c) ys
any_mapped c [] = refl
any_mapped c (y ∷ ys) = ap (λ b. same_name c y || b) (any_mapped c ys)

any_within : (c : List ℕ) (xs ys : List (List ℕ)) (d : List ℕ) → list_any (same_name c) (xs ++ ys) ≡ false → same_name c d ≡ false → list_any (same_name c) (xs ++ d ∷ ys) ≡ false
any_within c [] ys d h e = ap (λ b. b || list_any (same_name c) ys) e ∙ h
any_within c (x ∷ xs) ys d h e = by (same_name c x) h (λ h. any_within c xs ys d h e)
  where
    by : (b : Bool) → (b || list_any (same_name c) (xs ++ ys)) ≡ false → (list_any (same_name c) (xs ++ ys) ≡ false → list_any (same_name c) (xs ++ d ∷ ys) ≡ false) → (b || list_any (same_name c) (xs ++ d ∷ ys)) ≡ false
    by true h more = absurd cc
    by false h more = more h

pub name_turned : (a b : List ℕ) → same_name a b ≡ false → same_name b a ≡ false
name_turned a b e = not_turned (lower a) (lower b) e

pub any_parts : {A : Type 0} (q : A → Bool) (xs ys : List A) → list_any q (xs ++ ys) ≡ false → (list_any q xs ≡ false) × (list_any q ys ≡ false)
any_parts q [] ys e = (refl, e)
any_parts q (x ∷ xs) ys e = by (q x) e (any_parts q xs ys)
  where
    by : (b : Bool) → (b || list_any q (xs ++ ys)) ≡ false → (list_any q (xs ++ ys) ≡ false → (list_any q xs ≡ false) × (list_any q ys ≡ false)) → ((b || list_any q xs) ≡ false) × (list_any q ys ≡ false)
    by true e more = absurd cc
    by false e more = more e

names_within : (xs ys : List (List ℕ)) (c : List ℕ) → names_differ (xs ++ ys) ≡ true → list_any (same_name c) (xs ++ ys) ≡ false → names_differ (xs ++ c ∷ ys) ≡ true
names_within [] ys c h e = both (not (list_any (bytes_eq (lower c)) (map lower ys))) (texts_differ (map lower ys)) (ap not (any_mapped c ys ∙ e)) h
names_within (x ∷ xs) ys c h e =
    let w = neither (same_name c x) (list_any (same_name c) (xs ++ ys)) e in
    let first = not_so (list_any (bytes_eq (lower x)) (map lower (xs ++ ys))) (both_left (not (list_any (bytes_eq (lower x)) (map lower (xs ++ ys)))) (texts_differ (map lower (xs ++ ys))) h) in
    both (not (list_any (bytes_eq (lower x)) (map lower (xs ++ c ∷ ys)))) (texts_differ (map lower (xs ++ c ∷ ys)))
    (ap not (any_mapped x (xs ++ c ∷ ys) ∙ any_within x xs ys c (sym (any_mapped x (xs ++ ys)) ∙ first) (name_turned c x w.0)))
    (names_within xs ys c (both_right (not (list_any (bytes_eq (lower x)) (map lower (xs ++ ys)))) (texts_differ (map lower (xs ++ ys))) h) w.1)

-- ---- one more reference, anywhere
find_within : {A : Type 0} (q : A → Bool) (xs ys : List A) (x : A) → q x ≡ false → find q (xs ++ x ∷ ys) ≡ find q (xs ++ ys)
find_within q [] ys x e = ap (λ b. cond b (Some x) (find q ys)) e
find_within q (y ∷ xs) ys x e = ap (λ o. cond (q y) (Some y) o) (find_within q xs ys x e)

-- the relationship names of an object, by references
abbrev names_by : List Reference → ℕ → List (List ℕ)
names_by rs m = map (λ (f : Reference). parent_name f.field.name) (filter (λ f. f.object == m) rs) ++ filter_map (λ (f : Reference). f.field.child) (filter (λ f. f.target == m) rs)

module _ (A B : List Reference) (r : Reference) (c : List ℕ) (child : r.field.child ≡ Some c) (m : ℕ) where
  abbrev at : Reference → Bool
  at f = f.object == m

  abbrev to : Reference → Bool
  to f = f.target == m

  abbrev pn : Reference → List ℕ
  pn f = parent_name f.field.name

  abbrev P1 : List (List ℕ)
  P1 = map pn (filter at A)

  abbrev P2 : List (List ℕ)
  P2 = map pn (filter at B)

  abbrev C1 : List (List ℕ)
  C1 = filter_map (λ (f : Reference). f.field.child) (filter to A)

  abbrev C2 : List (List ℕ)
  C2 = filter_map (λ (f : Reference). f.field.child) (filter to B)

  names_parts : names_by (A ++ B) m ≡ (P1 ++ P2) ++ (C1 ++ C2)
  names_parts =
      ap (λ zs. map pn zs ++ filter_map (λ (f : Reference). f.field.child) (filter to (A ++ B))) (filter_parts at A B) ∙ ap (λ zs. zs ++ filter_map (λ (f : Reference). f.field.child) (filter to (A ++ B))) (map_parts pn (filter at A) (filter at B))
      ∙ ap (λ zs. (P1 ++ P2) ++ filter_map (λ (f : Reference). f.field.child) zs) (filter_parts to A B) ∙ ap (λ zs. (P1 ++ P2) ++ zs) (filter_map_parts (λ (f : Reference). f.field.child) (filter to A) (filter to B))

  parents_now : map pn (filter at (A ++ r ∷ B)) ≡ cond (at r) (P1 ++ pn r ∷ P2) (P1 ++ P2)
  parents_now =
      ap (map pn) (filter_parts at A (r ∷ B)) ∙ map_parts pn (filter at A) (filter at (r ∷ B))
      ∙ pick (at r) (λ b. P1 ++ map pn (cond b (r ∷ filter at B) (filter at B)) ≡ cond b (P1 ++ pn r ∷ P2) (P1 ++ P2)) (λ _. refl) (λ _. refl)

  children_now : filter_map (λ (f : Reference). f.field.child) (filter to (A ++ r ∷ B)) ≡ cond (to r) (C1 ++ c ∷ C2) (C1 ++ C2)
  children_now =
      ap (filter_map (λ (f : Reference). f.field.child)) (filter_parts to A (r ∷ B)) ∙ filter_map_parts (λ (f : Reference). f.field.child) (filter to A) (filter to (r ∷ B))
      ∙ pick (to r) (λ b. C1 ++ filter_map (λ (f : Reference). f.field.child) (cond b (r ∷ filter to B) (filter to B)) ≡ cond b (C1 ++ c ∷ C2) (C1 ++ C2))
      (λ _. ap (λ o. C1 ++ cons_option o C2) child) (λ _. refl)

  names_now : names_by (A ++ r ∷ B) m ≡ cond (at r) (P1 ++ pn r ∷ P2) (P1 ++ P2) ++ cond (to r) (C1 ++ c ∷ C2) (C1 ++ C2)
  names_now = ap (λ zs. zs ++ filter_map (λ (f : Reference). f.field.child) (filter to (A ++ r ∷ B))) parents_now ∙ ap (λ zs. cond (at r) (P1 ++ pn r ∷ P2) (P1 ++ P2) ++ zs) children_now

  pub names_inserted : names_differ (names_by (A ++ B) m) ≡ true
      → (at r ≡ true → list_any (same_name (pn r)) (names_by (A ++ B) m) ≡ false) → (to r ≡ true → list_any (same_name c) (names_by (A ++ B) m) ≡ false) → (at r ≡ true → to r ≡ true → same_name (pn r) c ≡ false)
      → names_differ (names_by (A ++ r ∷ B) m) ≡ true
  names_inserted good fresh_parent fresh_child apart = ap names_differ names_now ∙ by (at r) (to r) (λ e. ap (list_any (same_name (pn r))) (sym names_parts) ∙ fresh_parent e) (λ e. ap (list_any (same_name c)) (sym names_parts) ∙ fresh_child e) apart
    where
      old : names_differ ((P1 ++ P2) ++ (C1 ++ C2)) ≡ true
      old = ap names_differ (sym names_parts) ∙ good

      with_child : list_any (same_name c) ((P1 ++ P2) ++ (C1 ++ C2)) ≡ false → names_differ ((P1 ++ P2) ++ (C1 ++ c ∷ C2)) ≡ true
      with_child e =
          let same = in_turn (P1 ++ P2) C1 C2 in
          ap names_differ (in_turn (P1 ++ P2) C1 (c ∷ C2)) ∙ names_within ((P1 ++ P2) ++ C1) C2 c (ap names_differ (sym same) ∙ old) (ap (list_any (same_name c)) (sym same) ∙ e)

      with_parent : (cs : List (List ℕ)) → names_differ ((P1 ++ P2) ++ cs) ≡ true → list_any (same_name (pn r)) ((P1 ++ P2) ++ cs) ≡ false → names_differ ((P1 ++ pn r ∷ P2) ++ cs) ≡ true
      with_parent cs h e =
          let same = in_turn P1 P2 cs in
          ap names_differ (sym (in_turn P1 (pn r ∷ P2) cs)) ∙ names_within P1 (P2 ++ cs) (pn r) (ap names_differ same ∙ h) (ap (list_any (same_name (pn r))) same ∙ e)

      by : (a b : Bool) → (a ≡ true → list_any (same_name (pn r)) ((P1 ++ P2) ++ (C1 ++ C2)) ≡ false) → (b ≡ true → list_any (same_name c) ((P1 ++ P2) ++ (C1 ++ C2)) ≡ false) → (a ≡ true → b ≡ true → same_name (pn r) c ≡ false)
          → names_differ (cond a (P1 ++ pn r ∷ P2) (P1 ++ P2) ++ cond b (C1 ++ c ∷ C2) (C1 ++ C2)) ≡ true
      by false false f g k = old
      by true false f g k = with_parent (C1 ++ C2) old (f refl)
      by false true f g k = with_child (g refl)
      by true true f g k =
          let free = ap (list_any (same_name (pn r))) (sym (in_turn (P1 ++ P2) C1 C2)) ∙ f refl in
          with_parent (C1 ++ c ∷ C2) (with_child (g refl)) (ap (list_any (same_name (pn r))) (in_turn (P1 ++ P2) C1 (c ∷ C2)) ∙ any_within (pn r) ((P1 ++ P2) ++ C1) C2 c free (k refl refl))

-- ---- the references of an object with one field more
refs_of_last : (m k : ℕ) (fs : List Field) (f : Field) → flat_map (reference_at m) (enumerate_from k (fs ++ f ∷ [])) ≡ flat_map (reference_at m) (enumerate_from k fs) ++ reference_at m (k + length fs, f)
refs_of_last m k [] f = let none : k ≡ k + 0 = omega arith in nil_right (reference_at m (k, f)) ∙ ap (λ (i : ℕ). reference_at m (i, f)) none
refs_of_last m k (x ∷ fs) f =
    let same : k + 1 + length fs ≡ k + suc (length fs) = omega arith in
    ap (λ (rs : List Reference). reference_at m (k, x) ++ rs) (refs_of_last m (k + 1) fs f ∙ ap (λ (i : ℕ). flat_map (reference_at m) (enumerate_from (k + 1) fs) ++ reference_at m (i, f)) same)
    ∙ in_turn (reference_at m (k, x)) (flat_map (reference_at m) (enumerate_from (k + 1) fs)) (reference_at m (k + suc (length fs), f))

module _ (f : Field) where
  abbrev pub add : Object → Object
  add o = record o { fields = o.fields ++ f ∷ [] }

  -- all references: what comes before the new field's, and what comes after
  pub refs_split : (k n : ℕ) (os : List Object) (p : Object) → slice_get os n ≡ Some p
      → (A : List Reference) × (B : List Reference) × (flat_map references_of (numbered_from k os) ≡ A ++ B)
      × (flat_map references_of (numbered_from k (change_at n add os)) ≡ A ++ (reference_at (k + n) (1 + length p.fields, f) ++ B))
  refs_split k n [] p e = absurd cc
  refs_split k zero (x ∷ os) p e =
      let own = references_of (record { number = k; object = x }) in
      let rest = flat_map references_of (numbered_from (k + 1) os) in
      let none : k ≡ k + zero = omega arith in
      let is : x ≡ p = some_is x p e in (
        own,
        rest,
        refl,
        ap (λ (rs : List Reference). rs ++ rest) (refs_of_last k 1 x.fields f)
            ∙ sym (in_turn own (reference_at k (1 + length x.fields, f)) rest)
            ∙ ap (λ (i : ℕ). own ++ (reference_at i (1 + length x.fields, f) ++ rest)) none
            ∙ ap (λ (z : Object). own ++ (reference_at (k + zero) (1 + length z.fields, f) ++ rest)) is,
      )
  refs_split k (suc n) (x ∷ os) p e =
      let own = references_of (record { number = k; object = x }) in
      let r = refs_split (k + 1) n os p e in
      let same : k + 1 + n ≡ k + suc n = omega arith in
      let new = reference_at (k + suc n) (1 + length p.fields, f) in (
        own ++ r.0,
        r.1,
        ap (λ (rs : List Reference). own ++ rs) r.2 ∙ in_turn own r.0 r.1,
        ap (λ (rs : List Reference). own ++ rs) (r.3 ∙ ap (λ (i : ℕ). r.0 ++ (reference_at i (1 + length p.fields, f) ++ r.1)) same) ∙ in_turn own r.0 (new ++ r.1),
      )

-- ---- a tenant with one field more
-- the names of an object's relationships that the new field gives are free: its parent relationship, and its child relationship
pub record FreeNames (os : List Object) (n : ℕ) (f : Field) : Type 0 where
  pub parent : (q : ℕ) → target_of f.kind ≡ Some q → list_any (same_name (parent_name f.name)) (relationship_names os n) ≡ false
  pub child : (q : ℕ) → target_of f.kind ≡ Some q → (c : List ℕ) × (f.child ≡ Some c) × (list_any (same_name c) (relationship_names os q) ≡ false) × (n ≡ q → same_name (parent_name f.name) c ≡ false)

module _ (t : Tenant) (s : HasSoundParts t) (n : ℕ) (p : Object) (there : slice_get t.objects n ≡ Some p) (f : Field) (plain : is_master f.kind ≡ false)
    (sound_field : IsSoundField (length t.objects) f) (unique_fits : f.unique ≡ true → suits_unique f.kind ≡ true) (few : length p.fields + 1 ≤ 40)
    (fresh : list_any (same_name f.name) (map (λ (x : Field). x.name) p.fields) ≡ false) (free : FreeNames t.objects n f) where
  abbrev os : List Object
  os = t.objects

  abbrev now : List Object
  now = change_at n (add f) os

  abbrev new_value : Value
  new_value = empty_value f.kind

  abbrev after : Record → Record
  after r = cond (is_of n r) (record r { values = r.values ++ new_value ∷ [] }) r

  abbrev u : Tenant
  u = with_field n f t

  split : (A : List Reference) × (B : List Reference) × (references os ≡ A ++ B) × (references now ≡ A ++ (reference_at (0 + n) (1 + length p.fields, f) ++ B))
  split = refs_split f 0 n os p there

  new_refs : (target : Option ℕ) → target_of f.kind ≡ target → reference_at (0 + n) (1 + length p.fields, f) ≡ in_case target [] (λ q. record { object = n; position = 1 + length p.fields; field = f; target = q } ∷ [])
  new_refs target e =
      let none : 0 + n ≡ n = omega arith in
      ap (λ (m : ℕ). reference_at m (1 + length p.fields, f)) none ∙ ap (λ z. in_case z [] (λ q. record { object = n; position = 1 + length p.fields; field = f; target = q } ∷ [])) e

  no_reference : target_of f.kind ≡ None → references now ≡ references os
  no_reference e = split.3 ∙ ap (λ (rs : List Reference). split.0 ++ (rs ++ split.1)) (new_refs None e) ∙ sym split.2

  one_reference : (q : ℕ) → target_of f.kind ≡ Some q → references now ≡ split.0 ++ record { object = n; position = 1 + length p.fields; field = f; target = q } ∷ split.1
  one_reference q e = split.3 ∙ ap (λ (rs : List Reference). split.0 ++ (rs ++ split.1)) (new_refs (Some q) e)

  names_kept : (m : ℕ) → names_differ (relationship_names os m) ≡ true → names_differ (relationship_names now m) ≡ true
  names_kept m good = by (target_of f.kind) refl
    where
      by : (target : Option ℕ) → target_of f.kind ≡ target → names_differ (relationship_names now m) ≡ true
      by None e = ap names_differ (names_by_references os now (no_reference e) m) ∙ good
      by (Some q) e =
          let c = free.child q e in
          let r : Reference = record { object = n; position = 1 + length p.fields; field = f; target = q } in
          let old : names_by (split.0 ++ split.1) m ≡ relationship_names os m = ap (λ (rs : List Reference). names_by rs m) (sym split.2) in
          ap (λ (rs : List Reference). names_differ (names_by rs m)) (one_reference q e)
          ∙ names_inserted split.0 split.1 r c.0 c.1 m (ap names_differ old ∙ good)
          (λ w. ap (list_any (same_name (parent_name f.name))) old ∙ ap (λ (k : ℕ). list_any (same_name (parent_name f.name)) (relationship_names os k)) (sym (eqb-true n m w)) ∙ free.parent q e)
          (λ w. ap (list_any (same_name c.0)) old ∙ ap (λ (k : ℕ). list_any (same_name c.0) (relationship_names os k)) (sym (eqb-true q m w)) ∙ c.2)
          (λ v w. c.3 (eqb-true n m v ∙ sym (eqb-true q m w)))

  masters_kept : (m : ℕ) → master_of_object now m ≡ master_of_object os m
  masters_kept m = by (target_of f.kind) refl
    where
      test : Reference → Bool
      test x = (x.object == m) && is_master x.field.kind

      by : (target : Option ℕ) → target_of f.kind ≡ target → find (λ (x : Reference). (x.object == m) && is_master x.field.kind) (references now) ≡ find (λ (x : Reference). (x.object == m) && is_master x.field.kind) (references os)
      by None e = ap (find (λ (x : Reference). (x.object == m) && is_master x.field.kind)) (no_reference e)
      by (Some q) e =
          let r : Reference = record { object = n; position = 1 + length p.fields; field = f; target = q } in
          ap (find (λ (x : Reference). (x.object == m) && is_master x.field.kind)) (one_reference q e)
          ∙ find_within (λ (x : Reference). (x.object == m) && is_master x.field.kind) split.0 split.1 r (second (n == m) (is_master f.kind) plain)
          ∙ ap (find (λ (x : Reference). (x.object == m) && is_master x.field.kind)) (sym split.2)
        where
          second : (a b : Bool) → b ≡ false → (a && b) ≡ false
          second true b e = e
          second false b e = refl

  levels_kept : (k m : ℕ) → masters_above k now m ≡ masters_above k os m
  levels_kept = level_by_masters os now masters_kept

  detail_kept : is_detail (add f p) ≡ is_detail p
  detail_kept = any_last (λ (x : Field). is_master x.kind) p.fields f plain

  lift : (m : ℕ) (o : Object) → IsSoundObject os (record { number = m; object = o }) → IsSoundObject now (record { number = m; object = o })
  lift m o x =
      record {
        name = x.name;
        fields = subst (λ (k : ℕ). AllByRecursion (IsSoundField k) o.fields) (sym (length_changed (add f) n os)) x.fields;
        field_names = x.field_names;
        relations = names_kept m x.relations;
        master = x.master;
        hierarchy = x.hierarchy;
        level = subst (λ (k : ℕ). k ≤ 3) (sym (levels_kept 4 m)) x.level;
        rules = x.rules;
        rules_rise = x.rules_rise;
        few_fields = x.few_fields;
        few_rules = x.few_rules;
      }

  lift_changed : IsSoundObject os (record { number = n; object = p }) → IsSoundObject now (record { number = n; object = add f p })
  lift_changed x =
      record {
        name = x.name;
        fields = subst (λ (k : ℕ). AllByRecursion (IsSoundField k) (p.fields ++ f ∷ [])) (sym (length_changed (add f) n os)) (all_last (IsSoundField (length os)) p.fields f x.fields sound_field);
        field_names = ap names_differ (names_of_last (λ (y : Field). y.name) p.fields f) ∙ names_last (map (λ (y : Field). y.name) p.fields) f.name x.field_names fresh;
        relations = names_kept n x.relations;
        master = ap (λ (ys : List Field). length ys) (filter_last (λ (y : Field). is_master y.kind) p.fields f ∙ ap (λ b. cond b (filter (λ (y : Field). is_master y.kind) p.fields ++ f ∷ []) (filter (λ (y : Field). is_master y.kind) p.fields)) plain) ∙ x.master;
        hierarchy = x.hierarchy;
        level = subst (λ (k : ℕ). k ≤ 3) (sym (levels_kept 4 n)) x.level;
        rules = x.rules;
        rules_rise = x.rules_rise;
        few_fields = omega (arith, few, length_last p.fields f);
        few_rules = x.few_rules;
      }

  -- ---- records
  same_id : (r : Record) → (after r).id ≡ r.id
  same_id r = pick (is_of n r) (λ b. (cond b (record r { values = r.values ++ new_value ∷ [] }) r).id ≡ r.id) (λ _. refl) (λ _. refl)

  same_items : (i : List ℕ) → (known u).item i ≡ (known t).item i
  same_items = has_same record_id after same_id t.records

  grows : Grows (known t) (known u)
  grows = record { people = record { counter = omega arith; user = λ i x. x; role = λ i x. x; group = λ i x. x }; item = λ i x. same_items i ∙ x }

  -- a record of the object has a value for its name and each of the old fields
  its_length : (r : Record) → Has t.records r → is_of n r ≡ true → length r.values ≡ suc (length p.fields)
  its_length r m of =
      let was = all_at (IsSoundRecord (known t) os) r t.records s.records.each m in
      let object : was.object ≡ p = some_is was.object p (sym was.there ∙ ap (slice_get os) (eqb-true (object_number r.id) n of) ∙ there) in
      as_many (kinds_of was.object) r.values was.values ∙ ap suc (length-map was.object.fields (λ (y : Field). y.kind)) ∙ ap (λ (z : Object). suc (length z.fields)) object

  -- the values of the old fields stay
  kept_value : (r : Record) → Has t.records r → (i : ℕ) → (is_of n r ≡ true → i < suc (length p.fields)) → value_at (after r).values i ≡ value_at r.values i
  kept_value r m i low =
      pick (is_of n r) (λ b. is_of n r ≡ b → value_at (cond b (record r { values = r.values ++ new_value ∷ [] }) r).values i ≡ value_at r.values i)
      (λ _ of. let size = its_length r m of in value_before r.values new_value i (let w = low of in omega (arith, size, w))) (λ _ _. refl) refl

  record_after : (r : Record) → Has t.records r → IsSoundRecord (known u) now (after r)
  record_after r m = by (is_of n r) refl
    where
      was : IsSoundRecord (known u) os r
      was = record_more (known t) (known u) grows os r (all_at (IsSoundRecord (known t) os) r t.records s.records.each m)

      by : (b : Bool) → is_of n r ≡ b → IsSoundRecord (known u) now (after r)
      by false e =
          let same : after r ≡ r = ap (λ b. cond b (record r { values = r.values ++ new_value ∷ [] }) r) e in
          let its : slice_get now (object_number r.id) ≡ Some was.object
          = elim (changed_or_not (add f) n os p there (object_number r.id)) [ inl c ↦ absurd (clash (sym (eq-eqb (object_number r.id) n c.0) ∙ e)) | inr c ↦ c.1 ∙ was.there ] in
          let sound : IsSoundRecord (known u) now r =
          record { object = was.object; there = its; number = was.number; drawn = was.drawn; id = was.id; owner = was.owner; created = was.created; modified = was.modified; values = was.values; references = was.references } in
          subst (λ (z : Record). IsSoundRecord (known u) now z) (sym same) sound
      by true e =
          let k : object_number r.id ≡ n = eqb-true (object_number r.id) n e in
          let object : was.object ≡ p = some_is was.object p (sym was.there ∙ ap (slice_get os) k ∙ there) in
          let new : Record = record r { values = r.values ++ new_value ∷ [] } in
          let same : after r ≡ new = ap (λ b. cond b (record r { values = r.values ++ new_value ∷ [] }) r) e in
          let sound : IsSoundRecord (known u) now new =
          record {
            object = add f was.object;
            there = ap (slice_get now) k ∙ same_at (add f) n os was.object (ap (slice_get os) (sym k) ∙ was.there);
            number = was.number;
            drawn = was.drawn;
            id = was.id;
            owner = ap (λ b. in_case r.owner b (λ i. not b && (known u).user i)) (any_last (λ (x : Field). is_master x.kind) was.object.fields f plain) ∙ was.owner;
            created = was.created;
            modified = was.modified;
            values =
                ap (λ ks. all_valid ks (r.values ++ new_value ∷ [])) (ap (λ ks. type.Text 80 ∷ ks) (names_of_last (λ (y : Field). y.kind) was.object.fields f))
                ∙ valid_last (kinds_of was.object) r.values f.kind new_value was.values (empty_valid f.kind);
            references =
                subst (λ (rs : List Reference). list_all (is_sound_reference (known u) (r.values ++ new_value ∷ [])) rs ≡ true) (sym (refs_of_last (object_number r.id) 1 was.object.fields f))
                (list_all_from (is_sound_reference (known u) (r.values ++ new_value ∷ [])) (references_of (record { number = object_number r.id; object = was.object }) ++ reference_at (object_number r.id) (1 + length was.object.fields, f)) (λ x a.
                elim (among_either (references_of (record { number = object_number r.id; object = was.object })) (reference_at (object_number r.id) (1 + length was.object.fields, f)) x a) [
                  | inl old ↦
                      ap (λ o. in_case o (not (is_master x.field.kind)) (item_of (known u) x.target)) (same_refs r.values new_value x.position (empty_no_ref f.kind))
                      ∙ list_all_at (is_sound_reference (known u) r.values) x (references_of (record { number = object_number r.id; object = was.object })) was.references old
                  | inr fresh ↦ own x (target_of f.kind) fresh (as_many (kinds_of was.object) r.values was.values ∙ ap suc (length-map was.object.fields (λ (y : Field). y.kind)))
                ]));
          } in
          subst (λ (z : Record). IsSoundRecord (known u) now z) (sym same) sound
        where
          own : (x : Reference) (target : Option ℕ) → Has (in_case target [] (λ q. record { object = object_number r.id; position = 1 + length was.object.fields; field = f; target = q } ∷ [])) x → length r.values ≡ suc (length was.object.fields)
              → is_sound_reference (known u) (r.values ++ new_value ∷ []) x ≡ true
          own x None a size = absurd a
          own x (Some q) (inl is) size =
              let place : x.position ≡ length r.values = ap (λ (z : Reference). z.position) is ∙ omega (arith, size) in
              ap (λ v. in_case (ref_of v) (not (is_master x.field.kind)) (item_of (known u) x.target)) (value_end r.values new_value x.position place)
              ∙ ap (λ o. in_case o (not (is_master x.field.kind)) (item_of (known u) x.target)) (empty_no_ref f.kind)
              ∙ ap (λ (z : Reference). not (is_master z.field.kind)) is ∙ ap not plain
          own x (Some q) (inr a) size = absurd a

  -- a unique field is an old one, or has null in every record
  old_field : (m place : ℕ) (q : Object) (g : Field) → slice_get now m ≡ Some q → slice_get q.fields place ≡ Some g
      → ((o : Object) × (slice_get os m ≡ Some o) × (slice_get o.fields place ≡ Some g) × (m ≡ n → place < length p.fields)) ⊎ ((m ≡ n) × (place ≡ length p.fields) × (f ≡ g))
  old_field m place q g at field =
      elim (changed_or_not (add f) n os p there m) [
        | inl c ↦
            let is : add f p ≡ q = some_is (add f p) q (sym c.1 ∙ at) in
            elim (last_or_before p.fields f place g (ap (λ (z : Object). slice_get z.fields place) is ∙ field)) [
              | inl old ↦ inl (p, ap (slice_get os) c.0 ∙ there, old, λ _. slice_get_within p.fields place g old)
              | inr new ↦ inr (c.0, new.0, new.1)
            ]
        | inr c ↦ inl (q, sym c.1 ∙ at, field, λ k. absurd (c.0 k))
      ]

  still_unique : UniqueHold now (map after t.records)
  still_unique m place q g at field unique x y a b null same =
      let v = among_kept (is_of m) (map after t.records) x a in
      let w = among_kept (is_of m) (map after t.records) y b in
      let x0 = among_map after t.records x v.0 in
      let y0 = among_map after t.records y w.0 in
      let ix : x.id ≡ x0.0.id = ap record_id x0.2 ∙ same_id x0.0 in
      let iy : y.id ≡ y0.0.id = ap record_id y0.2 ∙ same_id y0.0 in
      let of_x : is_of m x0.0 ≡ true = ap (λ (i : List ℕ). object_number i == m) (sym ix) ∙ v.1 in
      let of_y : is_of m y0.0 ≡ true = ap (λ (i : List ℕ). object_number i == m) (sym iy) ∙ w.1 in
      elim (old_field m place q g at field) [
        | inl o ↦
            let ex : value_at x.values (suc place) ≡ value_at x0.0.values (suc place)
            = ap (λ (z : Record). value_at z.values (suc place)) x0.2 ∙ kept_value x0.0 x0.1 (suc place) (λ its. let k = o.3 (sym (eqb-true (object_number x0.0.id) m of_x) ∙ eqb-true (object_number x0.0.id) n its) in omega (arith, k)) in
            let ey : value_at y.values (suc place) ≡ value_at y0.0.values (suc place)
            = ap (λ (z : Record). value_at z.values (suc place)) y0.2 ∙ kept_value y0.0 y0.1 (suc place) (λ its. let k = o.3 (sym (eqb-true (object_number y0.0.id) m of_y) ∙ eqb-true (object_number y0.0.id) n its) in omega (arith, k)) in
            ix ∙ s.records.unique m place o.0 g o.1 o.2 unique x0.0 y0.0
            (kept_among (is_of m) t.records x0.0 x0.1 of_x) (kept_among (is_of m) t.records y0.0 y0.1 of_y)
            (ap is_null (sym ex) ∙ null)
            (ap (λ (v : Value). equal v (value_at y0.0.values (suc place))) (sym ex) ∙ ap (λ (v : Value). equal (value_at x.values (suc place)) v) (sym ey) ∙ same)
            ∙ sym iy
        | inr e ↦
            let its : is_of n x0.0 ≡ true = ap (λ (k : ℕ). is_of k x0.0) (sym e.0) ∙ of_x in
            let size = its_length x0.0 x0.1 its in
            let place_is : suc place ≡ length x0.0.values = omega (arith, size, e.1) in
            let value_is : value_at x.values (suc place) ≡ new_value
            = ap (λ (z : Record). value_at z.values (suc place)) x0.2 ∙ ap (λ b. value_at (cond b (record x0.0 { values = x0.0.values ++ new_value ∷ [] }) x0.0).values (suc place)) its ∙ value_end x0.0.values new_value (suc place) place_is in
            absurd (clash (sym (ap is_null value_is ∙ unique_null f.kind (unique_fits (ap (λ (z : Field). z.unique) e.2 ∙ unique))) ∙ null))
      ]

  shareable_over : (m : ℕ) → shareable os m ≡ true → shareable now m ≡ true
  shareable_over m w =
      elim (changed_or_not (add f) n os p there m) [
        | inl c ↦
            ap (λ z. in_case z false (λ (o : Object). not (is_detail o))) c.1 ∙ ap not detail_kept
            ∙ (sym (ap (λ z. in_case z false (λ (o : Object). not (is_detail o))) (ap (slice_get os) c.0 ∙ there)) ∙ w)
        | inr c ↦ ap (λ z. in_case z false (λ (o : Object). not (is_detail o))) c.1 ∙ w
      ]

  job_over : (job : Option Job) → HasSoundJob t.counter os t.records job → HasSoundJob t.counter now (map after t.records) job
  job_over None h = tt
  job_over (Some j) h =
      record {
        field = h.field;
        there = its_field;
        change = h.change;
        cursor = h.cursor;
        failed = h.failed;
        open_in_copy = h.open_in_copy;
        failed_where = h.failed_where;
        copied = list_all_from (copies j) (those_of j.object (map after t.records)) (λ y a.
            let w = among_kept (is_of j.object) (map after t.records) y a in
            let y0 = among_map after t.records y w.0 in
            let of : is_of j.object y0.0 ≡ true = ap (λ (i : List ℕ). object_number i == j.object) (sym (ap record_id y0.2 ∙ same_id y0.0)) ∙ w.1 in
            subst (λ (z : Record). copies j z ≡ true) (sym y0.2) (still y0.0 y0.1 of));
      }
    where
      its_field : job_field now j ≡ Some h.field
      its_field =
          elim (changed_or_not (add f) n os p there j.object) [
            | inl c ↦ ap (option_and_then (λ (o : Object). slice_get o.fields j.field)) c.1 ∙ get_before p.fields f j.field h.field (sym (ap (option_and_then (λ (o : Object). slice_get o.fields j.field)) (ap (slice_get os) c.0 ∙ there)) ∙ h.there)
            | inr c ↦ ap (option_and_then (λ (o : Object). slice_get o.fields j.field)) c.1 ∙ h.there
          ]

      still : (y : Record) → Has t.records y → is_of j.object y ≡ true → copies j (after y) ≡ true
      still y m of =
          let low : is_of n y ≡ true → suc j.field < suc (length p.fields) = λ its.
          let k : j.object ≡ n = sym (eqb-true (object_number y.id) j.object of) ∙ eqb-true (object_number y.id) n its in
          let field : slice_get p.fields j.field ≡ Some h.field = sym (ap (option_and_then (λ (o : Object). slice_get o.fields j.field)) (ap (slice_get os) k ∙ there)) ∙ h.there in
          let w = slice_get_within p.fields j.field h.field field in
          omega (arith, w) in
          ap (λ (i : List ℕ). not (is_copied j.phase j.cursor i) || is_some (convert j.to (value_at (after y).values (suc j.field)))) (same_id y)
          ∙ ap (λ (v : Value). not (is_copied j.phase j.cursor y.id) || is_some (convert j.to v)) (kept_value y m (suc j.field) low)
          ∙ list_all_at (copies j) y (those_of j.object t.records) h.copied (kept_among (is_of j.object) t.records y m of)

  pub field_added : HasSoundParts (with_field n f t)
  field_added =
      let k = known t in
      let l = known u in
      let rules = rules_more k l grows.people os t.rule_numbers t.sharing_rules s.rules in
      let shares = shares_more k l grows os t.shares s.shares in
      record {
        name = s.name;
        counter = s.counter;
        numbers = numbers_less k l (λ i x. subst (λ b. (k.user i || (k.role i || (k.group i || b))) ≡ true) (same_items i) x) s.numbers;
        users = users_more k l grows.people t.users s.users;
        roles = roles_more k l grows.people t.roles s.roles;
        groups = groups_more k l grows.people t.groups s.groups;
        metadata =
            record {
              objects = objects_changed (add f) n os p there (IsSoundObject now) (λ m o at. lift m o (sound_object t s m o at)) (lift_changed (sound_object t s n p there));
              names = ap names_differ (map_changed (add f) (λ (o : Object). o.name) n os (λ x e. refl)) ∙ s.metadata.names;
              few = subst (λ (m : ℕ). m ≤ 100) (sym (length_changed (add f) n os)) s.metadata.few;
            };
        records =
            record {
              each = all_from (IsSoundRecord l now) (map after t.records) (λ x m. let r = among_map after t.records x m in subst (λ (z : Record). IsSoundRecord l now z) (sym r.2) (record_after r.0 r.1));
              rise = rise_map (slice_cmp nat_cmp) record_id after same_id t.records s.records.rise;
              unique = still_unique;
              few = omega (arith, length-map t.records after, s.records.few);
              few_of = λ m. omega (arith, count_same (is_of m) after (λ r. ap (λ (i : List ℕ). object_number i == m) (same_id r)) t.records, s.records.few_of m);
            };
        rules =
            record {
              each = all_more (IsSoundRule l os t.rule_numbers) (IsSoundRule l now t.rule_numbers) (λ r x.
                  record { name = x.name; object = shareable_over r.object x.object; number = x.number; source = x.source; to = x.to; level = x.level; cursor = x.cursor }) t.sharing_rules rules.each;
              rise = rules.rise;
              numbers = rules.numbers;
              few = rules.few;
              few_drawn = rules.few_drawn;
            };
        shares =
            record {
              each = all_more (IsSoundShare l os) (IsSoundShare l now) (λ x w. record { item = w.item; object = shareable_over (object_number x.item) w.object; to = w.to; level = w.level }) t.shares shares.each;
              rise = shares.rise;
              few = shares.few;
            };
        job = job_over t.job s.job;
      }
