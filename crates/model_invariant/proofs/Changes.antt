-- One thing of a list changed at its place.
use Rattle.std.proofs.Common.{◌≡◌, ℕ, zero, suc, ◌+◌, ◌==◌, Bool, true, false, ◌&&◌, ◌||◌, cond, List, [], ◌∷◌, ◌++◌, map, filter, filter_map, length, Option, Some, None, refl, ap, sym, subst, ◌∙◌, eq-eqb, arith, ◌⊎◌, inl, inr, slice_get}
use Rattle.std.specs.List.{AllByRecursion, find, list_any}
use Rattle.std.specs.Option.{unwrap_or}
use Rattle.std.proofs.lemmas.Bool.{eqb-true, true≢false as clash}
use Rattle.std.proofs.lemmas.Option.{same_Some as some_is}
use Rattle.base_lemmas.proofs.Bools.{by_answer as pick}
use Rattle.model.specs.Cases.{in_case}
use Rattle.model.specs.Fields.{is_master}
use Rattle.model.specs.Membership.{Has}
use Rattle.model.specs.Metadata.{masters_above}
use Rattle.model.specs.Objects.{Numbered, change_at}
use Rattle.model.specs.Relationships.{Reference, master_of_object, parent_name, references, relationship_names}
use Rattle.model.specs.Tenant.{Object}
use Rattle.model_invariant.proofs.Parts.{all_from}
use Rattle.model_invariant.proofs.SharingSound.{numbered_from}

module _ {A : Type 0} (g : A → A) where
  -- at the place it is the changed one
  pub same_at : (n : ℕ) (xs : List A) (x : A) → slice_get xs n ≡ Some x → slice_get (change_at n g xs) n ≡ Some (g x)
  same_at n [] x e = absurd cc
  same_at zero (y ∷ xs) x e = ap (λ w. Some (g (unwrap_or w y))) e
  same_at (suc n) (y ∷ xs) x e = same_at n xs x e

  -- elsewhere what was there
  pub other_at : (n m : ℕ) (xs : List A) → (m ≡ n → ⊥) → slice_get (change_at n g xs) m ≡ slice_get xs m
  other_at n m [] h = refl
  other_at zero zero (x ∷ xs) h = absurd (h refl)
  other_at zero (suc m) (x ∷ xs) h = refl
  other_at (suc n) zero (x ∷ xs) h = refl
  other_at (suc n) (suc m) (x ∷ xs) h = other_at n m xs (λ e. h (ap suc e))

  pub length_changed : (n : ℕ) (xs : List A) → length (change_at n g xs) ≡ length xs
  length_changed n [] = refl
  length_changed zero (x ∷ xs) = refl
  length_changed (suc n) (x ∷ xs) = ap suc (length_changed n xs)

  -- what the change leaves is the same of all
  pub map_changed : {B : Type 0} (f : A → B) (n : ℕ) (xs : List A) → ((x : A) → slice_get xs n ≡ Some x → f (g x) ≡ f x) → map f (change_at n g xs) ≡ map f xs
  map_changed f n [] h = refl
  map_changed f zero (x ∷ xs) h = ap (λ y. y ∷ map f xs) (h x refl)
  map_changed f (suc n) (x ∷ xs) h = ap (λ ys. f x ∷ ys) (map_changed f n xs h)

  pub all_changed : (P : A → Type 0) (n : ℕ) (xs : List A) → ((x : A) → slice_get xs n ≡ Some x → P x → P (g x)) → AllByRecursion P xs → AllByRecursion P (change_at n g xs)
  all_changed P n [] h a = tt
  all_changed P zero (x ∷ xs) h a = (h x refl a.0, a.1)
  all_changed P (suc n) (x ∷ xs) h a = (a.0, all_changed P n xs h a.1)

  pub any_changed : (q : A → Bool) (n : ℕ) (xs : List A) → ((x : A) → slice_get xs n ≡ Some x → q (g x) ≡ q x) → list_any q (change_at n g xs) ≡ list_any q xs
  any_changed q n [] h = refl
  any_changed q zero (x ∷ xs) h = ap (λ b. b || list_any q xs) (h x refl)
  any_changed q (suc n) (x ∷ xs) h = ap (λ b. q x || b) (any_changed q n xs h)

  pub count_changed : (q : A → Bool) (n : ℕ) (xs : List A) → ((x : A) → slice_get xs n ≡ Some x → q (g x) ≡ q x) → length (filter q (change_at n g xs)) ≡ length (filter q xs)
  count_changed q n [] h = refl
  count_changed q zero (x ∷ xs) h =
      ap (λ b. length (cond b (g x ∷ filter q xs) (filter q xs))) (h x refl) ∙ pick (q x) (λ b. length (cond b (g x ∷ filter q xs) (filter q xs)) ≡ length (cond b (x ∷ filter q xs) (filter q xs))) (λ _. refl) (λ _. refl)
  count_changed q (suc n) (x ∷ xs) h =
      let more = count_changed q n xs h in
      pick (q x) (λ b. length (cond b (x ∷ filter q (change_at n g xs)) (filter q (change_at n g xs))) ≡ length (cond b (x ∷ filter q xs) (filter q xs))) (λ _. ap suc more) (λ _. more)

-- what is at a place is in the list
pub at_has : {A : Type 0} (n : ℕ) (xs : List A) (x : A) → slice_get xs n ≡ Some x → Has xs x
at_has n [] x e = absurd cc
at_has zero (y ∷ xs) x e = inl (sym (ap (λ w. unwrap_or w y) e))
at_has (suc n) (y ∷ xs) x e = inr (at_has n xs x e)

-- levels depend on the references to masters alone
pub level_by_masters : (os now : List Object) → ((m : ℕ) → master_of_object now m ≡ master_of_object os m) → (k m : ℕ) → masters_above k now m ≡ masters_above k os m
level_by_masters os now same zero m = refl
level_by_masters os now same (suc k) m = ap (λ z. in_case z 0 (λ (f : Reference). suc (masters_above k now f.target))) (same m) ∙ by (master_of_object os m) (level_by_masters os now same k)
  where
    by : (z : Option Reference) → ((m : ℕ) → masters_above k now m ≡ masters_above k os m) → in_case z 0 (λ (f : Reference). suc (masters_above k now f.target)) ≡ in_case z 0 (λ (f : Reference). suc (masters_above k os f.target))
    by None h = refl
    by (Some f) h = ap suc (h f.target)

-- what depends on references alone
module _ (os now : List Object) (same : references now ≡ references os) where
  pub names_by_references : (m : ℕ) → relationship_names now m ≡ relationship_names os m
  names_by_references m = ap (λ (rs : List Reference). map (λ (f : Reference). parent_name f.field.name) (filter (λ f. f.object == m) rs) ++ filter_map (λ (f : Reference). f.field.child) (filter (λ f. f.target == m) rs)) same

  master_by_references : (m : ℕ) → master_of_object now m ≡ master_of_object os m
  master_by_references m = ap (λ (rs : List Reference). find (λ (f : Reference). (f.object == m) && is_master f.field.kind) rs) same

  pub level_by_references : (k m : ℕ) → masters_above k now m ≡ masters_above k os m
  level_by_references = level_by_masters os now master_by_references

-- a numbered object is at its number
pub numbered_at : (n : ℕ) (os : List Object) (o : Numbered) → Has (numbered_from n os) o → (k : ℕ) × (o.number ≡ n + k) × (slice_get os k ≡ Some o.object)
numbered_at n [] o m = absurd m
numbered_at n (x ∷ os) o (inl e) = (0, ap (λ (z : Numbered). z.number) e ∙ omega arith, ap (λ (z : Numbered). Some z.object) (sym e))
numbered_at n (x ∷ os) o (inr m) = let r = numbered_at (n + 1) os o m in (suc r.0, r.1 ∙ omega arith, r.2)

module _ {A : Type 0} (g : A → A) where
  -- at the place it is the changed one, and elsewhere what was there
  pub changed_or_not : (n : ℕ) (xs : List A) (x : A) → slice_get xs n ≡ Some x → (m : ℕ)
      → ((m ≡ n) × (slice_get (change_at n g xs) m ≡ Some (g x))) ⊎ ((m ≡ n → ⊥) × (slice_get (change_at n g xs) m ≡ slice_get xs m))
  changed_or_not n xs x e m = by (m == n) refl
    where
      by : (b : Bool) → (m == n) ≡ b → ((m ≡ n) × (slice_get (change_at n g xs) m ≡ Some (g x))) ⊎ ((m ≡ n → ⊥) × (slice_get (change_at n g xs) m ≡ slice_get xs m))
      by true h = let k = eqb-true m n h in inl (k, ap (slice_get (change_at n g xs)) k ∙ same_at g n xs x e)
      by false h = let other : m ≡ n → ⊥ = λ k. clash (sym (eq-eqb m n k) ∙ h) in inr (other, other_at g n m xs other)

-- of numbered objects, where one is changed
pub objects_changed : (g : Object → Object) (n : ℕ) (os : List Object) (p : Object) → slice_get os n ≡ Some p → (P : Numbered → Type 0)
    → ((m : ℕ) (o : Object) → slice_get os m ≡ Some o → P (record { number = m; object = o })) → (P (record { number = n; object = g p })) → AllByRecursion P (numbered_from 0 (change_at n g os))
objects_changed g n os p at P old new =
    all_from P (numbered_from 0 (change_at n g os)) (λ o m.
    let r = numbered_at 0 (change_at n g os) o m in
    let k : o.number ≡ r.0 = r.1 ∙ omega arith in
    let found : slice_get (change_at n g os) o.number ≡ Some o.object = ap (slice_get (change_at n g os)) k ∙ r.2 in
    elim (changed_or_not g n os p at o.number) [
      | inl c ↦
          let is : g p ≡ o.object = some_is (g p) o.object (sym c.1 ∙ found) in
          subst (λ (z : Numbered). P z) (λ i. record { number = sym c.0 i; object = is i }) new
      | inr c ↦ old o.number o.object (sym c.1 ∙ found)
    ])
