-- Which field has a slot.
use Rattle.std.proofs.Common.{◌≡◌, ℕ, zero, suc, ◌+◌, Bool, true, false, cond, eqb, List, [], ◌∷◌, Option, Some, None, refl, sym, ap, ◌∙◌, subst, arith}
use Rattle.std.specs.Prelude.{slice_get}
use Rattle.std.specs.List.{enumerate_from, find}
use Rattle.std.proofs.lemmas.Bool.{eqb-true}
use Rattle.base_lemmas.proofs.Numbers.{eqb-self as eqb_same}
use Rattle.base_lemmas.proofs.Bools.{by_answer as pick}
use Rattle.std.proofs.lemmas.Option.{same_Some as some_is}
use Rattle.model.specs.Objects.{change_at}

-- what is found has what was asked for
pub found_is : {X : Type 0} (test : X → Bool) (xs : List X) (x : X) → find test xs ≡ Some x → test x ≡ true
found_is test [] x e = absurd cc
found_is test (y ∷ xs) x e =
    pick (test y) (λ b. test y ≡ b → cond b (Some y) (find test xs) ≡ Some x → test x ≡ true)
    (λ _ here is. ap test (sym (some_is y x is)) ∙ here)
    (λ _ _ is. found_is test xs x is)
    refl e

module _ {X : Type 0} where
  -- the one at a place, if no other has its slot
  pub find_one : (slot : ℕ → ℕ) (xs : List X) (a i : ℕ) (x : X) → slice_get xs i ≡ Some x
      → ((g : ℕ) (y : X) → slice_get xs g ≡ Some y → slot (a + g) ≡ slot (a + i) → g ≡ i)
      → find (λ (y : ℕ × X). eqb (slot y.0) (slot (a + i))) (enumerate_from a xs) ≡ Some (a + i, x)
  find_one slot [] a i x at alone = absurd cc
  find_one slot (y ∷ xs) a zero x at alone =
      subst (λ (n : ℕ). find (λ (y : ℕ × X). eqb (slot y.0) (slot n)) (enumerate_from a (y ∷ xs)) ≡ Some (n, x)) start
      (rw (eqb_same (slot a)) (ap (λ (z : X). Some (a, z)) (some_is y x at)))
    where
      start : a ≡ a + 0
      start = omega arith
  find_one slot (y ∷ xs) a (suc i) x at alone =
      pick (eqb (slot a) (slot (a + suc i)))
      (λ b.
      cond b (Some (a, y)) (find (λ (y : ℕ × X). eqb (slot y.0) (slot (a + suc i))) (enumerate_from (a + 1) xs)) ≡ Some (a + suc i, x))
      (λ e. absurd (differ (alone 0 y refl (ap slot (first) ∙ eqb-true (slot a) (slot (a + suc i)) e))))
      (λ _. subst (λ (n : ℕ). find (λ (y : ℕ × X). eqb (slot y.0) (slot n)) (enumerate_from (a + 1) xs) ≡ Some (n, x)) next
      (find_one slot xs (a + 1) i x at (λ g z there same. less g (alone (suc g) z there (ap slot (step g) ∙ same ∙ ap slot next)))))
    where
      first : a + 0 ≡ a
      first = omega arith

      next : a + 1 + i ≡ a + suc i
      next = omega arith

      step : (g : ℕ) → a + suc g ≡ a + 1 + g
      step g = omega arith

      less : (g : ℕ) → suc g ≡ suc i → g ≡ i
      less g e = omega (arith, e)

      differ : 0 ≡ suc i → ⊥
      differ e = omega (arith, e)

  -- none, if none has the slot
  pub find_no : (slot : ℕ → ℕ) (xs : List X) (a s : ℕ) → ((g : ℕ) (y : X) → slice_get xs g ≡ Some y → slot (a + g) ≡ s → ⊥)
      → find (λ (y : ℕ × X). eqb (slot y.0) s) (enumerate_from a xs) ≡ None
  find_no slot [] a s free = refl
  find_no slot (y ∷ xs) a s free =
      pick (eqb (slot a) s) (λ b. cond b (Some (a, y)) (find (λ (y : ℕ × X). eqb (slot y.0) s) (enumerate_from (a + 1) xs)) ≡ None)
      (λ e. absurd (free 0 y refl (ap slot first ∙ eqb-true (slot a) s e)))
      (λ _. find_no slot xs (a + 1) s (λ g z there same. free (suc g) z there (ap slot (step g) ∙ same)))
    where
      first : a + 0 ≡ a
      first = omega arith

      step : (g : ℕ) → a + suc g ≡ a + 1 + g
      step g = omega arith

  -- a field of another slot may change, and have yet another
  pub find_apart : (slot more : ℕ → ℕ) (change : X → X) (xs : List X) (a i s : ℕ) → eqb (slot (a + i)) s ≡ false
      → eqb (more (a + i)) s ≡ false
      → ((g : ℕ) → (g ≡ i → ⊥) → more (a + g) ≡ slot (a + g))
      → find (λ (y : ℕ × X). eqb (more y.0) s) (enumerate_from a (change_at i change xs)) ≡ find (λ (y : ℕ × X). eqb (slot y.0) s)
      (enumerate_from a xs)
  find_apart slot more change [] a i s was is same = refl
  find_apart slot more change (x ∷ xs) a zero s was is same =
      rw (subst (λ (n : ℕ). eqb (more n) s ≡ false) first is, subst (λ (n : ℕ). eqb (slot n) s ≡ false) first was)
      (tails xs (a + 1) (λ g. subst (λ (n : ℕ). more n ≡ slot n) (sym (step g)) (same (suc g) (λ e. differ g e))))
    where
      first : a + 0 ≡ a
      first = omega arith

      step : (g : ℕ) → a + 1 + g ≡ a + suc g
      step g = omega arith

      differ : (g : ℕ) → suc g ≡ 0 → ⊥
      differ g e = omega (arith, e)

      tails : (ys : List X) (b : ℕ) → ((g : ℕ) → more (b + g) ≡ slot (b + g))
          → find (λ (y : ℕ × X). eqb (more y.0) s) (enumerate_from b ys) ≡ find (λ (y : ℕ × X). eqb (slot y.0) s) (enumerate_from b ys)
      tails [] b h = refl
      tails (y ∷ ys) b h =
          let first : more b ≡ slot b = subst (λ (n : ℕ). more n ≡ slot n) (zeroth b) (h 0) in
          rw (first, tails ys (b + 1) (λ g. subst (λ (n : ℕ). more n ≡ slot n) (later b g) (h (suc g)))) refl
        where
          zeroth : (b : ℕ) → b + 0 ≡ b
          zeroth b = omega arith

          later : (b g : ℕ) → b + suc g ≡ b + 1 + g
          later b g = omega arith
  find_apart slot more change (x ∷ xs) a (suc i) s was is same =
      rw (subst (λ (n : ℕ). more n ≡ slot n) first (same 0 (λ e. differ e)))
      (ap (λ (z : Option (ℕ × X)). cond (eqb (slot a) s) (Some (a, x)) z)
      (find_apart slot more change xs (a + 1) i s (subst (λ (n : ℕ). eqb (slot n) s ≡ false) (step i) was)
      (subst (λ (n : ℕ). eqb (more n) s ≡ false) (step i) is)
      (λ g apart. subst (λ (n : ℕ). more n ≡ slot n) (step g) (same (suc g) (λ e. apart (less g e))))))
    where
      first : a + 0 ≡ a
      first = omega arith

      step : (g : ℕ) → a + suc g ≡ a + 1 + g
      step g = omega arith

      differ : 0 ≡ suc i → ⊥
      differ e = omega (arith, e)

      less : (g : ℕ) → suc g ≡ suc i → g ≡ i
      less g e = omega (arith, e)

zero_plus : (k : ℕ) → 0 + k ≡ k
zero_plus k = omega arith

module _ {X : Type 0} where
  -- the same of fields that are numbered from 0
  pub field_at : (slot : ℕ → ℕ) (xs : List X) (i : ℕ) (x : X) → slice_get xs i ≡ Some x
      → ((g : ℕ) (y : X) → slice_get xs g ≡ Some y → slot g ≡ slot i → g ≡ i)
      → find (λ (y : ℕ × X). eqb (slot y.0) (slot i)) (enumerate_from 0 xs) ≡ Some (i, x)
  field_at slot xs i x at alone =
      subst (λ (k : ℕ). find (λ (y : ℕ × X). eqb (slot y.0) (slot k)) (enumerate_from 0 xs) ≡ Some (k, x)) (zero_plus i)
      (find_one slot xs 0 i x at (λ g y there same. alone g y there (sym (ap slot (zero_plus g)) ∙ same ∙ ap slot (zero_plus i))))

  pub field_none : (slot : ℕ → ℕ) (xs : List X) (s : ℕ) → ((g : ℕ) (y : X) → slice_get xs g ≡ Some y → slot g ≡ s → ⊥)
      → find (λ (y : ℕ × X). eqb (slot y.0) s) (enumerate_from 0 xs) ≡ None
  field_none slot xs s free = find_no slot xs 0 s (λ g y there same. free g y there (sym (ap slot (zero_plus g)) ∙ same))

  pub field_apart : (slot more : ℕ → ℕ) (change : X → X) (xs : List X) (i s : ℕ) → eqb (slot i) s ≡ false → eqb (more i) s ≡ false
      → ((g : ℕ) → (g ≡ i → ⊥) → more g ≡ slot g)
      → find (λ (y : ℕ × X). eqb (more y.0) s) (enumerate_from 0 (change_at i change xs)) ≡ find (λ (y : ℕ × X). eqb (slot y.0) s)
      (enumerate_from 0 xs)
  field_apart slot more change xs i s was is same =
      find_apart slot more change xs 0 i s (subst (λ (k : ℕ). eqb (slot k) s ≡ false) (sym (zero_plus i)) was)
      (subst (λ (k : ℕ). eqb (more k) s ≡ false) (sym (zero_plus i)) is)
      (λ g apart. subst (λ (k : ℕ). more k ≡ slot k) (sym (zero_plus g)) (same g apart))
