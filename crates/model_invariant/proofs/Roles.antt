-- Another parent of one thing, above which the thing doesn't stand, makes no cycle.
use Rattle.std.proofs.Common.{◌≡◌, ℕ, Bool, true, false, cond, List, [], ◌∷◌, ◌++◌, map, Option, Some, None, refl, ap, sym, subst, ◌∙◌, ◌⊎◌, inl, inr, bytes_eq, option_map}
use Rattle.std.specs.Option.{unwrap_or}
use Rattle.std.proofs.lemmas.Option.{same_Some as some_is}
use Rattle.base_lemmas.proofs.Bools.{by_answer as pick}
use Rattle.base_lemmas.proofs.Texts.{same_from_bytes_eq as same_exact}
use Rattle.model.specs.Membership.{Below, Has, more_steps, one_step}
use Rattle.model.specs.World.{having_id}

abbrev Up : Type 0
Up = List ℕ → Option (List ℕ)

module _ (up : Up) where
  then_on : (b c a : List ℕ) → Below up a b → Below up b c → Below up a c
  then_on b c a (one_step e) r = more_steps e r
  then_on b c a (more_steps {c = q} e h) r = more_steps e (then_on b c q h r)

  -- the last step
  pub from_some : (b a : List ℕ) → Below up a b → (c : List ℕ) × (up c ≡ Some b)
  from_some b a (one_step e) = (a, e)
  from_some b a (more_steps {c = q} e h) = from_some b q h

  module _ (more : Up) (x : List ℕ) (new : Option (List ℕ)) (changed : (a : List ℕ) → (more a ≡ up a) ⊎ ((a ≡ x) × (more a ≡ new)))
      (good : (p : List ℕ) → new ≡ Some p → (p ≡ x → ⊥) × (Below up p x → ⊥)) where
    -- the way uses the new step once
    abbrev Uses : List ℕ → List ℕ → Type 0
    Uses a b = (p : List ℕ) × (new ≡ Some p) × ((a ≡ x) ⊎ Below up a x) × ((p ≡ b) ⊎ Below up p b)

    ways : (b a : List ℕ) → Below more a b → Below up a b ⊎ Uses a b
    ways b a (one_step e) =
        elim (changed a) [
          | inl same ↦ inl (one_step (sym same ∙ e))
          | inr c ↦ inr (b, sym c.1 ∙ e, inl c.0, inl refl)
        ]
    ways b a (more_steps {c = q} m h) = by (ways b q h) (changed a) m
      where
        by : Below up q b ⊎ Uses q b → (more a ≡ up a) ⊎ ((a ≡ x) × (more a ≡ new)) → more a ≡ Some q → Below up a b ⊎ Uses a b
        by (inl r) (inl same) e = inl (more_steps (sym same ∙ e) r)
        by (inr u) (inl same) e = inr (u.0, u.1, inr (elim u.2 [ inl z ↦ one_step (sym same ∙ e ∙ ap (λ (w : List ℕ). Some w) z) | inr z ↦ more_steps (sym same ∙ e) z ]), u.3)
        by (inl r) (inr c) e = inr (q, sym c.1 ∙ e, inl c.0, inr r)
        by (inr u) (inr c) e =
            let same : q ≡ u.0 = some_is q u.0 (sym e ∙ c.1 ∙ u.1) in
            let g = good u.0 u.1 in
            absurd (elim u.2 [ inl z ↦ g.0 (sym same ∙ z) | inr z ↦ g.1 (subst (λ (w : List ℕ). Below up w x) same z) ])

    pub still_no_cycle : ((a : List ℕ) → Below up a a → ⊥) → (a : List ℕ) → Below more a a → ⊥
    still_no_cycle none a h = by (ways a a h)
      where
        by : Below up a a ⊎ Uses a a → ⊥
        by (inl r) = none a r
        by (inr u) =
            let g = good u.0 u.1 in
            elim u.3 [
              | inl z ↦ elim u.2 [ inl y ↦ g.0 (z ∙ y) | inr y ↦ g.1 (subst (λ (w : List ℕ). Below up w x) (sym z) y) ]
              | inr z ↦ elim u.2 [ inl y ↦ g.1 (subst (λ (w : List ℕ). Below up u.0 w) y z) | inr y ↦ g.1 (then_on a x u.0 z y) ]
            ]

-- ---- the parents of roles
module _ {A : Type 0} (id : A → List ℕ) where
  -- one more at the end
  pub found_last : (xs : List A) (x : A) (i : List ℕ) → (having_id id (xs ++ x ∷ []) i ≡ having_id id xs i) ⊎ ((i ≡ id x) × (having_id id (xs ++ x ∷ []) i ≡ Some x))
  found_last [] x i = by (bytes_eq i (id x)) refl
    where
      by : (b : Bool) → bytes_eq i (id x) ≡ b → (cond b (Some x) None ≡ None) ⊎ ((i ≡ id x) × (cond b (Some x) None ≡ Some x))
      by true t = inr (same_exact i (id x) t, refl)
      by false t = inl refl
  found_last (y ∷ xs) x i = by (bytes_eq i (id y)) (found_last xs x i)
    where
      by : (b : Bool) → (having_id id (xs ++ x ∷ []) i ≡ having_id id xs i) ⊎ ((i ≡ id x) × (having_id id (xs ++ x ∷ []) i ≡ Some x))
          → (cond b (Some y) (having_id id (xs ++ x ∷ []) i) ≡ cond b (Some y) (having_id id xs i)) ⊎ ((i ≡ id x) × (cond b (Some y) (having_id id (xs ++ x ∷ []) i) ≡ Some x))
      by true h = inl refl
      by false h = h

  pub found_id : (xs : List A) (i : List ℕ) (x : A) → having_id id xs i ≡ Some x → i ≡ id x
  found_id [] i x e = absurd cc
  found_id (y ∷ xs) i x e = by (bytes_eq i (id y)) refl e (found_id xs i x)
    where
      by : (b : Bool) → bytes_eq i (id y) ≡ b → cond b (Some y) (having_id id xs i) ≡ Some x → (having_id id xs i ≡ Some x → i ≡ id x) → i ≡ id x
      by true t e more = same_exact i (id y) t ∙ ap (λ o. unwrap_or (option_map id o) []) e
      by false t e more = more e

  -- what is found is in the list
  pub found_at : (xs : List A) (i : List ℕ) (x : A) → having_id id xs i ≡ Some x → Has xs x × (i ≡ id x)
  found_at [] i x e = absurd cc
  found_at (y ∷ xs) i x e = by (bytes_eq i (id y)) refl e (found_at xs i x)
    where
      out : (z : A) → Some z ≡ Some x → x ≡ z
      out z e = sym (ap (λ o. unwrap_or o z) e)

      by : (b : Bool) → bytes_eq i (id y) ≡ b → cond b (Some y) (having_id id xs i) ≡ Some x → (having_id id xs i ≡ Some x → Has xs x × (i ≡ id x)) → Has (y ∷ xs) x × (i ≡ id x)
      by true t e more = (inl (out y e), same_exact i (id y) t ∙ ap id (sym (out y e)))
      by false t e more = let m = more e in (inr m.0, m.1)

  module _ (f : A → A) (same : (x : A) → id (f x) ≡ id x) where
    pub found_map : (xs : List A) (i : List ℕ) → having_id id (map f xs) i ≡ option_map f (having_id id xs i)
    found_map [] i = refl
    found_map (x ∷ xs) i =
        let e : bytes_eq i (id (f x)) ≡ bytes_eq i (id x) = ap (bytes_eq i) (same x) in
        rw e (pick (bytes_eq i (id x)) (λ b. cond b (Some (f x)) (having_id id (map f xs) i) ≡ option_map f (cond b (Some x) (having_id id xs i))) (λ _. refl) (λ _. found_map xs i))
