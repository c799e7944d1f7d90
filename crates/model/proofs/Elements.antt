-- What is in a list, and what a filter, a map and a search make of it.
use Rattle.std.proofs.Common.{◌≡◌, Bool, true, false, cond, List, [], ◌∷◌, ◌++◌, filter, Some, refl, sym, ap, subst, ◌∙◌, ◌⊎◌, inl, inr}
use Rattle.std.specs.List.{AllByRecursion, find, list_all}
use Rattle.std.proofs.lemmas.Option.{same_Some as some_is}
use Rattle.base_lemmas.proofs.Bools.{and_first as left, and_second as right}
use Rattle.model.specs.Membership.{Has}

module _ {A : Type 0} where
  pub all_at : (P : A → Type 0) (xs : List A) → AllByRecursion P xs → (x : A) → Has xs x → P x
  all_at P [] all x m = absurd m
  all_at P (y ∷ ys) all x (inl e) = subst P (sym e) all.0
  all_at P (y ∷ ys) all x (inr m) = all_at P ys all.1 x m

  pub each_holds : (p : A → Bool) (xs : List A) → list_all p xs ≡ true → (x : A) → Has xs x → p x ≡ true
  each_holds p [] h x m = absurd m
  each_holds p (y ∷ ys) h x (inl e) = ap p e ∙ left (p y) (list_all p ys) h
  each_holds p (y ∷ ys) h x (inr m) = each_holds p ys (right (p y) (list_all p ys) h) x m

  pub kept_from : (p : A → Bool) (xs : List A) (y : A) → Has (filter p xs) y → Has xs y × (p y ≡ true)
  kept_from p [] y m = absurd m
  kept_from p (x ∷ xs) y m = by (p x) refl m (kept_from p xs y)
    where
      by : (b : Bool) → p x ≡ b → Has (cond b (x ∷ filter p xs) (filter p xs)) y → (Has (filter p xs) y → Has xs y × (p y ≡ true)) → Has (x ∷ xs) y × (p y ≡ true)
      by true t (inl e) more = (inl e, ap p e ∙ t)
      by true t (inr h) more = (inr (more h).0, (more h).1)
      by false t h more = (inr (more h).0, (more h).1)

  pub all_stay : (p : A → Bool) (xs : List A) → ((x : A) → Has xs x → p x ≡ true) → filter p xs ≡ xs
  all_stay p [] h = refl
  all_stay p (x ∷ xs) h = ap (λ b. cond b (x ∷ filter p xs) (filter p xs)) (h x (inl refl)) ∙ ap (λ ys. x ∷ ys) (all_stay p xs (λ y m. h y (inr m)))

  pub in_either : (xs ys : List A) (z : A) → Has (xs ++ ys) z → Has xs z ⊎ Has ys z
  in_either [] ys z m = inr m
  in_either (x ∷ xs) ys z (inl e) = inl (inl e)
  in_either (x ∷ xs) ys z (inr m) = elim (in_either xs ys z m) [ inl h ↦ inl (inr h) | inr h ↦ inr h ]

  pub found_in : (p : A → Bool) (xs : List A) (x : A) → find p xs ≡ Some x → Has xs x × (p x ≡ true)
  found_in p [] x e = absurd cc
  found_in p (z ∷ xs) x e = by (p z) refl e (found_in p xs x)
    where
      by : (b : Bool) → p z ≡ b → cond b (Some z) (find p xs) ≡ Some x → (find p xs ≡ Some x → Has xs x × (p x ≡ true)) → Has (z ∷ xs) x × (p x ≡ true)
      by true t w more = let same = some_is z x w in (inl (sym same), ap p (sym same) ∙ t)
      by false t w more = (inr (more w).0, (more w).1)
