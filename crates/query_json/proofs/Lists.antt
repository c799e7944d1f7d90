-- What is in a list, and what a filter and a map make of it.
use Rattle.std.proofs.Common.{◌≡◌, Bool, true, false, cond, List, [], ◌∷◌, map, filter, refl, sym, ap, subst, ◌∙◌, inl, inr}
use Rattle.std.specs.List.{AllByRecursion}
use Rattle.model.specs.Membership.{Has}

module _ {A : Type 0} where
  pub all_at : (P : A → Type 0) (xs : List A) → AllByRecursion P xs → (x : A) → Has xs x → P x
  all_at P [] all x m = absurd m
  all_at P (y ∷ ys) all x (inl e) = subst P (sym e) all.0
  all_at P (y ∷ ys) all x (inr m) = all_at P ys all.1 x m

  pub kept_from : (p : A → Bool) (xs : List A) (y : A) → Has (filter p xs) y → Has xs y × (p y ≡ true)
  kept_from p [] y m = absurd m
  kept_from p (x ∷ xs) y m = by (p x) refl m (kept_from p xs y)
    where
      by : (b : Bool) → p x ≡ b → Has (cond b (x ∷ filter p xs) (filter p xs)) y → (Has (filter p xs) y → Has xs y × (p y ≡ true)) → Has (x ∷ xs) y × (p y ≡ true)
      by true t (inl e) more = (inl e, ap p e ∙ t)
      by true t (inr h) more = (inr (more h).0, (more h).1)
      by false t h more = (inr (more h).0, (more h).1)

  pub same_map : {B : Type 0} (f g : A → B) (xs : List A) → ((x : A) → Has xs x → f x ≡ g x) → map f xs ≡ map g xs
  same_map f g [] h = refl
  same_map f g (x ∷ xs) h = ap (λ y. y ∷ map f xs) (h x (inl refl)) ∙ ap (λ ys. g x ∷ ys) (same_map f g xs (λ y m. h y (inr m)))
