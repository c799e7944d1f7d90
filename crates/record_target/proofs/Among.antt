-- Members of lists, and lists in an order, where some are left out.
use Rattle.std.proofs.Common.{◌≡◌, ◌∙◌, Bool, true, false, cond, T, List, [], ◌∷◌, map, filter, refl, ap, sym, subst, inl, inr, is_lt, Less, Ordering}
use Rattle.std.specs.FinMap.{is_sorted}
use Rattle.std.specs.FinMap.Entries.{below_all}
use Rattle.std.specs.List.{AllByRecursion}
use Rattle.base_lemmas.proofs.Bools.{T-and_first as t_left, T-and_second as t_right, T-and_from as t_both, by_answer as pick}
use Rattle.base_lemmas.proofs.Orders.{less_from_T as is_less}
use Rattle.model.specs.Membership.{Has}

-- ---- members

pub all_at : {A : Type 0} (P : A → Type 0) (x : A) (xs : List A) → AllByRecursion P xs → Has xs x → P x
all_at P x [] a m = absurd m
all_at P x (y ∷ xs) a (inl e) = subst P (sym e) a.0
all_at P x (y ∷ xs) a (inr m) = all_at P x xs a.1 m

pub all_from : {A : Type 0} (P : A → Type 0) (xs : List A) → ((x : A) → Has xs x → P x) → AllByRecursion P xs
all_from P [] h = tt
all_from P (x ∷ xs) h = (h x (inl refl), all_from P xs (λ y m. h y (inr m)))

pub among_kept : {A : Type 0} (p : A → Bool) (xs : List A) (y : A) → Has (filter p xs) y → Has xs y × (p y ≡ true)
among_kept p [] y m = absurd m
among_kept {A = A} p (x ∷ xs) y m = by (p x) refl m (among_kept p xs y)
  where
    by : (b : Bool) → p x ≡ b → Has (cond b (x ∷ filter p xs) (filter p xs)) y → (Has (filter p xs) y → Has xs y × (p y ≡ true)) → Has (x ∷ xs) y × (p y ≡ true)
    by true t (inl e) more = (inl e, ap p e ∙ t)
    by true t (inr a) more = (inr (more a).0, (more a).1)
    by false t a more = (inr (more a).0, (more a).1)

pub kept_among : {A : Type 0} (p : A → Bool) (xs : List A) (y : A) → Has xs y → p y ≡ true → Has (filter p xs) y
kept_among p [] y m t = absurd m
kept_among p (x ∷ xs) y (inl e) t = let u : p x ≡ true = ap p (sym e) ∙ t in rw u (inl e)
kept_among p (x ∷ xs) y (inr a) t = let h = kept_among p xs y a t in pick (p x) (λ b. Has (cond b (x ∷ filter p xs) (filter p xs)) y) (λ _. inr h) (λ _. h)

-- ---- in an order

module _ {A : Type 0} (R : A → A → Ordering) where
  abbrev pub below : A → List A → Bool
  below k xs = below_all R k (map (λ x. (x, x)) xs)

  abbrev pub rises : List A → Bool
  rises xs = is_sorted R (map (λ x. (x, x)) xs)

  below_kept : (k : A) (p : A → Bool) (xs : List A) → T (below k xs) → T (below k (filter p xs))
  below_kept k p [] h = tt
  below_kept k p (x ∷ xs) h =
      let rest = below_kept k p xs (t_right (is_lt (R k x)) (below k xs) h) in
      pick (p x) (λ b. T (below k (cond b (x ∷ filter p xs) (filter p xs)))) (λ _. t_both (is_lt (R k x)) (below k (filter p xs)) (t_left (is_lt (R k x)) (below k xs) h) rest) (λ _. rest)

  pub rise_kept : (p : A → Bool) (xs : List A) → T (rises xs) → T (rises (filter p xs))
  rise_kept p [] h = tt
  rise_kept p (x ∷ xs) h =
      let rest = rise_kept p xs (t_right (below x xs) (rises xs) h) in
      let low = below_kept x p xs (t_left (below x xs) (rises xs) h) in
      pick (p x) (λ b. T (rises (cond b (x ∷ filter p xs) (filter p xs)))) (λ _. t_both (below x (filter p xs)) (rises (filter p xs)) low rest) (λ _. rest)

  pub below_at : (k : A) (xs : List A) → T (below k xs) → (y : A) → Has xs y → R k y ≡ Less
  below_at k [] h y m = absurd m
  below_at k (x ∷ xs) h y (inl e) = ap (λ z. R k z) e ∙ is_less (R k x) (t_left (is_lt (R k x)) (below k xs) h)
  below_at k (x ∷ xs) h y (inr m) = below_at k xs (t_right (is_lt (R k x)) (below k xs) h) y m
