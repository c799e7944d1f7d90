-- Lists whose keys strictly rise: what stays where one is added, changed or taken away.
use Rattle.std.proofs.Common.{◌≡◌, Bool, true, false, cond, T, List, [], ◌∷◌, ◌++◌, map, filter, refl, ap, sym, subst, ◌∙◌, inl, inr, is_lt, Less, Equal, Greater, Ordering}
use Rattle.std.specs.List.{AllByRecursion}
use Rattle.std.specs.FinMap.{is_sorted}
use Rattle.std.specs.FinMap.Entries.{below_all}
use Rattle.std.specs.Cmp.{IsTotalOrder}
use Rattle.std.specs.Ordering.{ordering_reverse}
use Rattle.base_lemmas.proofs.Bools.{T-and_first as t_left, T-and_second as t_right, T-and_from as t_both, by_answer as pick}
use Rattle.base_lemmas.proofs.Orders.{less_from_T as is_less}
use Rattle.model.specs.Membership.{Has}
use Rattle.model.specs.Ordered.{put_in}

module _ {A K : Type 0} (R : K → K → Ordering) (key : A → K) where
  abbrev below : K → List A → Bool
  below k xs = below_all R k (map (λ x. (key x, x)) xs)

  abbrev pub rises : List A → Bool
  rises xs = is_sorted R (map (λ x. (key x, x)) xs)

  below_kept : (k : K) (p : A → Bool) (xs : List A) → T (below k xs) → T (below k (filter p xs))
  below_kept k p [] h = tt
  below_kept k p (x ∷ xs) h =
      let rest = below_kept k p xs (t_right (is_lt (R k (key x))) (below k xs) h) in
      pick (p x) (λ b. T (below k (cond b (x ∷ filter p xs) (filter p xs)))) (λ _. t_both (is_lt (R k (key x))) (below k (filter p xs)) (t_left (is_lt (R k (key x))) (below k xs) h) rest) (λ _. rest)

  pub rise_kept : (p : A → Bool) (xs : List A) → T (rises xs) → T (rises (filter p xs))
  rise_kept p [] h = tt
  rise_kept p (x ∷ xs) h =
      let rest = rise_kept p xs (t_right (below (key x) xs) (rises xs) h) in
      let low = below_kept (key x) p xs (t_left (below (key x) xs) (rises xs) h) in
      pick (p x) (λ b. T (rises (cond b (x ∷ filter p xs) (filter p xs)))) (λ _. t_both (below (key x) (filter p xs)) (rises (filter p xs)) low rest) (λ _. rest)

  module _ (f : A → A) (same : (x : A) → key (f x) ≡ key x) where
    below_map : (k : K) (xs : List A) → below k (map f xs) ≡ below k xs
    below_map k [] = refl
    below_map k (x ∷ xs) = rw (same x, below_map k xs) refl

    rise_map_is : (xs : List A) → rises (map f xs) ≡ rises xs
    rise_map_is [] = refl
    rise_map_is (x ∷ xs) = rw (same x, below_map (key x) xs, rise_map_is xs) refl

    pub rise_map : (xs : List A) → T (rises xs) → T (rises (map f xs))
    rise_map xs h = subst (λ b. T b) (sym (rise_map_is xs)) h

  below_last : (k : K) (xs : List A) (x : A) → T (below k xs) → R k (key x) ≡ Less → T (below k (xs ++ x ∷ []))
  below_last k [] x h l = t_both (is_lt (R k (key x))) true (subst (λ o. T (is_lt o)) (sym l) tt) tt
  below_last k (y ∷ xs) x h l = t_both (is_lt (R k (key y))) (below k (xs ++ x ∷ [])) (t_left (is_lt (R k (key y))) (below k xs) h) (below_last k xs x (t_right (is_lt (R k (key y))) (below k xs) h) l)

  pub rise_last : (xs : List A) (x : A) → T (rises xs) → AllByRecursion (λ y. R (key y) (key x) ≡ Less) xs → T (rises (xs ++ x ∷ []))
  rise_last [] x h a = tt
  rise_last (y ∷ xs) x h a =
      t_both (below (key y) (xs ++ x ∷ [])) (rises (xs ++ x ∷ [])) (below_last (key y) xs x (t_left (below (key y) xs) (rises xs) h) a.0) (rise_last xs x (t_right (below (key y) xs) (rises xs) h) a.1)

  module _ (total : IsTotalOrder R) where
    below_less : (j k : K) (xs : List A) → R j k ≡ Less → T (below k xs) → T (below j xs)
    below_less j k [] l h = tt
    below_less j k (x ∷ xs) l h =
        let m : R j (key x) ≡ Less = total.trans j k (key x) l (is_less (R k (key x)) (t_left (is_lt (R k (key x))) (below k xs) h)) in
        t_both (is_lt (R j (key x))) (below j xs) (subst (λ o. T (is_lt o)) (sym m) tt) (below_less j k xs l (t_right (is_lt (R k (key x))) (below k xs) h))

    module _ (order : A → A → Ordering) (by_key : (x y : A) → order x y ≡ R (key x) (key y)) where
      below_put : (k : K) (x : A) (xs : List A) → R k (key x) ≡ Less → T (below k xs) → T (below k (put_in order x xs))
      below_put k x [] l h = t_both (is_lt (R k (key x))) true (subst (λ o. T (is_lt o)) (sym l) tt) tt
      below_put k x (y ∷ xs) l h =
          let low = t_left (is_lt (R k (key y))) (below k xs) h in
          pick (is_lt (order x y)) (λ b. T (below k (cond b (x ∷ y ∷ xs) (y ∷ put_in order x xs))))
          (λ _. t_both (is_lt (R k (key x))) (below k (y ∷ xs)) (subst (λ o. T (is_lt o)) (sym l) tt) h)
          (λ _. t_both (is_lt (R k (key y))) (below k (put_in order x xs)) low (below_put k x xs l (t_right (is_lt (R k (key y))) (below k xs) h)))

      other_way : (x y : A) → is_lt (order x y) ≡ false → (R (key x) (key y) ≡ Equal → ⊥) → R (key y) (key x) ≡ Less
      other_way x y t not_same = by (R (key x) (key y)) refl
        where
          by : (o : Ordering) → R (key x) (key y) ≡ o → R (key y) (key x) ≡ Less
          by Less e = absurd (bad (sym t ∙ ap is_lt (by_key x y ∙ e)))
            where
              bad : false ≡ true → ⊥
              bad e = cc
          by Equal e = absurd (not_same e)
          by Greater e = total.antisymm (key y) (key x) ∙ ap ordering_reverse e

      pub rise_put : (x : A) (xs : List A) → T (rises xs) → AllByRecursion (λ y. R (key x) (key y) ≡ Equal → ⊥) xs → T (rises (put_in order x xs))
      rise_put x [] h a = tt
      rise_put x (y ∷ xs) h a =
          let low = t_left (below (key y) xs) (rises xs) h in
          let rest = t_right (below (key y) xs) (rises xs) h in
          let more = rise_put x xs rest a.1 in
          pick (is_lt (order x y)) (λ b. T (rises (cond b (x ∷ y ∷ xs) (y ∷ put_in order x xs))))
          (λ t.
          let l : R (key x) (key y) ≡ Less = less_is (order x y) t (by_key x y) in
          t_both (below (key x) (y ∷ xs)) (rises (y ∷ xs)) (t_both (is_lt (R (key x) (key y))) (below (key x) xs) (subst (λ o. T (is_lt o)) (sym l) tt) (below_less (key x) (key y) xs l low)) h)
          (λ t. t_both (below (key y) (put_in order x xs)) (rises (put_in order x xs)) (below_put (key y) x xs (other_way x y t a.0) low) more)
        where
          less_is : (o : Ordering) → is_lt o ≡ true → o ≡ R (key x) (key y) → R (key x) (key y) ≡ Less
          less_is Less t e = sym e
          less_is Equal t e = absurd cc
          less_is Greater t e = absurd cc

-- the first stands below all others
pub below_at : {A K : Type 0} (R : K → K → Ordering) (key : A → K) (k : K) (xs : List A) → T (below_all R k (map (λ x. (key x, x)) xs)) → (y : A) → Has xs y → R k (key y) ≡ Less
below_at R key k [] h y m = absurd m
below_at R key k (x ∷ xs) h y (inl e) = ap (λ z. R k (key z)) e ∙ is_less (R k (key x)) (t_left (is_lt (R k (key x))) (below_all R k (map (λ x. (key x, x)) xs)) h)
below_at R key k (x ∷ xs) h y (inr m) = below_at R key k xs (t_right (is_lt (R k (key x))) (below_all R k (map (λ x. (key x, x)) xs)) h) y m

pub rise_first : {A K : Type 0} (R : K → K → Ordering) (key : A → K) (x : A) (xs : List A) → T (is_sorted R (map (λ x. (key x, x)) (x ∷ xs))) → (y : A) → Has xs y → R (key x) (key y) ≡ Less
rise_first R key x xs h y m = below_at R key (key x) xs (t_left (below_all R (key x) (map (λ x. (key x, x)) xs)) (is_sorted R (map (λ x. (key x, x)) xs)) h) y m

pub rise_rest : {A K : Type 0} (R : K → K → Ordering) (key : A → K) (x : A) (xs : List A) → T (is_sorted R (map (λ x. (key x, x)) (x ∷ xs))) → T (is_sorted R (map (λ x. (key x, x)) xs))
rise_rest R key x xs h = t_right (below_all R (key x) (map (λ x. (key x, x)) xs)) (is_sorted R (map (λ x. (key x, x)) xs)) h
