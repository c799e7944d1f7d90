-- What is found in a list, and among those of it that pass another test.
use Rattle.std.proofs.Common.{◌≡◌, inl, inr, Bool, true, false, cond, List, [], ◌∷◌, filter, Some, None, refl, sym, ap, ◌∙◌}
use Rattle.std.specs.List.{find}
use Rattle.std.proofs.lemmas.Option.{same_Some as some_is}
use Rattle.std.proofs.lemmas.Bool.{true≢false as differ}
use Rattle.base_lemmas.proofs.Bools.{by_answer as pick}
use Rattle.model.specs.Membership.{Has}

module _ {X : Type 0} (f : X → Bool) where
  pub find_has : (xs : List X) (x : X) → find f xs ≡ Some x → Has xs x × (f x ≡ true)
  find_has [] x e = absurd cc
  find_has (y ∷ xs) x e =
      pick (f y) (λ b. f y ≡ b → cond b (Some y) (find f xs) ≡ Some x → Has (y ∷ xs) x × (f x ≡ true))
      (λ _ g h. let same : y ≡ x = some_is y x h in (inl (sym same), ap f (sym same) ∙ g))
      (λ _ _ h. let more = find_has xs x h in (inr more.0, more.1))
      refl e

  pub none_has : (xs : List X) → find f xs ≡ None → (x : X) → Has xs x → f x ≡ false
  none_has [] e x m = absurd m
  none_has (y ∷ xs) e x m =
      pick (f y) (λ b. f y ≡ b → cond b (Some y) (find f xs) ≡ None → f x ≡ false)
      (λ _ _ h. absurd cc)
      (λ _ g h. elim m [ inl same ↦ ap f same ∙ g | inr rest ↦ none_has xs h x rest ])
      refl e

  -- no one passes
  pub find_none : (xs : List X) → ((x : X) → f x ≡ false) → find f xs ≡ None
  find_none [] h = refl
  find_none (x ∷ xs) h = rw (h x) (find_none xs h)

  -- the same by a test that is the same of each
  pub find_same : (g : X → Bool) (xs : List X) → ((x : X) → Has xs x → f x ≡ g x) → find f xs ≡ find g xs
  find_same g [] h = refl
  find_same g (x ∷ xs) h = rw (h x (inl refl), find_same g xs (λ y m. h y (inr m))) refl

  -- none passes both tests
  pub none_passes : (g : X → Bool) (xs : List X) → ((x : X) → Has xs x → f x ≡ true → g x ≡ false) → find f (filter g xs) ≡ None
  none_passes g [] h = refl
  none_passes g (x ∷ xs) h =
      let rest = none_passes g xs (λ y m. h y (inr m)) in
      pick (g x) (λ b. g x ≡ b → find f (cond b (x ∷ filter g xs) (filter g xs)) ≡ None)
      (λ _ passes.
      pick (f x) (λ c. f x ≡ c → cond c (Some x) (find f (filter g xs)) ≡ None)
      (λ _ found. absurd (differ (sym passes ∙ h x (inl refl) found)))
      (λ _ _. rest)
      refl)
      (λ _ _. rest)
      refl

  -- what is found, if it passes the other test too
  pub still_found : (g : X → Bool) (xs : List X) (x : X) → find f xs ≡ Some x → g x ≡ true → find f (filter g xs) ≡ Some x
  still_found g [] x e h = absurd cc
  still_found g (y ∷ xs) x e h =
      pick (f y) (λ c. f y ≡ c → cond c (Some y) (find f xs) ≡ Some x → find f (cond (g y) (y ∷ filter g xs) (filter g xs)) ≡ Some x)
      (λ _ found here.
      let same : y ≡ x = some_is y x here in
      let passes : g y ≡ true = ap g same ∙ h in
      rw (passes, found) here)
      (λ _ lost rest.
      pick (g y) (λ b. find f (cond b (y ∷ filter g xs) (filter g xs)) ≡ Some x)
      (λ _. rw lost (still_found g xs x rest h))
      (λ _. still_found g xs x rest h))
      refl e
