-- What leads on to something, step by step and perhaps in circles, is found by a search as deep as there are things that lead on.
use Rattle.std.proofs.Common.{◌≡◌, ℕ, zero, suc, ◌<◌, ◌≤◌, Bool, true, false, ◌||◌, cond, List, [], ◌∷◌, length, refl, ap, sym, subst, ◌∙◌, arith, ◌⊎◌, inl, inr}
use Rattle.std.specs.List.{list_any}
use Rattle.std.proofs.lemmas.Bool.{or_left, or_right, or_cases}
use Rattle.base_lemmas.proofs.Bools.{by_answer as pick}
use Rattle.model.specs.Membership.{Has}

pub any_among : {A : Type 0} (f : A → Bool) (x : A) (xs : List A) → Has xs x → f x ≡ true → list_any f xs ≡ true
any_among f x [] a h = absurd a
any_among f x (y ∷ xs) (inl e) h = or_left (f y) (list_any f xs) (ap f (sym e) ∙ h)
any_among f x (y ∷ xs) (inr a) h = or_right (f y) (list_any f xs) (any_among f x xs a h)

pub among_any : {A : Type 0} (f : A → Bool) (xs : List A) → list_any f xs ≡ true → (x : A) × Has xs x × (f x ≡ true)
among_any f [] e = absurd cc
among_any f (x ∷ xs) e =
    elim (or_cases (f x) (list_any f xs) e) [
      | inl h ↦ (x, inl refl, h)
      | inr h ↦ let r = among_any f xs h in (r.0, inr r.1, r.2)
    ]

none_among : {A : Type 0} (x : A) (xs : List A) → Has xs x → length xs ≤ 0 → ⊥
none_among x [] a h = absurd a
none_among x (y ∷ xs) (inl e) h = absurd (omega arith)
none_among x (y ∷ xs) (inr a) h = absurd (omega arith)

module _ (G : Type 0) (direct : G → Bool) (next : G → List G) where
  -- the least relation: a thing leads there at once, or by one of those that come next
  pub data Leads : G → Type 0 where
    at_once : {p : G} → direct p ≡ true → Leads p
    onward : {p q : G} → Has (next p) q → Leads q → Leads p

  -- the search, so many steps deep
  abbrev pub within : ℕ → G → Bool
  within zero p = direct p
  within (suc n) p = direct p || list_any (within n) (next p)

  pub within_sound : (n : ℕ) (p : G) → within n p ≡ true → Leads p
  within_sound zero p e = at_once e
  within_sound (suc n) p e =
      elim (or_cases (direct p) (list_any (within n) (next p)) e) [
        | inl h ↦ at_once h
        | inr h ↦ let r = among_any (within n) (next p) h in onward r.1 (within_sound n r.0 r.2)
      ]

-- things can be told apart
module _ (G : Type 0) (direct : G → Bool) (next : G → List G)
    (same : G → G → Bool) (exact : (x y : G) → same x y ≡ true → x ≡ y) (itself : (x : G) → same x x ≡ true) where
  -- the same, through things of a list alone
  data Through (left : List G) : G → Type 0 where
    ends : {p : G} → direct p ≡ true → Through left p
    goes : {p q : G} → Has left p → Has (next p) q → Through left q → Through left p

  without : G → List G → List G
  without p [] = []
  without p (x ∷ xs) = cond (same p x) (without p xs) (x ∷ without p xs)

  without_le : (p : G) (xs : List G) → length (without p xs) ≤ length xs
  unfolding without
  without_le p [] = omega arith
  without_le p (x ∷ xs) =
      let h = without_le p xs in
      pick (same p x) (λ b. length (cond b (without p xs) (x ∷ without p xs)) ≤ suc (length xs)) (λ _. omega arith) (λ _. omega arith)

  without_lt : (p : G) (xs : List G) → Has xs p → length (without p xs) < length xs
  unfolding without
  without_lt p [] a = absurd a
  without_lt p (y ∷ xs) (inl e) = let h = without_le p xs in let t : same p y ≡ true = ap (same p) (sym e) ∙ itself p in rw t (omega arith)
  without_lt p (x ∷ xs) (inr a) =
      let h = without_lt p xs a in
      pick (same p x) (λ b. length (cond b (without p xs) (x ∷ without p xs)) < suc (length xs)) (λ _. omega arith) (λ _. omega arith)

  still : (p q : G) (xs : List G) → Has xs q → same p q ≡ false → Has (without p xs) q
  unfolding without
  still p q [] a e = absurd a
  still p q (y ∷ xs) (inl k) e = let t : same p y ≡ false = ap (same p) (sym k) ∙ e in rw t (inl k)
  still p q (x ∷ xs) (inr a) e =
      let h = still p q xs a e in
      pick (same p x) (λ b. Has (cond b (without p xs) (x ∷ without p xs)) q) (λ _. h) (λ _. inr h)

  -- past the last visit of p
  last : (p : G) (left : List G) (q : G) → Through left q
      → Through (without p left) q ⊎ ((r : G) × Has (next p) r × Through (without p left) r)
  last p left q (ends e) = inl (ends e)
  last p left q (goes {q = s} a b t) =
      elim (last p left s t) [
        | inr r ↦ inr r
        | inl u ↦ pick (same p q) (λ _. Through (without p left) q ⊎ ((r : G) × Has (next p) r × Through (without p left) r))
            (λ e. inr (s, subst (λ (x : G). Has (next x) s) (sym (exact p q e)) b, u))
            (λ e. inl (goes (still p q left a e) b u))
      ]

  through_within : (n : ℕ) (left : List G) (p : G) → length left ≤ n → Through left p → within G direct next n p ≡ true
  through_within zero left p h (ends e) = e
  through_within (suc n) left p h (ends e) = or_left (direct p) (list_any (within G direct next n) (next p)) e
  through_within zero left p h (goes a b t) = absurd (none_among p left a h)
  through_within (suc n) left p h (goes {q = q} a b t) =
      let small : length (without p left) ≤ n = let k = without_lt p left a in omega arith in
      or_right (direct p) (list_any (within G direct next n) (next p)) (
      elim (last p left q t) [
        | inl u ↦ any_among (within G direct next n) q (next p) b (through_within n (without p left) q small u)
        | inr r ↦ any_among (within G direct next n) r.0 (next p) r.1 (through_within n (without p left) r.0 small r.2)
      ])

  as_through : (all : List G) → ((p q : G) → Has (next p) q → Has all p) → (p : G) → Leads G direct next p → Through all p
  as_through all from p (at_once e) = ends e
  as_through all from p (onward {q = q} a r) = goes (from p q a) a (as_through all from q r)

  -- if each thing that leads on is in a list, its length is depth enough
  pub within_complete : (all : List G) → ((p q : G) → Has (next p) q → Has all p) → (p : G)
      → Leads G direct next p → within G direct next (length all) p ≡ true
  within_complete all from p r = through_within (length all) all p (omega arith) (as_through all from p r)
