-- Fronts of lists that pass a test.
use Rattle.std.proofs.Common.{◌≡◌, ℕ, ◌+◌, Bool, true, false, cond, List, [], ◌∷◌, ◌++◌, take, drop, refl, sym, ap, subst, ap₂, ◌⊎◌, inl, inr, one-add as plus_one}
use Rattle.std.specs.List.{prefix_len}
use Rattle.base_grammar.specs.Tokens.{Passes}

-- the first character, if there is one, doesn't pass
abbrev pub Fails : (ℕ → Bool) → List ℕ → Type 0
Fails p [] = Unit {0}
Fails p (c ∷ cs) = p c ≡ false

pub passes_front : (p : ℕ → Bool) (xs ys : List ℕ) → Passes p (xs ++ ys) → Passes p xs × Passes p ys
passes_front p [] ys h = (tt, h)
passes_front p (x ∷ xs) ys h = let r = passes_front p xs ys h.1 in ((h.0, r.0), r.1)

-- what passes doesn't go on where the test fails
pub no_more : (p : ℕ → Bool) (w rest more after : List ℕ) → Fails p rest → rest ≡ more ++ after → Passes p (w ++ more) → more ≡ []
no_more p w rest [] after f e h = refl
no_more p w rest (d ∷ more) after f e h =
    let g = passes_front p w (d ∷ more) h in
    let P : List ℕ → Type 0 = λ z. Fails p z in
    let k : p d ≡ false = subst P e f in
    let y = g.1.0 in absurd (cc)

pub passes_prefix : (p : ℕ → Bool) (xs : List ℕ) → Passes p (take (prefix_len p xs) xs)
passes_prefix p [] = tt
passes_prefix p (x ∷ xs) = go (p x) refl (passes_prefix p xs)
  where
    go : (b : Bool) → p x ≡ b → Passes p (take (prefix_len p xs) xs) → Passes p (take (cond b (1 + prefix_len p xs) 0) (x ∷ xs))
    go true e h = rw (plus_one (prefix_len p xs)) (e, h)
    go false e h = tt

pub fails_behind : (p : ℕ → Bool) (xs : List ℕ) → Fails p (drop (prefix_len p xs) xs)
fails_behind p [] = tt
fails_behind p (x ∷ xs) = go (p x) refl (fails_behind p xs)
  where
    go : (b : Bool) → p x ≡ b → Fails p (drop (prefix_len p xs) xs) → Fails p (drop (cond b (1 + prefix_len p xs) 0) (x ∷ xs))
    go true e h = rw (plus_one (prefix_len p xs)) h
    go false e h = e

-- two fronts of one list: one goes on with the other
pub levi : (x r y s : List ℕ) → x ++ r ≡ y ++ s → ((m : List ℕ) × (y ≡ x ++ m) × (r ≡ m ++ s)) ⊎ ((m : List ℕ) × (x ≡ y ++ m) × (s ≡ m ++ r))
levi [] r y s e = inl (y, refl, e)
levi (a ∷ x) r [] s e = inr (a ∷ x, refl, sym e)
levi (a ∷ x) r (b ∷ y) s e = go (levi x r y s (ap tail e)) (ap head e)
  where
    tail : List ℕ → List ℕ
    tail [] = []
    tail (c ∷ cs) = cs

    head : List ℕ → ℕ
    head [] = a
    head (c ∷ cs) = c

    go : ((m : List ℕ) × (y ≡ x ++ m) × (r ≡ m ++ s)) ⊎ ((m : List ℕ) × (x ≡ y ++ m) × (s ≡ m ++ r)) → a ≡ b
        → ((m : List ℕ) × (b ∷ y ≡ (a ∷ x) ++ m) × (r ≡ m ++ s)) ⊎ ((m : List ℕ) × (a ∷ x ≡ (b ∷ y) ++ m) × (s ≡ m ++ r))
    go (inl h) q = inl (h.0, ap₂ (λ c cs. c ∷ cs) (sym q) h.1, h.2)
    go (inr h) q = inr (h.0, ap₂ (λ c cs. c ∷ cs) q h.1, h.2)
