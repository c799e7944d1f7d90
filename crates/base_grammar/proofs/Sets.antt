-- Sets of kinds, as lists
use Rattle.std.proofs.Common.{◌≡◌, ℕ, Bool, true, false, not, ◌&&◌, ◌||◌, ◌==◌, List, [], ◌∷◌, ◌++◌, refl, subst, eqb-true}
use Rattle.std.proofs.lemmas.Bool.{not-true as not_true, and_parts as and_true}
use Rattle.base_grammar.specs.Reader.{elem}

pub elem-append : (k : ℕ) (xs ys : List ℕ) → elem k (xs ++ ys) ≡ (elem k xs || elem k ys)
elem-append k [] ys = refl
elem-append k (x ∷ xs) ys = let e = elem-append k xs ys in rw e (or_regroup (k == x) (elem k xs) (elem k ys))
  where
    or_regroup : (a b c : Bool) → (a || (b || c)) ≡ ((a || b) || c)
    or_regroup true b c = refl
    or_regroup false b c = refl

abbrev pub disjoint : List ℕ → List ℕ → Bool
disjoint [] ys = true
disjoint (x ∷ xs) ys = not (elem x ys) && disjoint xs ys

pub disjoint-elem : (k : ℕ) (xs ys : List ℕ) → disjoint xs ys ≡ true → elem k ys ≡ true → elem k xs ≡ false
disjoint-elem k [] ys d e = refl
disjoint-elem k (x ∷ xs) ys d e =
    let parts = and_true (not (elem x ys)) (disjoint xs ys) d in
    go (k == x) refl (not_true (elem x ys) parts.0) (disjoint-elem k xs ys parts.1 e)
  where
    go : (b : Bool) → (k == x) ≡ b → elem x ys ≡ false → elem k xs ≡ false → ((k == x) || elem k xs) ≡ false
    go true q h i =
        let same = eqb-true k x q in
        let P : ℕ → Type 0 = λ n. elem n ys ≡ true in
        let f : elem x ys ≡ true = subst P same e in absurd (cc)
    go false q h i = rw q i
