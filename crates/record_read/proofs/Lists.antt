-- What is at a place of a list, and choices by cases.
use Rattle.std.proofs.Common.{◌≡◌, ℕ, zero, suc, ◌+◌, ◌<◌, ◌≤◌, true, false, eqb, List, [], ◌∷◌, map, Some, refl, sym, ap, arith, inl, inr, subst}
use Rattle.std.specs.Prelude.{is_some, slice_get}
use Rattle.std.specs.List.{AllByRecursion, enumerate_from, find, range_with_len}
use Rattle.std.proofs.lemmas.Option.{same_Some as some_is}
use Rattle.base_lemmas.proofs.Numbers.{eqb-self as eqb_same}
use Rattle.model.specs.Membership.{Has}

-- below a place where something is, something is
pub is_there : {X : Type 0} (xs : List X) (i j : ℕ) (x : X) → slice_get xs i ≡ Some x → j ≤ i → is_some (slice_get xs j) ≡ true
is_there [] i j x e le = absurd cc
is_there (y ∷ xs) i zero x e le = refl
is_there (y ∷ xs) zero (suc j) x e le = absurd (omega (arith, le))
is_there (y ∷ xs) (suc i) (suc j) x e le = is_there xs i j x e (omega (arith, le))

-- the first with this number of its own, where those before it have others
pub first_with : {X : Type 0} (g : ℕ → ℕ) (xs : List X) (k i n : ℕ) (x : X) → k + i ≡ n → slice_get xs i ≡ Some x → ((j : ℕ) → k ≤ j → j < n → eqb (g j) (g n) ≡ false)
    → find (λ (f : ℕ × X). eqb (g f.0) (g n)) (enumerate_from k xs) ≡ Some (n, x)
first_with g [] k i n x e at apart = absurd cc
first_with {X = X} g (y ∷ xs) k zero n x e at apart =
    let same : k ≡ n = omega (arith, e) in
    let is : y ≡ x = some_is y x at in
    rw (same, eqb_same (g n)) (ap (λ (z : X). Some (n, z)) is)
first_with g (y ∷ xs) k (suc i) n x e at apart =
    rw (apart k (omega arith) (omega (arith, e))) (first_with g xs (k + 1) i n x (omega (arith, e)) at (λ j le lt. apart j (omega (arith, le)) lt))

-- what is made of the numbers of a range
pub get_range : {X : Type 0} (f : ℕ → X) (a n i m : ℕ) → a + i ≡ m → i < n → slice_get (map f (range_with_len a n)) i ≡ Some (f m)
get_range f a zero i m e lt = absurd (omega (arith, lt))
get_range f a (suc n) zero m e lt = let same : a ≡ m = omega (arith, e) in ap (λ z. Some (f z)) same
get_range f a (suc n) (suc i) m e lt = get_range f (a + 1) n i m (omega (arith, e)) (omega (arith, lt))

pub same_range : {X : Type 0} (f g : ℕ → X) (a n : ℕ) → ((i : ℕ) → f i ≡ g i) → map f (range_with_len a n) ≡ map g (range_with_len a n)
same_range f g a zero e = refl
same_range f g a (suc n) e = rw (e a, same_range f g (a + 1) n e) refl

-- what holds of all holds of each
pub of_each : {X : Type 0} (P : X → Type 0) (xs : List X) (x : X) → AllByRecursion P xs → Has xs x → P x
of_each P [] x all h = absurd h
of_each P (y ∷ xs) x all (inl e) = subst P (sym e) all.0
of_each P (y ∷ xs) x all (inr h) = of_each P xs x all.1 h
