-- What is at a place of a list, and what holds of what is found.
use Rattle.std.proofs.Common.{◌≡◌, ℕ, zero, suc, ◌+◌, Bool, true, false, cond, List, [], ◌∷◌, map, filter, Option, Some, refl, sym, ap, ◌∙◌, arith, inl, inr, subst}
use Rattle.std.specs.Prelude.{slice_get}
use Rattle.std.specs.List.{AllByRecursion, enumerate_from, find}
use Rattle.std.proofs.lemmas.Option.{same_Some as some_is}
use Rattle.model.specs.Membership.{Has}

-- what holds of all holds of each
pub of_each : {X : Type 0} (P : X → Type 0) (xs : List X) (x : X) → AllByRecursion P xs → Has xs x → P x
of_each P [] x all h = absurd h
of_each P (y ∷ xs) x all (inl e) = subst P (sym e) all.0
of_each P (y ∷ xs) x all (inr h) = of_each P xs x all.1 h

-- and of the first that passes a test
pub of_found : {X : Type 0} (P : X → Type 0) (p : X → Bool) (xs : List X) (x : X) → AllByRecursion P xs → find p xs ≡ Some x → P x
of_found P p [] x all e = absurd cc
of_found {X = X} P p (y ∷ xs) x all e = by (p y) e (λ e. of_found P p xs x all.1 e)
  where
    by : (b : Bool) → ◌≡◌ {A = Option X} (cond b (Some y) (find p xs)) (Some x) → (find p xs ≡ Some x → P x) → P x
    by true e more = subst P (some_is y x e) all.0
    by false e more = more e

-- what a filter keeps is in the list and passes the test
pub kept : {X : Type 0} (p : X → Bool) (xs : List X) (x : X) → Has (filter p xs) x → Has xs x × (p x ≡ true)
kept p [] x h = absurd h
kept {X = X} p (y ∷ xs) x h = by (p y) refl h (λ h. kept p xs x h)
  where
    behind : Has xs x × (p x ≡ true) → Has (y ∷ xs) x × (p x ≡ true)
    behind k = (inr k.0, k.1)

    by : (b : Bool) → p y ≡ b → Has (cond b (y ∷ filter p xs) (filter p xs)) x → (Has (filter p xs) x → Has xs x × (p x ≡ true)) → Has (y ∷ xs) x × (p x ≡ true)
    by true is (inl e) more = (inl e, ap p e ∙ is)
    by true is (inr h) more = behind (more h)
    by false is h more = behind (more h)

-- ---- numbered lists

-- what holds of each with its number holds of all
pub all_numbered : {X Y : Type 0} (P : Y → Type 0) (h : ℕ × X → Y) (xs : List X) (k : ℕ) → ((i n : ℕ) (x : X) → k + i ≡ n → slice_get xs i ≡ Some x → P (h (n, x)))
    → AllByRecursion P (map h (enumerate_from k xs))
all_numbered P h [] k f = tt
all_numbered P h (x ∷ xs) k f = (f zero k x (omega arith) refl, all_numbered P h xs (k + 1) (λ i n y e at. f (suc i) n y (omega (arith, e)) at))

-- the one at a place of a numbered list
pub at_number : {X Y : Type 0} (h : ℕ × X → Y) (xs : List X) (k i n : ℕ) (x : X) → k + i ≡ n → slice_get xs i ≡ Some x → slice_get (map h (enumerate_from k xs)) i ≡ Some (h (n, x))
at_number h [] k i n x e at = absurd cc
at_number {X = X} h (y ∷ xs) k zero n x e at =
    let same : k ≡ n = omega (arith, e) in
    let is : y ≡ x = some_is y x at in
    ap (λ (z : ℕ × X). Some (h z)) (ap (λ (m : ℕ). (m, y)) same ∙ ap (λ (z : X). (n, z)) is)
at_number h (y ∷ xs) k (suc i) n x e at = at_number h xs (k + 1) i n x (omega (arith, e)) at
