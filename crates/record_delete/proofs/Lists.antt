-- What holds of all of a list, and what is in lists that are made from others.
use Rattle.std.proofs.Common.{◌≡◌, ◌∙◌, ◌⊎◌, inl, inr, ℕ, zero, suc, ◌+◌, false, List, [], ◌∷◌, ◌++◌, map, Some, refl, sym, ap, subst, arith}
use Rattle.std.specs.Prelude.{slice_get}
use Rattle.std.specs.List.{AllByRecursion, enumerate_from, flat_map}
use Rattle.base_lemmas.proofs.Lists.{each-append as all_append}
use Rattle.std.proofs.lemmas.Option.{same_Some as some_is}
use Rattle.store_rows.specs.Keys.{Key}
use Rattle.model.specs.Membership.{Has}
use Rattle.model.specs.Objects.{Numbered}
use Rattle.model.specs.Tenant.{Object}
use Rattle.store_abstraction.specs.Changes.{Change, is_changed}
use Rattle.record_index.proofs.DiffTurned.{left_unchanged, right_unchanged}

-- ---- all of a list

-- what holds of each holds of all
pub all_of : {X : Type 0} (P : X → Type 0) (xs : List X) → ((x : X) → Has xs x → P x) → AllByRecursion P xs
all_of P [] each = tt
all_of P (x ∷ xs) each = (each x (inl refl), all_of P xs (λ y h. each y (inr h)))

pub all_flat : {X Y : Type 0} (P : Y → Type 0) (f : X → List Y) (xs : List X) → ((x : X) → Has xs x → AllByRecursion P (f x)) → AllByRecursion P (flat_map f xs)
all_flat P f [] each = tt
all_flat P f (x ∷ xs) each = all_append P (f x) (flat_map f xs) (each x (inl refl)) (all_flat P f xs (λ y h. each y (inr h)))

-- ---- what is in a list

pub append_has : {X : Type 0} (xs ys : List X) (x : X) → Has (xs ++ ys) x → Has xs x ⊎ Has ys x
append_has [] ys x h = inr h
append_has (z ∷ xs) ys x (inl e) = inl (inl e)
append_has (z ∷ xs) ys x (inr h) = elim (append_has xs ys x h) [ inl g ↦ inl (inr g) | inr g ↦ inr g ]

pub map_has : {X Y : Type 0} (f : X → Y) (xs : List X) (y : Y) → Has (map f xs) y → (x : X) × Has xs x × (y ≡ f x)
map_has f [] y h = absurd h
map_has f (x ∷ xs) y (inl e) = (x, inl refl, e)
map_has f (x ∷ xs) y (inr h) = let more = map_has f xs y h in (more.0, inr more.1, more.2)

pub has_map : {X Y : Type 0} (f : X → Y) (xs : List X) (x : X) → Has xs x → Has (map f xs) (f x)
has_map f [] x h = absurd h
has_map f (z ∷ xs) x (inl e) = inl (ap f e)
has_map f (z ∷ xs) x (inr h) = inr (has_map f xs x h)

-- ---- objects with their numbers

abbrev pub pair : ℕ × Object → Numbered
pair o = record { number = o.0; object = o.1 }

-- one is at the place that its number tells
pub there_of : (k : ℕ) (os : List Object) (x : Numbered) → Has (map pair (enumerate_from k os)) x → (i : ℕ) × (k + i ≡ x.number) × (slice_get os i ≡ Some x.object)
there_of k [] x h = absurd h
there_of k (o ∷ os) x (inl e) =
    let number : x.number ≡ k = ap (λ (y : Numbered). y.number) e in
    (zero, omega (arith, number), ap (λ (y : Numbered). Some y.object) (sym e))
there_of k (o ∷ os) x (inr h) = let more = there_of (k + 1) os x h in (suc more.0, omega (arith, more.1), more.2)

pub has_there : (k : ℕ) (os : List Object) (i n : ℕ) (o : Object) → k + i ≡ n → slice_get os i ≡ Some o → Has (map pair (enumerate_from k os)) (record { number = n; object = o })
has_there k [] i n o e there = absurd cc
has_there k (x ∷ os) zero n o e there =
    let same : n ≡ k = omega (arith, e) in
    inl (ap (λ (m : ℕ). pair (m, o)) same ∙ ap (λ (y : Object). pair (k, y)) (sym (some_is x o there)))
has_there k (x ∷ os) (suc i) n o e there = inr (has_there (k + 1) os i n o (omega (arith, e)) there)

-- ---- changes

-- what isn't changed by all isn't changed by one
pub one_unchanged : {X : Type 0} (f : X → List Change) (k : Key) (xs : List X) → is_changed (flat_map f xs) k ≡ false → (x : X) → Has xs x → is_changed (f x) k ≡ false
one_unchanged f k [] e x h = absurd h
one_unchanged {X = X} f k (y ∷ xs) e x (inl same) = subst (λ (z : X). is_changed (f z) k ≡ false) (sym same) (left_unchanged (f y) (flat_map f xs) k e)
one_unchanged f k (y ∷ xs) e x (inr h) = one_unchanged f k xs (right_unchanged (f y) (flat_map f xs) k e) x h
