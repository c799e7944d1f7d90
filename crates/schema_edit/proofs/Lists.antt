-- Lists: what is found or asked of lists that are mapped or joined.
use Rattle.std.proofs.Common.{◌≡◌, ◌∙◌, Bool, true, false, ◌&&◌, ◌||◌, cond, List, [], ◌∷◌, ◌++◌, map, Option, Some, None, refl, ap}
use Rattle.std.specs.Prelude.{filter, filter_map}
use Rattle.std.specs.List.{find, flat_map, list_any}
use Rattle.std.specs.Option.{option_map}
use Rattle.std.proofs.lemmas.List.Folds.{list_any-append}
use Rattle.base_lemmas.proofs.Bools.{by_answer as pick}
use Rattle.model.specs.Cases.{in_case}

-- ---- tests

-- two pairs of tests, by their first and by their second
pub or_pairs : (x y a b : Bool) → ((x || a) || (y || b)) ≡ ((x || y) || (a || b))
or_pairs true y a b = refl
or_pairs false true true b = refl
or_pairs false true false b = refl
or_pairs false false a b = refl

-- ---- lists

pub any_joined : {X Y : Type 0} (q : Y → Bool) (f : X → List Y) (xs : List X) → list_any q (flat_map f xs) ≡ list_any (λ x. list_any q (f x)) xs
any_joined q f [] = refl
any_joined q f (x ∷ xs) = list_any-append q (f x) (flat_map f xs) ∙ ap (λ (b : Bool). list_any q (f x) || b) (any_joined q f xs)

pub found_mapped : {X Y : Type 0} (q : Y → Bool) (f : X → Y) (xs : List X) → find q (map f xs) ≡ option_map f (find (λ x. q (f x)) xs)
found_mapped q f [] = refl
found_mapped q f (x ∷ xs) =
    pick (q (f x)) (λ b. cond b (Some (f x)) (find q (map f xs)) ≡ option_map f (cond b (Some x) (find (λ x. q (f x)) xs)))
    (λ e. refl) (λ e. found_mapped q f xs)

pub joined_same : {X Y : Type 0} (f g : X → List Y) → ((x : X) → f x ≡ g x) → (xs : List X) → flat_map f xs ≡ flat_map g xs
joined_same f g h [] = refl
joined_same f g h (x ∷ xs) = ap (λ (ys : List _). ys ++ flat_map f xs) (h x) ∙ ap (λ (ys : List _). g x ++ ys) (joined_same f g h xs)

-- ---- those that pass

pub any_of_passed : {X Y : Type 0} (q : Y → Bool) (name : X → Y) (p : X → Bool) (x : X) (xs : List X)
    → list_any q (map name (filter p (x ∷ xs))) ≡ ((p x && q (name x)) || list_any q (map name (filter p xs)))
any_of_passed q name p x xs =
    pick (p x) (λ b. list_any q (map name (cond b (x ∷ filter p xs) (filter p xs))) ≡ ((b && q (name x)) || list_any q (map name (filter p xs))))
    (λ e. refl) (λ e. refl)

pub any_of_some : {X Y : Type 0} (q : Y → Bool) (name : X → Option Y) (p : X → Bool) (x : X) (xs : List X)
    → list_any q (filter_map name (filter p (x ∷ xs))) ≡ ((p x && in_case (name x) false q) || list_any q (filter_map name (filter p xs)))
any_of_some {Y = Y} q name p x xs =
    pick (p x) (λ b. list_any q (filter_map name (cond b (x ∷ filter p xs) (filter p xs))) ≡ ((b && in_case (name x) false q) || list_any q (filter_map name (filter p xs))))
    (λ e. by_name (name x) refl) (λ e. refl)
  where
    by_name : (o : Option Y) → name x ≡ o → list_any q (filter_map name (x ∷ filter p xs)) ≡ (in_case (name x) false q || list_any q (filter_map name (filter p xs)))
    by_name None e = rw e refl
    by_name (Some y) e = rw e refl
