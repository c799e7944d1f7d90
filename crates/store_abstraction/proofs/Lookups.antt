-- Choices by cases, and what is at a place of a list.
use Rattle.std.proofs.Common.{◌≡◌, ℕ, zero, suc, cond, eqb, List, [], ◌∷◌, ◌++◌, length, Some, refl}
use Rattle.std.specs.Prelude.{slice_get}
use Rattle.std.proofs.Math.Dec.{eqb-suc-zero, eqb-zero-suc, eqb-suc-suc}

-- ---- places

pub get_push : {X : Type 0} (xs : List X) (x : X) (n : ℕ) → slice_get (xs ++ x ∷ []) n ≡ cond (eqb n (length xs)) (Some x) (slice_get xs n)
get_push [] x zero = refl
get_push [] x (suc n) = rw (eqb-suc-zero n) refl
get_push (y ∷ xs) x zero = rw (eqb-zero-suc (length xs)) refl
get_push (y ∷ xs) x (suc n) = rw (eqb-suc-suc n (length xs)) (get_push xs x n)
