-- The first cell of a record that isn't UTF-8.
use Rattle.std.proofs.Common.{◌≡◌, ◌<◌, ◌+◌, ℕ, zero, suc, not, true, false, List, [], ◌∷◌, drop, length, Some, None, refl, arith}
use Rattle.std.specs.List.{position_or_len}
use Rattle.std.specs.Str.{is_utf8}
use Rattle.csv.specs.Records.{field_at}

abbrev pub first_bad : List (List ℕ) → ℕ
first_bad cells = position_or_len (λ cell. not (is_utf8 cell)) cells

-- the cells from a place on
from_place : (cells : List (List ℕ)) (i : ℕ) (cell : List ℕ) → field_at cells i ≡ Some cell → drop i cells ≡ cell ∷ drop (suc i) cells
unfolding field_at
from_place [] i cell e = cc e
from_place (x ∷ cells) zero cell e = cc e
from_place (x ∷ cells) (suc i) cell e = from_place cells i cell e

pub none_there : (cells : List (List ℕ)) (i : ℕ) → field_at cells i ≡ None → i < length cells → ⊥
unfolding field_at
none_there [] i e h = absurd (omega arith)
none_there (x ∷ cells) zero e h = cc e
none_there (x ∷ cells) (suc i) e h = none_there cells i e (omega (arith, h))

pub is_bad : (cells : List (List ℕ)) (i : ℕ) (cell : List ℕ) → field_at cells i ≡ Some cell → is_utf8 cell ≡ false → first_bad cells ≡ i + first_bad (drop i cells) → i ≡ first_bad cells
is_bad cells i cell e bad h =
    let here : first_bad (drop i cells) ≡ 0 = rw (from_place cells i cell e, bad) refl in
    omega (arith, h, here)

pub is_good : (cells : List (List ℕ)) (i : ℕ) (cell : List ℕ) → field_at cells i ≡ Some cell → is_utf8 cell ≡ true → first_bad cells ≡ i + first_bad (drop i cells) → first_bad cells ≡ (i + 1) + first_bad (drop (i + 1) cells)
is_good cells i cell e good h =
    let next : i + 1 ≡ suc i = omega arith in
    let here : first_bad (drop i cells) ≡ first_bad (drop (suc i) cells) + 1 = rw (from_place cells i cell e, good) (omega arith) in
    let there : first_bad (drop (i + 1) cells) ≡ first_bad (drop (suc i) cells) = rw next refl in
    omega (arith, h, here, there)
