-- What the characters of a form are.
use Rattle.std.proofs.Common.{◌≡◌, ℕ, zero, suc, ◌+◌, ◌<◌, ◌==◌, true, List, [], ◌∷◌, length, get_or, refl, arith}
use Rattle.std.specs.Prelude.{codes}
use Rattle.std.specs.List.{list_all, zip}
use Rattle.std.proofs.lemmas.Bool.Decides.{nat_tests}
use Rattle.std.proofs.lemmas.Bool.{and_parts as both}
use Rattle.base_value.specs.Numerals.{is_digit}
use Rattle.base_value.specs.Dates.{fits, has_form, two_at, year_of, month_of, day_of}

digit_fits : (form c : ℕ) → fits form c ≡ true → form ≡ 48 → is_digit c ≡ true
unfolding fits
digit_fits form c h e = grind (arith, nat_tests)

digits_fit : (form cs : List ℕ) (at : ℕ) → length form ≡ length cs → list_all (λ pair. fits pair.0 pair.1) (zip form cs) ≡ true → at < length form → get_or form at 0 ≡ 48 → is_digit (get_or cs at 0) ≡ true
digits_fit [] cs at size h within e = absurd (omega arith)
digits_fit (f ∷ form) [] at size h within e = absurd (omega arith)
digits_fit (f ∷ form) (c ∷ cs) zero size h within e = digit_fits f c (both (fits f c) (list_all (λ pair. fits pair.0 pair.1) (zip form cs)) h).0 e
digits_fit (f ∷ form) (c ∷ cs) (suc at) size h within e = digits_fit form cs at (omega arith) (both (fits f c) (list_all (λ pair. fits pair.0 pair.1) (zip form cs)) h).1 (omega arith) e

-- where the form has a `0`, the characters have a digit
pub digit_in : (form cs : List ℕ) (at : ℕ) → has_form form cs ≡ true → at < length form → get_or form at 0 ≡ 48 → is_digit (get_or cs at 0) ≡ true
unfolding has_form
digit_in form cs at h within e =
    let parts = both (length form == length cs) (list_all (λ pair. fits pair.0 pair.1) (zip form cs)) h in
    let size : length form ≡ length cs = grind (arith, nat_tests) in
    digits_fit form cs at size parts.1 within e

two_digits : (cs : List ℕ) (at : ℕ) → is_digit (get_or cs at 0) ≡ true → is_digit (get_or cs (at + 1) 0) ≡ true → two_at cs at < 100
unfolding two_at is_digit
two_digits cs at high low = grind (arith, nat_tests)

-- the parts of a date are small
pub date_parts : (cs : List ℕ) → has_form (codes "0000-00-00") cs ≡ true → (year_of cs < 10000) × (month_of cs < 100) × (day_of cs < 100)
unfolding year_of
date_parts cs h =
    let digit = λ (at : ℕ) (within : at < 10) (e : get_or (codes "0000-00-00") at 0 ≡ 48). digit_in (codes "0000-00-00") cs at h within e in
    let century = two_digits cs 0 (digit 0 (omega arith) refl) (digit 1 (omega arith) refl) in
    let year = two_digits cs 2 (digit 2 (omega arith) refl) (digit 3 (omega arith) refl) in
    let month = two_digits cs 5 (digit 5 (omega arith) refl) (digit 6 (omega arith) refl) in
    let day = two_digits cs 8 (digit 8 (omega arith) refl) (digit 9 (omega arith) refl) in
    (omega arith, month, day)
