-- Decimal numbers, digit by digit.
use Rattle.std.proofs.Common.{◌≡◌, ℕ, ◌+◌, ◌-◌, ◌*◌, ◌<◌, true, nat_lt, inl, inr, List, [], ◌∷◌, ◌++◌, length, take, get_or, refl, ap, ◌∙◌, arith, add-one, min}
use Rattle.std.proofs.Math.Seq.{take-suc}
use Rattle.std.specs.List.{list_all}
use Rattle.std.specs.Char.{is_ascii_digit, digit_value}
use Rattle.std.specs.Str.Parse.{digits_value, digits_value_after}
use Rattle.std.proofs.lemmas.Bool.Decides.{nat_tests}
use Rattle.std.proofs.lemmas.List.Folds.{list_all_at}
use Rattle.std.proofs.lemmas.Bool.{cases_Bool}
use Rattle.base_lemmas.proofs.Bools.{and_second}
use Rattle.server_http.specs.Framing.{is_number}

value_snoc : (n : ℕ) (xs : List ℕ) (c : ℕ) → digits_value_after 10 n (xs ++ c ∷ []) ≡ digits_value_after 10 n xs * 10 + digit_value c
value_snoc n [] c = refl
value_snoc n (x ∷ xs) c = value_snoc (n * 10 + digit_value x) xs c

digit_minus : (c : ℕ) → is_ascii_digit c ≡ true → digit_value c ≡ c - 48
digit_minus c h = grind (arith, nat_tests)

digit_at : (xs : List ℕ) (i : ℕ) → i < length xs → list_all is_ascii_digit xs ≡ true → is_ascii_digit (get_or xs i 0) ≡ true
digit_at xs i h all = elim (cases_Bool (is_ascii_digit (get_or xs i 0))) [
  | inl good ↦ good
  | inr bad ↦ (let none = list_all_at is_ascii_digit xs i 0 h bad in cc)
]

-- one more digit
pub number_more : (xs : List ℕ) (i value : ℕ) → i < length xs → is_number xs ≡ true → value ≡ min (digits_value 10 (take i xs)) 4194305
    → min (value * 10 + (get_or xs i 0 - 48)) 4194305 ≡ min (digits_value 10 (take (i + 1) xs)) 4194305
number_more xs i value h digits e =
    let more : digits_value 10 (take (i + 1) xs) ≡ digits_value 10 (take i xs) * 10 + digit_value (get_or xs i 0)
    = ap (digits_value 10) (ap (λ k. take k xs) (add-one i) ∙ take-suc xs i 0 h) ∙ value_snoc 0 (take i xs) (get_or xs i 0) in
    let digit = digit_minus (get_or xs i 0) (digit_at xs i h (and_second (nat_lt 0 (length xs)) (list_all is_ascii_digit xs) digits)) in
    omega (arith, more, digit)
