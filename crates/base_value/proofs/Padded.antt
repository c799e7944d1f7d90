-- Numbers in so many decimal digits.
use Rattle.std.proofs.Common.{◌≡◌, ℕ, zero, suc, ◌+◌, ◌-◌, ◌/◌, ◌%◌, ◌^◌, ◌<◌, ◌≤◌, true, false, List, [], ◌∷◌, ◌++◌, refl, ap, ap₂, ◌∙◌, arith, ⊎_elim}
use Rattle.std.specs.Fmt.{decimal, format_spec, padded_integral, char_count}
use Rattle.std.proofs.lemmas.Bool.{cases_lt}
use Rattle.std.proofs.lemmas.Fmt.{decimal_digit, decimal_step}
use Rattle.base_value.specs.Digits.{digits}
use Rattle.base_value.specs.Numerals.{is_digit}
use Rattle.base_value.specs.Printing.{padded}
use Rattle.std.specs.Str.{IsAscii}
use Rattle.std.proofs.lemmas.Str.{IsAscii-append}
use Rattle.std.proofs.lemmas.Str.Ascii.{IsAscii-cons, IsAscii-nil}
use Rattle.std.proofs.lemmas.Bool.Decides.{nat_tests}

-- ---- the digits
-- two digits, as characters
abbrev pub two : ℕ → ℕ → List ℕ
two a b = (48 + a) ∷ (48 + b) ∷ []

-- four digits, as characters
abbrev pub four : ℕ → ℕ → ℕ → ℕ → List ℕ
four a b c d = (48 + a) ∷ (48 + b) ∷ (48 + c) ∷ (48 + d) ∷ []

two_same : (a b x y : ℕ) → a ≡ x → b ≡ y → two a b ≡ two x y
two_same a b x y e f = ap₂ two e f

four_same : (a b c d w x y z : ℕ) → a ≡ w → b ≡ x → c ≡ y → d ≡ z → four a b c d ≡ four w x y z
four_same a b c d w x y z e f g h = rw (e, f, g, h) refl

-- a number below 100 in two digits
pub padded-two : (n : ℕ) → n < 100 → padded 2 n ≡ two (n / 10) (n % 10)
unfolding padded digits
padded-two n h = two_same (n / 10 % 10) (n / 1 % 10) (n / 10) (n % 10) (omega arith) (omega arith)

-- a number below 10000 in four digits
pub padded-four : (n : ℕ) → n < 10000 → padded 4 n ≡ four (n / 1000) (n / 100 % 10) (n / 10 % 10) (n % 10)
unfolding padded digits
padded-four n h = four_same (n / 1000 % 10) (n / 100 % 10) (n / 10 % 10) (n / 1 % 10) (n / 1000) (n / 100 % 10) (n / 10 % 10) (n % 10) (omega arith) refl refl (omega arith)

-- what decimal writes of numbers of two, three and four digits
decimal-two : (n : ℕ) → 10 ≤ n → n < 100 → decimal n ≡ two (n / 10) (n % 10)
decimal-two n low high = decimal_step n low (omega arith) ∙ ap (λ (ds : List ℕ). ds ++ (48 + n % 10) ∷ []) (decimal_digit (n / 10) (omega arith))

decimal-three : (n : ℕ) → 100 ≤ n → n < 1000 → decimal n ≡ (48 + n / 100) ∷ two (n / 10 % 10) (n % 10)
decimal-three n low high =
    let far : n / 10 / 10 ≡ n / 100 = omega arith in
    decimal_step n (omega arith) (omega arith) ∙ ap (λ (ds : List ℕ). ds ++ (48 + n % 10) ∷ []) (decimal-two (n / 10) (omega arith) (omega arith)) ∙ rw far refl

decimal-four : (n : ℕ) → 1000 ≤ n → n < 10000 → decimal n ≡ four (n / 1000) (n / 100 % 10) (n / 10 % 10) (n % 10)
decimal-four n low high =
    let far : n / 10 / 100 ≡ n / 1000 = omega arith in
    let next : n / 10 / 10 ≡ n / 100 = omega arith in
    decimal_step n (omega arith) (omega arith) ∙ ap (λ (ds : List ℕ). ds ++ (48 + n % 10) ∷ []) (decimal-three (n / 10) (omega arith) (omega arith)) ∙ rw (far, next) refl

-- what `{:02}` writes
pub zeros-two : (n : ℕ) → n < 100 → padded_integral (format_spec 32 0 4 2 (2 ^ 64 - 1)) false [] (decimal n) ≡ padded 2 n
unfolding padded_integral char_count
zeros-two n h = ⊎_elim
    (λ one. rw (decimal_digit n one, padded-two n h) (two_same 0 n (n / 10) (n % 10) (omega arith) (omega arith)))
    (λ more. rw (decimal-two n more h, padded-two n h) refl)
    (cases_lt n 10)

-- what `{:04}` writes
pub zeros-four : (n : ℕ) → n < 10000 → padded_integral (format_spec 32 0 4 4 (2 ^ 64 - 1)) false [] (decimal n) ≡ padded 4 n
unfolding padded_integral char_count
zeros-four n h = ⊎_elim
    (λ one. rw (decimal_digit n one, padded-four n h) (four_same 0 0 0 n (n / 1000) (n / 100 % 10) (n / 10 % 10) (n % 10) (omega arith) (omega arith) (omega arith) (omega arith)))
    (λ more. ⊎_elim
    (λ under. rw (decimal-two n more under, padded-four n h) (four_same 0 0 (n / 10) (n % 10) (n / 1000) (n / 100 % 10) (n / 10 % 10) (n % 10) (omega arith) (omega arith) (omega arith) refl))
    (λ over. ⊎_elim
    (λ below. rw (decimal-three n over below, padded-four n h) (four_same 0 (n / 100) (n / 10 % 10) (n % 10) (n / 1000) (n / 100 % 10) (n / 10 % 10) (n % 10) (omega arith) (omega arith) refl refl))
    (λ above. rw (decimal-four n above h, padded-four n h) refl)
    (cases_lt n 1000))
    (cases_lt n 100))
    (cases_lt n 10)

-- ---- their characters
pub is_digit_of : (d : ℕ) → d < 10 → is_digit (48 + d) ≡ true
unfolding is_digit
is_digit_of d h = grind (arith, nat_tests)

pub padded-ascii : (k n : ℕ) → IsAscii (padded k n)
unfolding padded digits
padded-ascii zero n = IsAscii-nil
padded-ascii (suc k) n = IsAscii-cons (48 + n / 10 ^ k % 10) (padded k n) (omega arith) (padded-ascii k n)

pub one-ascii : (c : ℕ) → c < 128 → IsAscii (c ∷ [])
one-ascii c h = IsAscii-cons c [] h IsAscii-nil

-- a character and a number after what is below 128
pub more-ascii : (cs : List ℕ) (c k n : ℕ) → IsAscii cs → c < 128 → IsAscii (cs ++ c ∷ [] ++ padded k n)
more-ascii cs c k n h low = IsAscii-append (cs ++ c ∷ []) (padded k n) (IsAscii-append cs (c ∷ []) h (one-ascii c low)) (padded-ascii k n)
