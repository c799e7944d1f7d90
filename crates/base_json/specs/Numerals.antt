-- Number literals and their exact values. RFC 8259, section 6.
use Rattle.std.specs.Prelude.{◌≡◌, ◌≢◌, ℕ, ◌+◌, ◌*◌, ◌^◌, ◌<◌, ◌⊎◌, Bool, true, false, ◌||◌, ◌==◌, if◌then◌else◌, List, [], ◌∷◌, ◌++◌, length}
use Rattle.base_value.specs.Numerals.{exact_bound, of_digits, signed}
use Rattle.base_json.specs.Characters.{Part, digits_at, after_digits}
use Rattle.base_json.specs.declared.tree.Num.{Num}
use Rattle.base_json.specs.declared.tree.Num.TheVariants.{Exact, Beyond}

-- what a literal is made of; lists are of digits, and down says that the exponent has a minus
pub record Parts : Type 0 where
  pub minus : Bool
  pub whole : List ℕ
  pub fraction : List ℕ
  pub down : Bool
  pub power : List ℕ

-- such a character stands at the front
abbrev pub stands : (ℕ → Bool) → List ℕ → Bool
stands p [] = false
stands p (c ∷ cs) = p c

-- minus
abbrev pub Minus : List ℕ → Bool → List ℕ → Type 0
Minus cs true rest = cs ≡ 45 ∷ rest
Minus cs false rest = (rest ≡ cs) × (stands (λ c. c == 45) cs ≡ false)

-- 1*DIGIT, and no digit behind them
abbrev pub Digits : Part (List ℕ)
Digits cs ds rest = (ds ≢ []) × (ds ≡ digits_at cs) × (rest ≡ after_digits cs)

abbrev pub has_leading_zero : List ℕ → Bool
has_leading_zero [] = false
has_leading_zero (d ∷ []) = false
has_leading_zero (d ∷ e ∷ ds) = d == 48

-- int
abbrev pub Whole : Part (List ℕ)
Whole cs ds rest = Digits cs ds rest × (has_leading_zero ds ≡ false)

-- frac, which may be left out
abbrev pub Fraction : Part (List ℕ)
Fraction cs ds rest =
    ((ds ≡ []) × (rest ≡ cs) × (stands (λ c. c == 46) cs ≡ false))
    ⊎ ((after : List ℕ) × (cs ≡ 46 ∷ after) × Digits after ds rest)

-- e
abbrev pub is_exponent_mark : ℕ → Bool
is_exponent_mark c = (c == 101) || (c == 69)

-- the sign of an exponent, and the digits behind it
abbrev pub Power_sign : List ℕ → Bool → List ℕ → Type 0
Power_sign cs true rest = cs ≡ 45 ∷ rest
Power_sign cs false rest = (cs ≡ 43 ∷ rest) ⊎ (cs ≡ rest)

-- exp, which may be left out
abbrev pub Exponent : List ℕ → Bool → List ℕ → List ℕ → Type 0
Exponent cs down power rest =
    ((down ≡ false) × (power ≡ []) × (rest ≡ cs) × (stands is_exponent_mark cs ≡ false))
    ⊎ ((e : ℕ) × (a : List ℕ) × (b : List ℕ) × (cs ≡ e ∷ a) × (is_exponent_mark e ≡ true) × Power_sign a down b × Digits b power rest)

-- number
abbrev pub Literal : Part Parts
Literal cs p rest =
    (a : List ℕ) × (b : List ℕ) × (c : List ℕ)
    × Minus cs p.minus a × Whole a p.whole b × Fraction b p.fraction c × Exponent c p.down p.power rest

-- n * 10^-8 is m * 10^(up - k - down), and smaller than 10^18
pub record IsExactly (m k up down n : ℕ) : Type 0 where
  pub same : n * 10 ^ (k + down) ≡ m * 10 ^ (8 + up)
  pub small : n < exact_bound

abbrev pub up_of : Parts → ℕ
up_of p = if p.down then 0 else of_digits p.power

abbrev pub down_of : Parts → ℕ
down_of p = if p.down then of_digits p.power else 0

-- the size of what a literal spells
abbrev pub IsSize : Parts → ℕ → Type 0
IsSize p n = IsExactly (of_digits (p.whole ++ p.fraction)) (length p.fraction) (up_of p) (down_of p) n

-- the value of what a literal spells, and Beyond where no exact one is it
abbrev pub IsAmount : Parts → Num → Type 0
IsAmount p (Exact z) = (n : ℕ) × IsSize p n × (z ≡ signed p.minus n)
IsAmount p Beyond = (n : ℕ) → IsSize p n → ⊥

-- a number with its value
abbrev pub Numeral : Part Num
Numeral cs value rest = (p : Parts) × Literal cs p rest × IsAmount p value
