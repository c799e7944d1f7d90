-- What the code knows of a number while it reads its digits.
use Rattle.std.specs.Prelude.{◌≡◌, ◌≢◌, ℕ, ◌+◌, ◌*◌, ◌%◌, ◌^◌, ◌<◌, ◌≤◌, ◌⊎◌, Bool, if◌then◌else◌, Option, Some, None, MatchOption}
use Rattle.base_value.specs.Numerals.{exact_bound, exactly}

-- n is top * 10 ^ zeros, where top doesn't end in a zero, and is kept where it is small
pub record IsMantissa (kept : Option ℕ) (zeros n : ℕ) : Type 0 where
  pub top : ℕ
  pub same : n ≡ top * 10 ^ zeros
  pub known : MatchOption kept (exact_bound ≤ top) (λ k. (k ≡ top) × (top < exact_bound))
  pub last : 0 < top → top % 10 ≢ 0

-- from here on one exponent is as good as any other
abbrev pub power_cap : ℕ
power_cap = 2 ^ 66

-- the exponent t, or any great one in place of a great one
pub record IsCapped (power t : ℕ) : Type 0 where
  pub fits : power < 2 ^ 70
  pub is : (power ≡ t) ⊎ ((power_cap ≤ power) × (power_cap ≤ t))

-- n * 10 ^ power, where that is small
abbrev pub IsScaled : ℕ → ℕ → Option ℕ → Type 0
IsScaled n power found = MatchOption found (exact_bound ≤ n * 10 ^ power) (λ v. (v ≡ n * 10 ^ power) × (v < exact_bound))

-- the same with a digit in place of the last of the zeros
abbrev pub IsShifted : Option ℕ → ℕ → ℕ → Option ℕ → Type 0
IsShifted None power digit found = found ≡ None
IsShifted (Some n) power digit found = MatchOption found (exact_bound ≤ n * 10 ^ power) (λ v. (v ≡ n * 10 ^ power + digit) × (v < exact_bound))

-- how far the point moves to the right, by the zeros, the scale and the exponent
abbrev pub places_up : Bool → ℕ → ℕ → ℕ
places_up down zeros power = if down then zeros + 8 else zeros + 8 + power

-- and to the left, by the fraction and the exponent
abbrev pub places_down : Bool → ℕ → ℕ → ℕ
places_down down places power = if down then places + power else places

-- the size of n with so many decimals and the exponent t, which has a minus where down
abbrev pub size_by : ℕ → ℕ → Bool → ℕ → Option ℕ
size_by n places down t = exactly n places (if down then 0 else t) (if down then t else 0)
