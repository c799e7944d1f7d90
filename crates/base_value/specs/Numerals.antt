-- Numbers as they are written: perhaps a sign, digits, and perhaps a point and digits.
-- A number is kept as a count of 10^-8, which is this product's own.
use Rattle.std.specs.Prelude.{ℕ, zero, suc, ◌+◌, ◌-◌, ◌*◌, ◌/◌, ◌%◌, ◌^◌, Bool, true, false, ◌&&◌, ◌||◌, ◌==◌, nat_le, nat_lt, if◌then◌else◌, List, [], ◌∷◌, ◌++◌, length, take, drop, Option, Some, None, ℤ, pos, negsuc}
use Rattle.std.specs.List.{list_all, prefix_len}

-- from low to high, both included
abbrev pub is_within : ℕ → ℕ → ℕ → Bool
is_within low high n = nat_le low n && nat_le n high

-- `+`
abbrev pub plus : ℕ
plus = 43

-- `-`
abbrev pub minus : ℕ
minus = 45

-- `.`
abbrev pub point : ℕ
point = 46

-- `0` to `9`
unfoldable pub is_digit : ℕ → Bool
is_digit c = is_within 48 57 c

-- ---- the form
-- what follows a sign, or all where there is none
unfoldable pub without_sign : List ℕ → List ℕ
without_sign [] = []
without_sign (c ∷ cs) = if c == plus || c == minus then cs else c ∷ cs

-- the digits before the point
abbrev pub whole_digits : List ℕ → List ℕ
whole_digits cs = take (prefix_len is_digit cs) cs

-- the characters after the point
abbrev pub fraction_digits : List ℕ → List ℕ
fraction_digits cs = drop (prefix_len is_digit cs + 1) cs

-- nothing, or a point and digits
abbrev pub is_fraction : List ℕ → Bool
is_fraction [] = true
is_fraction (c ∷ cs) = (c == point) && (list_all is_digit cs && nat_lt 0 (length cs))

-- digits, and perhaps a point and digits
unfoldable pub is_unsigned_numeral : List ℕ → Bool
is_unsigned_numeral cs = nat_lt 0 (prefix_len is_digit cs) && is_fraction (drop (prefix_len is_digit cs) cs)

-- a number of any length
unfoldable pub is_numeral : List ℕ → Bool
is_numeral cs = is_unsigned_numeral (without_sign cs)

-- a number of at most 18 digits before the point and 8 after it
unfoldable pub is_written_number : List ℕ → Bool
is_written_number cs =
    let digits = without_sign cs in
    is_numeral cs && (nat_le (length (whole_digits digits)) 18 && nat_le (length (fraction_digits digits)) 8)

-- ---- the value
-- the number of a digit
abbrev pub digit_of : ℕ → ℕ
digit_of c = if is_digit c then c - 48 else 0

-- the number that digits spell after others that spell n
abbrev pub of_digits_behind : ℕ → List ℕ → ℕ
of_digits_behind n [] = n
of_digits_behind n (d ∷ ds) = of_digits_behind (n * 10 + digit_of d) ds

-- the number that decimal digits spell
unfoldable pub of_digits : List ℕ → ℕ
of_digits ds = of_digits_behind 0 ds

-- a / b, where that is a whole number smaller than the bound
abbrev pub quotient : ℕ → ℕ → ℕ → Option ℕ
quotient bound a b = if (a % b == 0) && nat_lt (a / b) bound then Some (a / b) else None

-- the counts of 10^-8 of sizes below 10^18 are smaller than this
abbrev pub exact_bound : ℕ
exact_bound = 10 ^ 26

-- m * 10^(up - k - down) as a count of 10^-8, where it is one and smaller than 10^18
unfoldable pub exactly : ℕ → ℕ → ℕ → ℕ → Option ℕ
exactly m k up down = quotient exact_bound (m * 10 ^ (8 + up)) (10 ^ (k + down))

-- the size of a number that is written without a sign
unfoldable pub size_of : List ℕ → Option ℕ
size_of cs = exactly (of_digits (whole_digits cs ++ fraction_digits cs)) (length (fraction_digits cs)) 0 0

-- whether it begins with a `-`
unfoldable pub is_negative : List ℕ → Bool
is_negative [] = false
is_negative (c ∷ cs) = c == minus

-- a size with a sign, which zero doesn't have
abbrev pub signed : Bool → ℕ → ℤ
signed true zero = pos 0
signed true (suc n) = negsuc n
signed false n = pos n
