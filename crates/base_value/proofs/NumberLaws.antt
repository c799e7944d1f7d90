-- What is read is a number of the type, and what is printed of one reads as it.
use Rattle.std.proofs.Common.{◌≡◌, ℕ, suc, ◌+◌, ◌-◌, ◌/◌, ◌%◌, ◌^◌, ◌<◌, ◌≤◌, ◌==◌, ◌&&◌, nat_le, nat_lt, Bool, true, false, cond, List, [], ◌∷◌, ◌++◌, Option, Some, None, Result, Ok, Err, ℤ, pos, negsuc, refl, ap, subst, lit<, arith}
use Rattle.std.specs.Fmt.{decimal}
use Rattle.std.specs.Prelude.{unsigned_abs}
use Rattle.std.specs.Str.{IsAscii}
use Rattle.std.proofs.Math.Nat.{pow-le-pow_right}
use Rattle.std.proofs.lemmas.Bool.Decides.{nat_tests}
use Rattle.std.proofs.lemmas.Nat.{mod_below}
use Rattle.std.proofs.lemmas.Str.{IsAscii-append}
use Rattle.std.proofs.lemmas.Str.Ascii.{IsAscii-cons, IsAscii-nil}
use Rattle.std.proofs.lemmas.Bool.{and_parts as both_true}
use Rattle.base_value.specs.Numerals.{exact_bound, is_digit, is_negative, is_numeral, is_within, minus, point, signed, size_of, without_sign}
use Rattle.base_value.specs.Printing.{print_fraction, print_number, print_places, print_size, scale}
use Rattle.base_value.specs.Reading.{in_bounds, of_size, read_number}
use Rattle.base_value.specs.Types.{is_type}
use Rattle.base_value.specs.Values.{is_number}
use Rattle.base_value.specs.declared.fail.ValueFail.{ValueFail}
use Rattle.base_value.specs.declared.fail.ValueFail.TheVariants.{OutOfRange, WrongType}
use Rattle.base_value.specs.declared.value.FieldType.TheVariants as type
use Rattle.base_value.proofs.Decimals.{Starts, decimal_ascii, decimal_starts}
use Rattle.base_value.proofs.Printed.{AreDigits, decimal_is, digit_range, no_sign, places_are, size_printed, size_split, whole_small}

-- ---- what is read

module _ (digits decimals : ℕ) where
  bounded : (z count : ℤ) → in_bounds digits decimals z ≡ Ok count → is_number digits decimals count ≡ true
  bounded z count h = by_test (is_number digits decimals z) refl h
    where
      by_test : (b : Bool) → is_number digits decimals z ≡ b → ◌≡◌ {A = Result ℤ ValueFail} (cond b (Ok z) (Err OutOfRange)) (Ok count) → is_number digits decimals count ≡ true
      by_test true e h = let same : z ≡ count = cc in rw (← same) e
      by_test false e h = absurd (cc)

  sized : (negative : Bool) (size : Option ℕ) (count : ℤ) → of_size digits decimals negative size ≡ Ok count → is_number digits decimals count ≡ true
  sized negative None count h = absurd (cc)
  sized negative (Some n) count h = bounded (signed negative n) count h

  pub number_valid : (cs : List ℕ) (count : ℤ) → read_number digits decimals cs ≡ Ok count → is_number digits decimals count ≡ true
  unfolding read_number
  number_valid cs count h = by_test (is_numeral cs) h
    where
      by_test : (b : Bool) → cond b (of_size digits decimals (is_negative cs) (size_of (without_sign cs))) (Err WrongType) ≡ Ok count → is_number digits decimals count ≡ true
      by_test true h = sized (is_negative cs) (size_of (without_sign cs)) count h
      by_test false h = absurd (cc)

-- ---- what is printed reads back

-- a number of a type is small
small_number : (digits decimals : ℕ) (count : ℤ) → is_type (type.Number digits decimals) ≡ true → is_number digits decimals count ≡ true → unsigned_abs count < exact_bound
small_number digits decimals count t h =
    let n = unsigned_abs count in
    let few = both_true (is_within 1 18 digits) (nat_le decimals 8 && nat_le decimals digits) t in
    let most : digits ≤ 18 = grind (arith, nat_tests, few.0) in
    let bound = both_true (n % 10 ^ (8 - decimals) == 0) (nat_lt n (10 ^ (digits - decimals + 8))) h in
    let below : n < 10 ^ (digits - decimals + 8) = grind (arith, nat_tests, bound.1) in
    let places : digits - decimals + 8 ≤ 26 = omega arith in
    let power : 10 ^ (digits - decimals + 8) ≤ 10 ^ 26 = pow-le-pow_right (lit< tt) places in
    omega arith

-- the text of a size begins with a digit
size_first : (n : ℕ) → n < exact_bound → (d : ℕ) × (cs : List ℕ) × (print_size n ≡ d ∷ cs) × (is_digit d ≡ true)
unfolding print_size
size_first n h =
    let d = decimal_is (n / scale) (whole_small n h) in
    let are : AreDigits (d.first ∷ d.more) = subst AreDigits d.is d.are in
    (d.first, d.more ++ print_fraction (n % scale), ap (λ ds. ds ++ print_fraction (n % scale)) d.is, are.0)

size_signs : (n : ℕ) → n < exact_bound → (without_sign (print_size n) ≡ print_size n) × (is_negative (print_size n) ≡ false)
size_signs n h =
    let f = size_first n h in
    let signs = no_sign f.0 f.1 f.3 in
    rw f.2 signs

module _ (digits decimals : ℕ) where
  -- a text without its sign is that of a size
  back : (cs : List ℕ) (negative : Bool) (n : ℕ) → n < exact_bound → without_sign cs ≡ print_size n → is_negative cs ≡ negative
      → is_number digits decimals (signed negative n) ≡ true → read_number digits decimals cs ≡ Ok (signed negative n)
  unfolding read_number is_numeral
  back cs negative n small size sign h = rw (size, (size_split n small).numeral, sign, size_printed n small, h) refl

  pub number_back : (count : ℤ) → is_type (type.Number digits decimals) ≡ true → is_number digits decimals count ≡ true → read_number digits decimals (print_number count) ≡ Ok count
  unfolding without_sign is_negative
  number_back (pos n) t h =
      let small = small_number digits decimals (pos n) t h in
      let signs = size_signs n small in
      back (print_size n) false n small signs.0 signs.1 h
  number_back (negsuc n) t h = back (minus ∷ print_size (suc n)) true (suc n) (small_number digits decimals (negsuc n) t h) refl refl h

-- ---- the characters of what is printed

starts_before : (cs rest : List ℕ) → Starts cs → Starts (cs ++ rest)
starts_before cs rest h = (h.0, h.1 ++ rest, ap (λ xs. xs ++ rest) h.2)

size_starts : (n : ℕ) → Starts (print_size n)
unfolding print_size
size_starts n = starts_before (decimal (n / scale)) (print_fraction (n % scale)) (decimal_starts (n / scale))

pub number_starts : (count : ℤ) → (c : ℕ) × (cs : List ℕ) × (print_number count ≡ c ∷ cs)
number_starts (pos n) = size_starts n
number_starts (negsuc n) = (minus, print_size (suc n), refl)

digits_ascii : (ds : List ℕ) → AreDigits ds → IsAscii ds
digits_ascii [] h = IsAscii-nil
digits_ascii (d ∷ ds) h = let r = digit_range d h.0 in IsAscii-cons d ds (omega (arith, r.1)) (digits_ascii ds h.1)

fraction_ascii : (f : ℕ) → f < scale → IsAscii (print_fraction f)
fraction_ascii f h = by_test (f == 0)
  where
    by_test : (b : Bool) → IsAscii (cond b [] (point ∷ print_places 8 f))
    by_test true = IsAscii-nil
    by_test false = IsAscii-cons point (print_places 8 f) (lit< tt) (digits_ascii (print_places 8 f) (places_are 8 f h).are)

size_ascii : (n : ℕ) → IsAscii (print_size n)
unfolding print_size
size_ascii n = IsAscii-append (decimal (n / scale)) (print_fraction (n % scale)) (decimal_ascii (n / scale)) (fraction_ascii (n % scale) (mod_below n scale (lit< tt)))

pub number_ascii : (count : ℤ) → IsAscii (print_number count)
number_ascii (pos n) = size_ascii n
number_ascii (negsuc n) = IsAscii-cons minus (print_size (suc n)) (lit< tt) (size_ascii (suc n))
