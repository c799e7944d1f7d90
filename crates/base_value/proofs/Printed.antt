-- What is printed of a number: its digits, and the number that they spell.
use Rattle.std.proofs.Common.{◌≡◌, ◌≢◌, ℕ, zero, suc, ◌+◌, ◌*◌, ◌/◌, ◌%◌, ◌^◌, ◌<◌, ◌≤◌, ◌==◌, nat_lt, Bool, true, false, cond, if◌then◌else◌, List, [], ◌∷◌, ◌++◌, length, drop, Some, refl, sym, ◌∙◌, ap, eqb-true, lit<, arith, ne_eqb as not_same}
use Rattle.std.specs.Fmt.{decimal}
use Rattle.std.specs.List.{list_all, prefix_len}
use Rattle.std.proofs.Math.Nat.{pow-suc}
use Rattle.std.proofs.lemmas.Bool.Decides.{nat_tests}
use Rattle.std.proofs.lemmas.Fmt.{decimal_by_steps}
use Rattle.std.proofs.lemmas.List.{drop-drop, drop_at, take_at}
use Rattle.std.proofs.lemmas.Nat.{div-add-mod', div_below, mod_below, pow-add}
use Rattle.base_value.specs.Numerals.{digit_of, exact_bound, is_digit, is_fraction, is_negative, is_unsigned_numeral, of_digits, of_digits_behind, point, size_of, without_sign}
use Rattle.base_value.specs.Printing.{print_fraction, print_places, print_size, scale}
use Rattle.base_value.specs.inner.Splits.{IsSplit}
use Rattle.base_value.proofs.Sizes.{IsExactly, exactly_some, of_digits_behind-append, ten_pos}
use Rattle.base_value.proofs.Splits.{size_of-split}

-- ---- digits

abbrev pub AreDigits : List ℕ → Type 0
AreDigits [] = Unit {0}
AreDigits (d ∷ ds) = (is_digit d ≡ true) × AreDigits ds

pub digit_range : (c : ℕ) → is_digit c ≡ true → (48 ≤ c) × (c ≤ 57)
unfolding is_digit
digit_range c h = grind (arith, nat_tests)

pub digit_is : (k : ℕ) → k < 10 → is_digit (48 + k) ≡ true
unfolding is_digit
digit_is k h = grind (arith, nat_tests)

pub digit_value_is : (k : ℕ) → k < 10 → digit_of (48 + k) ≡ k
digit_value_is k h = rw (digit_is k h) (omega arith)

are_more : (ds : List ℕ) (d : ℕ) → AreDigits ds → is_digit d ≡ true → AreDigits (ds ++ d ∷ [])
are_more [] d h e = (e, tt)
are_more (x ∷ xs) d h e = (h.0, are_more xs d h.1 e)

all_digits : (ds : List ℕ) → AreDigits ds → list_all is_digit ds ≡ true
all_digits [] h = refl
all_digits (d ∷ ds) h = rw (h.0, all_digits ds h.1) refl

-- digits, and what follows them
prefix_run : (ds rest : List ℕ) → AreDigits ds → prefix_len is_digit rest ≡ 0 → prefix_len is_digit (ds ++ rest) ≡ length ds
prefix_run [] rest h e = e
prefix_run (d ∷ ds) rest h e = rw (h.0, prefix_run ds rest h.1 e) (omega arith)

-- ---- the whole part

-- the digits of n: they spell it, and a leading zero is the only digit
pub record IsDecimal (n : ℕ) (ds : List ℕ) : Type 0 where
  pub are : AreDigits ds
  pub value : of_digits_behind 0 ds ≡ n
  pub first : ℕ
  pub more : List ℕ
  pub is : ds ≡ first ∷ more
  pub lead : first ≡ 48 → (n ≡ 0) × (more ≡ [])

one_digit : (n : ℕ) → n < 10 → IsDecimal n ((48 + n) ∷ [])
one_digit n h = record {
  are = (digit_is n h, tt);
  value = omega (arith, digit_value_is n h);
  first = 48 + n;
  more = [];
  is = refl;
  lead = λ e. (omega (arith, e), refl);
}

next_digit : (n : ℕ) (ds : List ℕ) → 10 ≤ n → IsDecimal (n / 10) ds → IsDecimal n (ds ++ (48 + n % 10) ∷ [])
next_digit n ds h d =
    let small : n % 10 < 10 = omega arith in
    record {
      are = are_more ds (48 + n % 10) d.are (digit_is (n % 10) small);
      value = of_digits_behind-append 0 ds ((48 + n % 10) ∷ []) ∙ rw (d.value, digit_value_is (n % 10) small) (div-add-mod' n 10);
      first = d.first;
      more = d.more ++ (48 + n % 10) ∷ [];
      is = ap (λ xs. xs ++ (48 + n % 10) ∷ []) d.is;
      lead = λ e. let l = d.lead e in absurd (omega (arith, l.0));
    }

pub decimal_is : (n : ℕ) → n < 2 ^ 64 → IsDecimal n (decimal n)
decimal_is = decimal_by_steps IsDecimal one_digit next_digit

-- ---- the fraction

shifted : (m : ℕ) (ds : List ℕ) → of_digits_behind m ds ≡ m * 10 ^ length ds + of_digits_behind 0 ds
shifted m [] = omega arith
shifted m (d ∷ ds) =
    let p : 10 ^ suc (length ds) ≡ 10 ^ length ds * 10 = pow-suc 10 (length ds) in
    omega (arith, shifted (m * 10 + digit_of d) ds, shifted (0 * 10 + digit_of d) ds, ap (λ x. m * x) p)

pub record IsPlaces (k f : ℕ) (ds : List ℕ) : Type 0 where
  pub are : AreDigits ds
  pub zeros : ℕ
  pub count : length ds + zeros ≡ k
  pub value : of_digits_behind 0 ds * 10 ^ zeros ≡ f
  pub some : f ≢ 0 → ds ≢ []

place_more : (k f : ℕ) → f < 10 ^ suc k → (f == 0) ≡ false → IsPlaces k (f % 10 ^ k) (print_places k (f % 10 ^ k))
    → IsPlaces (suc k) f ((48 + f / 10 ^ k) ∷ print_places k (f % 10 ^ k))
place_more k f h e rest =
    let ds = print_places k (f % 10 ^ k) in
    let q = f / 10 ^ k in
    let size : 10 ^ suc k ≡ 10 * 10 ^ k = pow-suc 10 k ∙ omega arith in
    let small : f / 10 ^ k < 10 = div_below f (10 ^ k) 10 (ten_pos k) (omega arith) in
    record {
      are = (digit_is (f / 10 ^ k) small, rest.are);
      zeros = rest.zeros;
      count = omega (arith, rest.count);
      value =
          let whole : f / 10 ^ k * 10 ^ k + f % 10 ^ k ≡ f = div-add-mod' f (10 ^ k) in
          let powers : 10 ^ length (print_places k (f % 10 ^ k)) * 10 ^ rest.zeros ≡ 10 ^ k = sym (pow-add 10 (length (print_places k (f % 10 ^ k))) rest.zeros) ∙ ap (λ n. 10 ^ n) rest.count in
          let digit = digit_value_is (f / 10 ^ k) small in
          let more = shifted (0 * 10 + digit_of (48 + f / 10 ^ k)) (print_places k (f % 10 ^ k)) in
          rw more (place_value (f / 10 ^ k) (0 * 10 + digit_of (48 + f / 10 ^ k)) (10 ^ length (print_places k (f % 10 ^ k))) (10 ^ rest.zeros) (10 ^ k) _ (f % 10 ^ k) f (omega (arith, digit)) powers rest.value whole);
      some = λ n none. absurd (cc);
    }
  where
    place_value : (q d l z p o r n : ℕ) → d ≡ q → l * z ≡ p → o * z ≡ r → q * p + r ≡ n → (d * l + o) * z ≡ n
    place_value q d l z p o r n e powers below whole = rw e (omega (arith, ap (λ x. q * x) powers))

pub places_are : (k f : ℕ) → f < 10 ^ k → IsPlaces k f (print_places k f)
unfolding print_places
places_are zero f h = record { are = tt; zeros = 0; count = refl; value = omega arith; some = λ e. absurd (e (omega arith)) }
places_are (suc k) f h = by_test (f == 0) refl (places_are k (f % 10 ^ k) (mod_below f (10 ^ k) (ten_pos k)))
  where
    by_test : (b : Bool) → (f == 0) ≡ b → IsPlaces k (f % 10 ^ k) (print_places k (f % 10 ^ k)) → IsPlaces (suc k) f (cond b [] ((48 + f / 10 ^ k) ∷ print_places k (f % 10 ^ k)))
    by_test true e rest = let z = eqb-true f 0 e in record { are = tt; zeros = suc k; count = omega arith; value = omega (arith, z); some = λ n. absurd (n z) }
    by_test false e rest = place_more k f h e rest

-- the digits of a fraction
abbrev pub fraction_of : ℕ → List ℕ
fraction_of f = if f == 0 then [] else print_places 8 f

fraction_value : (f : ℕ) → f < scale → (zeros : ℕ) × (length (fraction_of f) + zeros ≡ 8) × (of_digits_behind 0 (fraction_of f) * 10 ^ zeros ≡ f)
fraction_value f h = by_test (f == 0) refl
  where
    by_test : (b : Bool) → (f == 0) ≡ b → (zeros : ℕ) × (length (cond b [] (print_places 8 f)) + zeros ≡ 8) × (of_digits_behind 0 (cond b [] (print_places 8 f)) * 10 ^ zeros ≡ f)
    by_test true e = (8, refl, sym (eqb-true f 0 e))
    by_test false e = let p = places_are 8 f h in (p.zeros, p.count, p.value)

-- what is printed of a fraction
record IsFraction (f : ℕ) (cs : List ℕ) : Type 0 where
  pub none : prefix_len is_digit cs ≡ 0
  pub form : is_fraction cs ≡ true
  pub digits : drop 1 cs ≡ fraction_of f

fraction_is : (f : ℕ) → f < scale → IsFraction f (print_fraction f)
unfolding is_digit
fraction_is f h = by_test (f == 0) refl
  where
    not_empty : (ds : List ℕ) → ds ≢ [] → nat_lt 0 (length ds) ≡ true
    not_empty [] some = absurd (some refl)
    not_empty (d ∷ ds) some = grind (arith, nat_tests)

    by_test : (b : Bool) → (f == 0) ≡ b → IsFraction f (cond b [] (point ∷ print_places 8 f))
    by_test true e = record { none = refl; form = refl; digits = rw e refl }
    by_test false e =
        let p = places_are 8 f h in
        let some : f ≢ 0 = grind (arith, nat_tests, e) in
        record { none = refl; form = rw (all_digits (print_places 8 f) p.are) (not_empty (print_places 8 f) (p.some some)); digits = rw e refl }

-- ---- a number without its sign

pub whole_small : (n : ℕ) → n < exact_bound → n / scale < 2 ^ 64
whole_small n h = let b : n / 10 ^ 8 < 10 ^ 18 = div_below n (10 ^ 8) (10 ^ 18) (lit< tt) h in omega arith

number_value : (n w f part p z s : ℕ) → w * s + f ≡ n → p * z ≡ s → part * z ≡ f → n * p ≡ (w * p + part) * s
number_value n w f part p z s whole powers value = omega (arith, ap (λ x. x * p) whole, ap (λ x. part * x) powers, ap (λ x. x * p) value)

pub size_is : (n : ℕ) → n < exact_bound → IsExactly (of_digits (decimal (n / scale) ++ fraction_of (n % scale))) (length (fraction_of (n % scale))) 0 0 n
unfolding of_digits
size_is n h = record {
  same =
      let d = decimal_is (n / scale) (whole_small n h) in
      let v = fraction_value (n % scale) (mod_below n scale (lit< tt)) in
      let digits = of_digits_behind-append 0 (decimal (n / scale)) (fraction_of (n % scale)) ∙ ap (λ m. of_digits_behind m (fraction_of (n % scale))) d.value ∙ shifted (n / scale) (fraction_of (n % scale)) in
      let powers : 10 ^ length (fraction_of (n % scale)) * 10 ^ v.0 ≡ 10 ^ 8 = sym (pow-add 10 (length (fraction_of (n % scale))) v.0) ∙ ap (λ k. 10 ^ k) v.1 in
      let whole : n / 10 ^ 8 * 10 ^ 8 + n % 10 ^ 8 ≡ n = div-add-mod' n (10 ^ 8) in
      let count : length (fraction_of (n % scale)) + 0 ≡ length (fraction_of (n % scale)) = omega arith in
      ap (λ k. n * 10 ^ k) count
      ∙ number_value n (n / scale) (n % scale) (of_digits_behind 0 (fraction_of (n % scale))) (10 ^ length (fraction_of (n % scale))) (10 ^ v.0) (10 ^ 8) whole powers v.2
      ∙ sym (ap (λ m. m * 10 ^ 8) digits);
  small = h;
}

split_digits : (n f : ℕ) (ds tail : List ℕ) → IsDecimal n ds → IsFraction f tail → IsSplit ds (fraction_of f) (ds ++ tail)
unfolding is_unsigned_numeral
split_digits n f ds tail d t =
    let run = prefix_run ds tail d.are t.none in
    let rest = drop_at ds tail (length ds) refl in
    let some : nat_lt 0 (length ds) ≡ true = rw d.is (grind (arith, nat_tests)) in
    record {
      numeral = rw (run, some, rest) t.form;
      before = rw run (sym (take_at ds tail (length ds) refl));
      after = rw run (sym t.digits ∙ ap (drop 1) (sym rest) ∙ drop-drop 1 (length ds) (ds ++ tail));
    }

pub size_split : (n : ℕ) → n < exact_bound → IsSplit (decimal (n / scale)) (fraction_of (n % scale)) (print_size n)
unfolding print_size
size_split n h = split_digits (n / scale) (n % scale) (decimal (n / scale)) (print_fraction (n % scale)) (decimal_is (n / scale) (whole_small n h)) (fraction_is (n % scale) (mod_below n scale (lit< tt)))

pub size_printed : (n : ℕ) → n < exact_bound → size_of (print_size n) ≡ Some n
unfolding of_digits
size_printed n h =
    sym (size_of-split (decimal (n / scale)) (fraction_of (n % scale)) (print_size n) (size_split n h)) ∙ exactly_some _ _ 0 0 n (size_is n h)

-- digits have no sign before them
pub no_sign : (d : ℕ) (cs : List ℕ) → is_digit d ≡ true → (without_sign (d ∷ cs) ≡ d ∷ cs) × (is_negative (d ∷ cs) ≡ false)
unfolding without_sign is_negative
no_sign d cs h =
    let r = digit_range d h in
    let plus = not_same d 43 (omega (arith, r.0)) in
    let minus = not_same d 45 (omega (arith, r.0)) in
    (rw (plus, minus) refl, minus)
