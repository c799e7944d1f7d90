-- The numbers of valid values fit their types, and what is printed of such a value is short.
use Rattle.std.proofs.Common.{◌≡◌, ℕ, zero, suc, ◌+◌, ◌-◌, ◌/◌, ◌%◌, ◌^◌, ◌<◌, ◌≤◌, ◌==◌, Bool, true, false, ◌&&◌, ◌||◌, cond, List, [], ◌∷◌, ◌++◌, map, length, refl, sym, subst, arith, lit<, eqb-true, length-append, ℤ, pos, negsuc, None, ltb-true as less}
use Rattle.std.specs.Prelude.{bytes_eq, codes, nat_le, nat_lt, unsigned_abs}
use Rattle.std.specs.Fmt.{decimal}
use Rattle.std.specs.List.{list_all, list_any}
use Rattle.std.specs.Str.{all_scalars}
use Rattle.std.proofs.Math.Nat.{div-lt_iff_lt-mul, pow-le-pow_right}
use Rattle.std.proofs.lemmas.Bool.{and_parts}
use Rattle.std.proofs.lemmas.Bool.Decides.{nat_tests}
use Rattle.std.proofs.lemmas.Fmt.{length-decimal-le_wide}
use Rattle.std.proofs.lemmas.Int.{ints}
use Rattle.std.proofs.lemmas.Slice.Eq.{bytes_eq-Decides}
use Rattle.jiff_core.proofs.SignedLemmas.{signed_arith}
use Rattle.base_value.specs.Dates.{is_day, is_moment}
use Rattle.base_value.specs.Digits.{digits}
use Rattle.base_value.specs.Id.{is_digit62, is_id, print18, suffix}
use Rattle.base_value.specs.Numerals.{is_within, point}
use Rattle.base_value.specs.OrderKeys.{Fits, IsSigned}
use Rattle.base_value.specs.Printing.{padded, print_clock, print_date, print_day, print_fraction, print_moment, print_number, print_places, print_size, print_value, scale}
use Rattle.base_value.specs.Types.{is_choice, is_reference, is_type}
use Rattle.base_value.specs.Values.{ref_of, valid}
use Rattle.base_value.specs.declared.value.FieldType.{FieldType}
use Rattle.base_value.specs.declared.value.FieldType.TheVariants as type
use Rattle.base_value.specs.declared.value.Value.{Value}
use Rattle.base_value.specs.declared.value.Value.TheVariants as value
use Rattle.base_value.proofs.DateParts.{day_bounds}
use Rattle.base_value.proofs.DateTextLaws.{moment_bounds}
use Rattle.base_value.proofs.ValueLaws.{choices, day_of_kind, id_of_kind, moment_of_kind}

within : (low high n : ℕ) → is_within low high n ≡ true → n ≤ high
within low high n h =
    let most : nat_le n high ≡ true = (and_parts (nat_le low n) (nat_le n high) h).1 in
    grind (arith, nat_tests)

-- ---- numbers

number_small : (digits decimals n : ℕ) → is_type (type.Number digits decimals) ≡ true → n < 10 ^ (digits - decimals + 8) → n < 10 ^ 26
number_small digits decimals n h lt =
    let most : digits ≤ 18 = within 1 18 digits (and_parts (is_within 1 18 digits) (nat_le decimals 8 && nat_le decimals digits) h).0 in
    let few : digits - decimals + 8 ≤ 26 = omega (arith, most) in
    let power : 10 ^ (digits - decimals + 8) ≤ 10 ^ 26 = pow-le-pow_right (lit< tt) few in
    omega (arith, lt, power)

num_small : (kind : FieldType) (z : ℤ) → is_type kind ≡ true → valid kind (value.Num z) ≡ true → unsigned_abs z < 10 ^ 26
num_small (type.Number digits decimals) z t h =
    number_small digits decimals (unsigned_abs z) t
    (less (unsigned_abs z) (10 ^ (digits - decimals + 8)) (and_parts (unsigned_abs z % 10 ^ (8 - decimals) == 0) (nat_lt (unsigned_abs z) (10 ^ (digits - decimals + 8))) h).1)
num_small _ z t h = absurd cc

num_fits : (z : ℤ) → unsigned_abs z < 10 ^ 26 → IsSigned 16 z
num_fits (pos n) h = (omega (arith, ints), omega (arith, ints))
num_fits (negsuc n) h = (omega (arith, ints), omega (arith, ints))

day_fits : (day : ℤ) → is_day day ≡ true → IsSigned 4 day
day_fits day h = let bounds = day_bounds day h in (omega (arith, signed_arith), omega (arith, signed_arith))

moment_fits : (second : ℤ) → is_moment second ≡ true → IsSigned 8 second
moment_fits second h = let bounds = moment_bounds second h in (omega (arith, signed_arith), omega (arith, signed_arith))

pub fits : (kind : FieldType) (v : Value) → is_type kind ≡ true → valid kind v ≡ true → Fits v
fits kind value.Null t h = tt
fits kind (value.Text cs) t h = tt
fits kind (value.Num z) t h = num_fits z (num_small kind z t h)
fits kind (value.Bool truth) t h = tt
fits kind (value.Day day) t h = day_fits day (day_of_kind kind day h)
fits kind (value.Moment second) t h = moment_fits second (moment_of_kind kind second h)
fits kind (value.Ref id) t h = tt

-- ---- short texts

joined : (m n k : ℕ) (cs ds : List ℕ) → m + n ≤ k → length cs ≤ m → length ds ≤ n → length (cs ++ ds) ≤ k
joined m n k cs ds le h g = omega (arith, length-append cs ds)

digits_short : (k n : ℕ) → length (map (λ d. 48 + d) (digits 10 k n)) ≤ k
unfolding digits
digits_short zero n = omega arith
digits_short (suc k) n = omega (arith, digits_short k n)

padded_short : (k n : ℕ) → length (padded k n) ≤ k
unfolding padded
padded_short k n = digits_short k n

places_short : (k f : ℕ) → length (print_places k f) ≤ k
unfolding print_places
places_short zero f = omega arith
places_short (suc k) f = by (f == 0) (places_short k (f % 10 ^ k))
  where
    by : (b : Bool) → length (print_places k (f % 10 ^ k)) ≤ k → length (cond b [] ((48 + f / 10 ^ k) ∷ print_places k (f % 10 ^ k))) ≤ suc k
    by true rest = omega arith
    by false rest = omega (arith, rest)

fraction_short : (f : ℕ) → length (print_fraction f) ≤ 9
fraction_short f = by (f == 0)
  where
    by : (b : Bool) → length (cond b [] (point ∷ print_places 8 f)) ≤ 9
    by true = omega arith
    by false = omega (arith, places_short 8 f)

size_short : (n : ℕ) → n < 10 ^ 26 → length (print_size n) ≤ 35
unfolding print_size
size_short n lt =
    let some : 0 < scale = lit< tt in
    let small : n / scale < 10 ^ 26 = (div-lt_iff_lt-mul some).1 (omega (arith, lt)) in
    let wide : n / scale < 10 ^ 64 = omega (arith, small) in
    joined 26 9 35 (decimal (n / scale)) (print_fraction (n % scale)) (omega arith) (length-decimal-le_wide 26 (n / scale) (lit< tt) small wide) (fraction_short (n % scale))

number_short : (z : ℤ) → unsigned_abs z < 10 ^ 26 → length (print_number z) ≤ 36
number_short (pos n) lt = omega (arith, size_short n lt)
number_short (negsuc n) lt = omega (arith, size_short (suc n) lt)

date_short : (year month day : ℕ) → length (print_date year month day) ≤ 10
unfolding print_date
date_short year month day =
    joined 8 2 10 (padded 4 year ++ codes "-" ++ padded 2 month ++ codes "-") (padded 2 day) (omega arith)
    (joined 7 1 8 (padded 4 year ++ codes "-" ++ padded 2 month) (codes "-") (omega arith)
    (joined 5 2 7 (padded 4 year ++ codes "-") (padded 2 month) (omega arith)
    (joined 4 1 5 (padded 4 year) (codes "-") (omega arith) (padded_short 4 year) (omega arith)) (padded_short 2 month)) (omega arith))
    (padded_short 2 day)

day_short : (day : ℤ) → length (print_day day) ≤ 10
unfolding print_day
day_short day = date_short _ _ _

clock_short : (second : ℕ) → length (print_clock second) ≤ 8
unfolding print_clock
clock_short second =
    let hours : ℕ = second / 3600 in
    let minutes : ℕ = second / 60 % 60 in
    joined 6 2 8 (padded 2 hours ++ codes ":" ++ padded 2 minutes ++ codes ":") (padded 2 (second % 60)) (omega arith)
    (joined 5 1 6 (padded 2 hours ++ codes ":" ++ padded 2 minutes) (codes ":") (omega arith)
    (joined 3 2 5 (padded 2 hours ++ codes ":") (padded 2 minutes) (omega arith)
    (joined 2 1 3 (padded 2 hours) (codes ":") (omega arith) (padded_short 2 hours) (omega arith)) (padded_short 2 minutes)) (omega arith))
    (padded_short 2 (second % 60))

moment_joined : (day clock : List ℕ) → length day ≤ 10 → length clock ≤ 8 → length (day ++ codes "T" ++ clock ++ codes ".000+0000") ≤ 28
moment_joined day clock d c =
    joined 19 9 28 (day ++ codes "T" ++ clock) (codes ".000+0000") (omega arith)
    (joined 11 8 19 (day ++ codes "T") clock (omega arith) (joined 10 1 11 day (codes "T") (omega arith) d (omega arith)) c)
    (omega arith)

moment_short : (second : ℤ) → length (print_moment second) ≤ 28
unfolding print_moment
moment_short second = moment_joined _ _ (day_short _) (clock_short _)

id_short : (id : List ℕ) → is_id id ≡ true → length (print18 id) ≤ 18
id_short id h =
    let size : length id ≡ 15 = eqb-true (length id) 15 (and_parts (length id == 15) (list_all is_digit62 id) h).0 in
    joined 15 3 18 id (suffix id) (omega arith) (omega (arith, size)) (omega arith)

choice_short : (values : List (List ℕ)) (cs : List ℕ) → list_all is_choice values ≡ true → list_any (bytes_eq cs) values ≡ true → length cs ≤ 40
choice_short [] cs a h = absurd cc
choice_short (x ∷ values) cs a h = by (bytes_eq cs x) refl h (choice_short values cs (and_parts (is_choice x) (list_all is_choice values) a).1)
  where
    first : length x ≤ 40
    first = within 1 40 (length x) (and_parts (all_scalars x) (is_within 1 40 (length x)) (and_parts (is_choice x) (list_all is_choice values) a).0).1

    by : (b : Bool) → bytes_eq cs x ≡ b → (b || list_any (bytes_eq cs) values) ≡ true → (list_any (bytes_eq cs) values ≡ true → length cs ≤ 40) → length cs ≤ 40
    by true e h rest = subst (λ (ys : List ℕ). length ys ≤ 40) (sym ((bytes_eq-Decides cs x).0 e)) first
    by false e h rest = rest h

text_short : (kind : FieldType) (cs : List ℕ) → is_type kind ≡ true → valid kind (value.Text cs) ≡ true → length cs ≤ 255
text_short (type.Text most) cs t h =
    let size = within 1 most (length cs) (and_parts (all_scalars cs) (is_within 1 most (length cs)) h).1 in
    omega (arith, size, within 1 255 most t)
text_short (type.Picklist values) cs t h = omega (arith, choice_short values cs (choices values t) h)
text_short _ cs t h = absurd cc

pub short : (kind : FieldType) (v : Value) → is_type kind ≡ true → valid kind v ≡ true → length (print_value v) ≤ 255
short kind value.Null t h = omega arith
short kind (value.Text cs) t h = text_short kind cs t h
short kind (value.Num z) t h = omega (arith, number_short z (num_small kind z t h))
short kind (value.Bool true) t h = omega arith
short kind (value.Bool false) t h = omega arith
short kind (value.Day day) t h = omega (arith, day_short day)
short kind (value.Moment second) t h = omega (arith, moment_short second)
short kind (value.Ref id) t h = omega (arith, id_short id (id_of_kind kind id h))

-- ---- references

-- a value of a type that isn't a reference refers to nothing
pub plain : (kind : FieldType) (v : Value) → is_reference kind ≡ false → valid kind v ≡ true → ref_of v ≡ None
plain (type.Lookup object on_delete) v e h = absurd cc
plain (type.Master object) v e h = absurd cc
plain kind (value.Ref id) e h = by kind e h
  where
    by : (kind : FieldType) → is_reference kind ≡ false → valid kind (value.Ref id) ≡ true → ref_of (value.Ref id) ≡ None
    by (type.Lookup object on_delete) e h = absurd cc
    by (type.Master object) e h = absurd cc
    by _ e h = absurd cc
plain kind v e h = refl
