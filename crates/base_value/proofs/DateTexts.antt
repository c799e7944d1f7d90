-- The text of a day, character by character.
use Rattle.std.proofs.Common.{◌≡◌, ℕ, ◌+◌, ◌-◌, ◌/◌, ◌%◌, ◌<◌, true, List, ◌∷◌, ◌++◌, length, refl, sym, arith, subst, ℤ, pos, ◌-ℤ◌, unsigned_abs}
use Rattle.jiff_core.specs.Calendar.{IsCivilDate, days_from_civil, days_of_months}
use Rattle.jiff_core.proofs.CalendarLemmas.{days_in_month_bounds}
use Rattle.base_value.specs.Digits.{digits}
use Rattle.base_value.specs.Dates.{day_number, is_calendar_date, is_date, day_of, fits, has_form, month_of, two_at, year_of}
use Rattle.base_value.specs.Printing.{month_at, padded, print_date, print_day, year_at, year_start}
use Rattle.std.specs.Prelude.{codes}
use Rattle.std.specs.Str.{IsAscii}
use Rattle.std.proofs.lemmas.Bool.Decides.{nat_tests}
use Rattle.base_value.proofs.Padded.{four, two, padded-four, padded-two, is_digit_of, padded-ascii, more-ascii}

-- ---- the characters of a date
abbrev pub date_characters : ℕ → ℕ → ℕ → List ℕ
date_characters y m d = four (y / 1000) (y / 100 % 10) (y / 10 % 10) (y % 10) ++ 45 ∷ two (m / 10) (m % 10) ++ 45 ∷ two (d / 10) (d % 10)

pub print_date-characters : (y m d : ℕ) → y < 10000 → m < 100 → d < 100 → print_date y m d ≡ date_characters y m d
unfolding print_date
print_date-characters y m d hy hm hd = rw (padded-four y hy, padded-two m hm, padded-two d hd) refl

date_form : (y m d : ℕ) → y < 10000 → m < 100 → d < 100 → has_form (codes "0000-00-00") (date_characters y m d) ≡ true
unfolding has_form fits
date_form y m d hy hm hd =
    rw (is_digit_of (y / 1000) (omega arith), is_digit_of (y / 100 % 10) (omega arith), is_digit_of (y / 10 % 10) (omega arith), is_digit_of (y % 10) (omega arith), is_digit_of (m / 10) (omega arith), is_digit_of (m % 10) (omega arith), is_digit_of (d / 10) (omega arith), is_digit_of (d % 10) (omega arith)) refl

date_numbers : (y m d : ℕ) → y < 10000 → m < 100 → d < 100 → (year_of (date_characters y m d) ≡ y) × (month_of (date_characters y m d) ≡ m) × (day_of (date_characters y m d) ≡ d)
unfolding year_of two_at
date_numbers y m d hy hm hd = (omega arith, omega arith, omega arith)

-- ---- each is below 128, the first is a digit, and there are ten
pub print_date-ascii : (y m d : ℕ) → IsAscii (print_date y m d)
unfolding print_date
print_date-ascii y m d =
    let months = more-ascii (padded 4 y) 45 2 m (padded-ascii 4 y) (omega arith) in
    more-ascii (padded 4 y ++ codes "-" ++ padded 2 m) 45 2 d months (omega arith)

pub print_day-ascii : (day : ℤ) → IsAscii (print_day day)
unfolding print_day
print_day-ascii day =
    let year = year_at day in
    let before = unsigned_abs (day -ℤ year_start year) in
    let month = month_at year before in
    print_date-ascii year month (before - days_of_months (pos year) (month - 1) + 1)

pub print_date-starts : (y m d : ℕ) → (c : ℕ) × (cs : List ℕ) × (print_date y m d ≡ c ∷ cs)
unfolding print_date padded digits
print_date-starts y m d = (48 + y / 1000 % 10, _, refl)

pub print_day-starts : (day : ℤ) → (c : ℕ) × (cs : List ℕ) × (print_day day ≡ c ∷ cs)
unfolding print_day
print_day-starts day =
    let year = year_at day in
    let before = unsigned_abs (day -ℤ year_start year) in
    let month = month_at year before in
    print_date-starts year month (before - days_of_months (pos year) (month - 1) + 1)

length_date : (y m d : ℕ) → length (print_date y m d) ≡ 10
unfolding print_date padded digits
length_date y m d = refl

pub length_day : (day : ℤ) → length (print_day day) ≡ 10
unfolding print_day
length_day day =
    let year = year_at day in
    let before = unsigned_abs (day -ℤ year_start year) in
    let month = month_at year before in
    length_date year month (before - days_of_months (pos year) (month - 1) + 1)

-- ---- a date is read as it was printed
date_true : (y m d : ℕ) → IsCivilDate (pos y) m d → is_calendar_date y m d ≡ true
date_true y m d h = grind (arith, nat_tests)

-- a text with the form of a date, by its numbers
pub record ReadsAs (cs : List ℕ) (y m d : ℕ) : Type 0 where
  pub date : is_date cs ≡ true
  pub year : year_of cs ≡ y
  pub number : day_number cs ≡ days_from_civil (pos y) m d

reads_as : (cs : List ℕ) (y m d : ℕ) → has_form (codes "0000-00-00") cs ≡ true → year_of cs ≡ y → month_of cs ≡ m → day_of cs ≡ d → is_calendar_date y m d ≡ true → ReadsAs cs y m d
unfolding is_date day_number
reads_as cs y m d form year month day calendar = record { date = rw (form, year, month, day, calendar) refl; year = year; number = rw (year, month, day) refl }

-- the text of a date has its form and its numbers
pub written_date : (y m d : ℕ) → y < 10000 → IsCivilDate (pos y) m d → ReadsAs (print_date y m d) y m d
written_date y m d high h =
    let months : m < 100 = omega (arith, h.1.1) in
    let days : d < 100 = omega (arith, h.2.1, days_in_month_bounds (pos y) m) in
    let numbers = date_numbers y m d high months days in
    subst (λ (cs : List ℕ). ReadsAs cs y m d) (sym (print_date-characters y m d high months days))
    (reads_as (date_characters y m d) y m d (date_form y m d high months days) numbers.0 numbers.1 numbers.2 (date_true y m d h))
