-- The year, the month and the day of the month of a day.
use Rattle.std.proofs.Common.{subst, ⊎_elim, min, ◌≡◌, ℕ, zero, suc, ◌+◌, ◌-◌, ◌*◌, ◌/◌, ◌^◌, ◌<◌, ◌≤◌, Bool, true, false, cond, List, ◌∷◌, length, refl, sym, ap, ◌∙◌, arith, ℤ, pos, negsuc, ◌+ℤ◌, ◌-ℤ◌, ◌<ℤ◌, ◌≤ℤ◌, unsigned_abs}
use Rattle.std.specs.Prelude.{nat_le, int_le, if◌then◌else◌, filter}
use Rattle.std.specs.List.{range_with_len}
use Rattle.std.proofs.lemmas.Bool.{cases_lt, and_parts as both}
use Rattle.std.proofs.lemmas.Bool.Decides.{nat_tests}
use Rattle.jiff_core.specs.Calendar.{days_from_civil, days_in_month, days_of_months, IsCivilDate}
use Rattle.jiff_core.proofs.SignedLemmas.{one_part, signed_arith}
use Rattle.std.proofs.lemmas.Int.{by_lt_z}
use Rattle.jiff_core.proofs.DateLemmas.{civil}
use Rattle.jiff_core.proofs.CalendarLemmas.{days_of_months-zero, days_of_months_all, day_count-lt_year, days_from_civil-day_count, days_of_months_more, days_of_months_mono, day_count-day_of_year, day_of_year_bound, day_count-next_year}
use Rattle.jiff_core.proofs.MarchLemmas.{day_count-early}
use Rattle.jiff_core.specs.Date.{epoch_day}
use Rattle.jiff_core.specs.declared.civil.date.Date.{Date}
use Rattle.base_value.specs.Dates.{first_day, is_day, last_day}
use borrow.Author.Differences.{up, down}
use Rattle.base_value.specs.Printing.{year_start, year_at, month_at, print_date, print_day}

-- ---- years
-- the day with which the year x + 1 begins: 365 x + x / 4 - x / 100 + x / 400 - 719162
year_start-parts : (x : ℕ) → up (year_start (x + 1)) + 719162 + x / 100 ≡ down (year_start (x + 1)) + 365 * x + x / 4 + x / 400
year_start-parts x =
    let count = day_count-early (pos (x + 1)) (x + 10000) 1 1 (omega (arith, signed_arith)) (omega arith) (omega arith) (omega arith) in
    omega (arith, days_from_civil-day_count (pos (x + 1)) 1 1)

-- the estimate is the year x + 1 or one beside it, for the n days from the year 0000 to a day of that year
near_year : (x n : ℕ) → 365 * x + x / 4 + x / 400 + 366 ≤ n + x / 100 → n + (x + 1) / 100 < 365 * (x + 1) + (x + 1) / 4 + (x + 1) / 400 + 366
    → (x ≤ n * 400 / 146097) × (n * 400 / 146097 ≤ x + 2)
near_year x n low high = omega arith

-- the choice between the estimate and the years beside it
chosen : (y near : ℕ) (after here : Bool) → (after ≡ true → y ≡ near + 1) → (after ≡ false → here ≡ true → y ≡ near) → (after ≡ false → here ≡ false → y + 1 ≡ near)
    → (if after then near + 1 else (if here then near else near - 1)) ≡ y
chosen y near true here h g f = sym (h refl)
chosen y near false true h g f = sym (g refl refl)
chosen y near false false h g f = omega (arith, f refl refl)

-- the estimate of a day's year
year_near : (day : ℤ) (x : ℕ) → year_start (x + 1) ≤ℤ day → day <ℤ year_start (x + 2)
    → (x ≤ unsigned_abs (day +ℤ pos 719528) * 400 / 146097) × (unsigned_abs (day +ℤ pos 719528) * 400 / 146097 ≤ x + 2)
year_near day x begun next =
    let here = year_start-parts x in
    let after : x + 1 + 1 ≡ x + 2 = omega arith in
    let later = rw after at (year_start-parts (x + 1)) in
    let one = one_part (day +ℤ pos 719528) in
    near_year x (unsigned_abs (day +ℤ pos 719528)) (omega (arith, signed_arith)) (omega (arith, signed_arith))

-- a year that has begun by a day is not after the day's year
begun_year : (day : ℤ) (x z : ℕ) → day <ℤ year_start (x + 2) → year_start (z + 1) ≤ℤ day → z ≤ x
begun_year day x z next begun =
    let after : x + 1 + 1 ≡ x + 2 = omega arith in
    let later = rw after at (year_start-parts (x + 1)) in
    omega (arith, signed_arith, year_start-parts z)

-- and one that has not is after it
later_year : (day : ℤ) (x z : ℕ) → year_start (x + 1) ≤ℤ day → day <ℤ year_start (z + 1) → x < z
later_year day x z begun next = omega (arith, signed_arith, year_start-parts x, year_start-parts z)

-- which of the three is the year
the_year : (day : ℤ) (x n : ℕ) → year_start (x + 1) ≤ℤ day → day <ℤ year_start (x + 2) → x ≤ n → n ≤ x + 2
    → (if int_le (year_start (n + 1)) day then n + 1 else (if int_le (year_start n) day then n else n - 1)) ≡ x + 1
the_year day x n begun next low high =
    let after = int_le (year_start (n + 1)) day in
    let here = int_le (year_start n) day in
    let more : after ≡ false → x < n = λ e. later_year day x n begun (omega (arith, signed_arith)) in
    let back : x < n → n - 1 + 1 ≡ n = λ h. omega arith in
    let yes : after ≡ false → here ≡ true → n - 1 ≤ x = λ e f. begun_year day x (n - 1) next (rw (back (more e)) (omega (arith, signed_arith))) in
    let no : after ≡ false → here ≡ false → x < n - 1 = λ e f. later_year day x (n - 1) begun (rw (back (more e)) (omega (arith, signed_arith))) in
    chosen (x + 1) n after here
    (λ e. omega (arith, begun_year day x n next (omega (arith, signed_arith))))
    (λ e f. omega (arith, more e, yes e f))
    (λ e f. omega (arith, more e, no e f))

-- the year of a day
pub year_at-is : (day : ℤ) (x : ℕ) → year_start (x + 1) ≤ℤ day → day <ℤ year_start (x + 2) → year_at day ≡ x + 1
unfolding year_at
year_at-is day x begun next =
    let near = year_near day x begun next in
    the_year day x (unsigned_abs (day +ℤ pos 719528) * 400 / 146097) begun next near.0 near.1

-- ---- months
-- a and the n numbers after it, of which l are at most m
one_more : (a m n l : ℕ) → l ≡ min n (m + 1 - (a + 1)) → cond (nat_le a m) 1 0 + l ≡ min (suc n) (m + 1 - a)
one_more a m n l h = grind (arith, nat_tests)

length_kept : (b : Bool) (x : ℕ) (xs : List ℕ) → length (cond b (x ∷ xs) xs) ≡ cond b 1 0 + length xs
length_kept true x xs = omega arith
length_kept false x xs = omega arith

-- the numbers from a on that are at most m
up_to : (test : ℕ → Bool) (m a n : ℕ) → ((k : ℕ) → a ≤ k → k < a + n → test k ≡ nat_le k m) → length (filter test (range_with_len a n)) ≡ min n (m + 1 - a)
up_to test m a zero h = omega arith
up_to test m a (suc n) h =
    let rest = up_to test m (a + 1) n (λ k low high. h k (omega arith) (omega arith)) in
    length_kept (test a) a (filter test (range_with_len (a + 1) n)) ∙ ap (λ (b : Bool). cond b 1 0 + length (filter test (range_with_len (a + 1) n))) (h a (omega arith) (omega arith)) ∙ one_more a m n _ rest

same_le : (a b c e : ℕ) → (a ≤ b → c ≤ e) → (b < a → e < c) → nat_le a b ≡ nat_le c e
same_le a b c e h g = grind (arith, nat_tests)

-- a month begins by a day of a month exactly if it is not a later one
begun_by : (y m d k : ℕ) → IsCivilDate (pos y) m d → 1 ≤ k → k < 13 → nat_le (days_of_months (pos y) (k - 1)) (days_of_months (pos y) (m - 1) + d - 1) ≡ nat_le k m
begun_by y m d k h low high =
    let more = days_of_months_more (pos y) m h.1.0 in
    sym (same_le k m (days_of_months (pos y) (k - 1)) (days_of_months (pos y) (m - 1) + d - 1)
    (λ le. omega (arith, days_of_months_mono (pos y) (k - 1) (m - 1) (omega arith)))
    (λ lt. omega (arith, days_of_months_mono (pos y) m (k - 1) (omega arith))))

-- the month of the day of a year
pub month_at-is : (y m d : ℕ) → IsCivilDate (pos y) m d → month_at y (days_of_months (pos y) (m - 1) + d - 1) ≡ m
unfolding month_at
month_at-is y m d h =
    up_to (λ month. nat_le (days_of_months (pos y) (month - 1)) (days_of_months (pos y) (m - 1) + d - 1)) m 1 12 (λ k low high. begun_by y m d k h low high) ∙ omega arith

-- ---- days
-- a date lies in its year
in_year : (y m d : ℕ) → IsCivilDate (pos y) m d → (year_start y ≤ℤ days_from_civil (pos y) m d) × (days_from_civil (pos y) m d <ℤ year_start (y + 1))
    × (unsigned_abs (days_from_civil (pos y) m d -ℤ year_start y) ≡ days_of_months (pos y) (m - 1) + d - 1)
in_year y m d h =
    let here = days_from_civil-day_count (pos y) m d in
    let first = days_from_civil-day_count (pos y) 1 1 in
    let later = days_from_civil-day_count (pos (y + 1)) 1 1 in
    let place = day_count-day_of_year (pos y) m d h.2.0 in
    let most = day_of_year_bound (pos y) m d h in
    let next = day_count-next_year (pos y) (pos (y + 1)) (omega (arith, signed_arith)) (omega (arith, signed_arith)) in
    let one = one_part (days_from_civil (pos y) m d -ℤ year_start y) in
    (omega (arith, signed_arith), omega (arith, signed_arith), omega (arith, signed_arith, h.2.0))

print_day-parts : (day : ℤ) (y m d before : ℕ) → year_at day ≡ y → unsigned_abs (day -ℤ year_start y) ≡ before → month_at y before ≡ m → before - days_of_months (pos y) (m - 1) + 1 ≡ d → print_day day ≡ print_date y m d
unfolding print_day
print_day-parts day y m d before e f g k = rw (e, f, g, k) refl

-- what is printed of the day of a date
pub dated : (y m d : ℕ) → 1 ≤ y → IsCivilDate (pos y) m d → print_day (days_from_civil (pos y) m d) ≡ print_date y m d
dated y m d low h =
    let day = days_from_civil (pos y) m d in
    let within = in_year y m d h in
    let same : y - 1 + 1 ≡ y = omega arith in
    let after : y - 1 + 2 ≡ y + 1 = omega arith in
    let year : year_at day ≡ y = year_at-is day (y - 1) (rw same within.0) (rw after within.1) ∙ same in
    print_day-parts day y m d (days_of_months (pos y) (m - 1) + d - 1) year within.2 (month_at-is y m d h) (omega (arith, h.2.0))

-- ---- the days of the years 0001 to 9999
pub day_bounds : (day : ℤ) → is_day day ≡ true → (first_day ≤ℤ day) × (day ≤ℤ last_day)
day_bounds day h =
    let p = both (int_le first_day day) (int_le day last_day) h in
    (omega (arith, signed_arith), omega (arith, signed_arith))

-- such a day is of a year from 1
pub date_year : (d : Date) (day : ℤ) → is_day day ≡ true → epoch_day d ≡ day → pos 1 ≤ℤ d.year
date_year d day h e =
    let bounds = day_bounds day h in
    by_lt_z d.year (pos 1)
    (λ lt. absurd (omega (arith, signed_arith, days_from_civil-day_count, day_count-lt_year d.year d.month d.day (pos 1) 1 1 (civil d) (omega arith) lt, year_start-parts 0)))
    (λ le. le)

pub small_year : (d : Date) → unsigned_abs d.year < 2 ^ 15
small_year d = let one = one_part d.year in omega (arith, signed_arith, d.year_in)

from_one : (z : ℤ) → pos 1 ≤ℤ z → z ≡ pos (unsigned_abs z)
from_one (pos n) h = refl
from_one (negsuc n) h = absurd (omega (arith, signed_arith))

-- what is printed of a day is its date
pub dated_day : (d : Date) (day : ℤ) → is_day day ≡ true → epoch_day d ≡ day → print_day day ≡ print_date (unsigned_abs d.year) d.month d.day
dated_day d day h e =
    let from = date_year d day h e in
    let year = from_one d.year from in
    let has : IsCivilDate (pos (unsigned_abs d.year)) d.month d.day = subst (λ (z : ℤ). IsCivilDate z d.month d.day) year (civil d) in
    ap print_day (sym e ∙ ap (λ (z : ℤ). days_from_civil z d.month d.day) year) ∙ dated (unsigned_abs d.year) d.month d.day (omega (arith, signed_arith, from)) has

-- ---- the date of a day
-- a day of a year from 1, by the number of the year less 1
pub record InYear (day : ℤ) (most : ℕ) : Type 0 where
  pub x : ℕ
  pub within : x ≤ most
  pub begun : year_start (x + 1) ≤ℤ day
  pub next : day <ℤ year_start (x + 2)

-- a day before a later year begins is of a year before it
year_within : (k : ℕ) (day : ℤ) → year_start 1 ≤ℤ day → day <ℤ year_start (k + 2) → InYear day k
year_within zero day low high = record { x = 0; within = omega arith; begun = low; next = high }
year_within (suc k) day low high =
    let same : suc k + 1 ≡ k + 2 = omega arith in
    by_lt_z day (year_start (k + 2))
    (λ lt. let it = year_within k day low lt in record { x = it.x; within = omega (arith, it.within); begun = it.begun; next = it.next })
    (λ le. record { x = suc k; within = omega arith; begun = rw same le; next = high })

-- a day of a year, in its month
pub record InMonth (y n : ℕ) : Type 0 where
  pub m : ℕ
  pub low : 1 ≤ m
  pub high : m ≤ 12
  pub begun : days_of_months (pos y) (m - 1) ≤ n
  pub next : n < days_of_months (pos y) m

month_within : (y n j : ℕ) → j ≤ 12 → n < days_of_months (pos y) j → InMonth y n
month_within y n zero few h = absurd (omega (arith, days_of_months-zero (pos y)))
month_within y n (suc j) few h =
    let back : suc j - 1 ≡ j = omega arith in
    ⊎_elim (λ lt. month_within y n j (omega arith) lt)
    (λ le. record { m = suc j; low = omega arith; high = few; begun = rw back le; next = h })
    (cases_lt n (days_of_months (pos y) j))

-- a day of the years 0001 to 9999 and its date
pub record DateOf (day : ℤ) : Type 0 where
  pub y : ℕ
  pub m : ℕ
  pub d : ℕ
  pub low : 1 ≤ y
  pub high : y < 10000
  pub civil : IsCivilDate (pos y) m d
  pub is : days_from_civil (pos y) m d ≡ day

-- a day of a year is a date of it
date_in_year : (day : ℤ) (x : ℕ) → x < 9999 → year_start (x + 1) ≤ℤ day → day <ℤ year_start (x + 2) → DateOf day
date_in_year day x few begun next =
    let n = unsigned_abs (day -ℤ year_start (x + 1)) in
    let one = one_part (day -ℤ year_start (x + 1)) in
    let first = days_from_civil-day_count (pos (x + 1)) 1 1 in
    let later = days_from_civil-day_count (pos (x + 2)) 1 1 in
    let more = day_count-next_year (pos (x + 1)) (pos (x + 2)) (omega (arith, signed_arith)) (omega (arith, signed_arith)) in
    let small : n < days_of_months (pos (x + 1)) 12 = omega (arith, signed_arith, days_of_months_all (pos (x + 1))) in
    let it = month_within (x + 1) n 12 (omega arith) small in
    let d = n - days_of_months (pos (x + 1)) (it.m - 1) + 1 in
    let long : days_of_months (pos (x + 1)) it.m ≡ days_of_months (pos (x + 1)) (it.m - 1) + days_in_month (pos (x + 1)) it.m = days_of_months_more (pos (x + 1)) it.m it.low in
    let here = days_from_civil-day_count (pos (x + 1)) it.m d in
    let place = day_count-day_of_year (pos (x + 1)) it.m d (omega arith) in
    record {
      y = x + 1;
      m = it.m;
      d = d;
      low = omega arith;
      high = omega arith;
      civil = ((omega (arith, signed_arith), omega (arith, signed_arith)), (it.low, it.high), (omega arith, omega (arith, long, it.next, it.begun)));
      is = omega (arith, signed_arith, it.begun);
    }

-- each of these days is a date's
pub date_of_day : (day : ℤ) → is_day day ≡ true → DateOf day
date_of_day day h =
    let bounds = day_bounds day h in
    let it = year_within 9998 day (omega (arith, signed_arith, year_start-parts 0)) (omega (arith, signed_arith, year_start-parts 9999)) in
    date_in_year day it.x (omega (arith, it.within)) it.begun it.next
