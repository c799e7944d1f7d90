-- The printed text of a value.
-- Sources: ISO 8601 for days and moments; Salesforce, "Date Formats and Date Literals", for the form of a moment.
use Rattle.std.specs.Prelude.{ℕ, zero, suc, ◌+◌, ◌-◌, ◌*◌, ◌/◌, ◌%◌, ◌^◌, Bool, true, false, ◌==◌, nat_le, if◌then◌else◌, List, [], ◌∷◌, ◌++◌, length, map, filter, codes, ℤ, pos, negsuc, ◌+ℤ◌, ◌-ℤ◌, int_le, unsigned_abs}
use Rattle.std.specs.Fmt.{decimal}
use Rattle.std.specs.Int.{int_div_euclid, int_rem_euclid}
use Rattle.std.specs.List.{range_with_len}
use Rattle.jiff_core.specs.Calendar.{days_from_civil, days_of_months}
use Rattle.base_value.specs.Digits.{digits}
use Rattle.base_value.specs.Id.{print18}
use Rattle.base_value.specs.Numerals.{minus, point}
use Rattle.base_value.specs.Dates.{is_day, is_moment}
use Rattle.base_value.specs.declared.value.Value.{Value}
use Rattle.base_value.specs.declared.value.Value.TheVariants as value

-- ---- numbers
-- a number is a count of 10^-8
abbrev pub scale : ℕ
scale = 10 ^ 8

-- the digits of f in so many places, without the zeros at their end
unfoldable pub print_places : ℕ → ℕ → List ℕ
print_places zero f = []
print_places (suc k) f = if f == 0 then [] else (48 + f / 10 ^ k) ∷ print_places k (f % 10 ^ k)

-- a point and the fraction, or nothing
abbrev pub print_fraction : ℕ → List ℕ
print_fraction f = if f == 0 then [] else point ∷ print_places 8 f

-- a number without a sign
unfoldable pub print_size : ℕ → List ℕ
print_size n = decimal (n / scale) ++ print_fraction (n % scale)

-- a number
abbrev pub print_number : ℤ → List ℕ
print_number (pos n) = print_size n
print_number (negsuc n) = minus ∷ print_size (suc n)

-- ---- days and moments
-- a number in so many decimal digits
unfoldable pub padded : ℕ → ℕ → List ℕ
padded k n = map (λ d. 48 + d) (digits 10 k n)

-- the day with which a year begins
abbrev pub year_start : ℕ → ℤ
year_start year = days_from_civil (pos year) 1 1

-- the year of a day: the last that has begun by then. 400 years have 146097 days, and 1970 began 719528 days after 0000
unfoldable pub year_at : ℤ → ℕ
year_at day =
    let near = unsigned_abs (day +ℤ pos 719528) * 400 / 146097 in
    if int_le (year_start (near + 1)) day then near + 1 else (if int_le (year_start near) day then near else near - 1)

-- the month of the day of a year that so many days are before: the last that has begun by then
unfoldable pub month_at : ℕ → ℕ → ℕ
month_at year n = length (filter (λ month. nat_le (days_of_months (pos year) (month - 1)) n) (range_with_len 1 12))

-- a year, a month and a day
unfoldable pub print_date : ℕ → ℕ → ℕ → List ℕ
print_date year month day = padded 4 year ++ codes "-" ++ padded 2 month ++ codes "-" ++ padded 2 day

-- `YYYY-MM-DD`
unfoldable pub print_day : ℤ → List ℕ
print_day day =
    let year = year_at day in
    let before = unsigned_abs (day -ℤ year_start year) in
    let month = month_at year before in
    print_date year month (before - days_of_months (pos year) (month - 1) + 1)

-- `HH:MM:SS`
unfoldable pub print_clock : ℕ → List ℕ
print_clock second = padded 2 (second / 3600) ++ codes ":" ++ padded 2 (second / 60 % 60) ++ codes ":" ++ padded 2 (second % 60)

-- the day of a moment, in UTC
abbrev pub day_of_moment : ℤ → ℤ
day_of_moment second = int_div_euclid second (pos 86400)

-- `YYYY-MM-DDTHH:MM:SS.000+0000`
unfoldable pub print_moment : ℤ → List ℕ
print_moment second =
    print_day (day_of_moment second) ++ codes "T" ++ print_clock (unsigned_abs (int_rem_euclid second (pos 86400))) ++ codes ".000+0000"

-- ---- values
-- null prints nothing
abbrev pub print_value : Value → List ℕ
print_value value.Null = []
print_value (value.Text cs) = cs
print_value (value.Num count) = print_number count
print_value (value.Bool true) = codes "true"
print_value (value.Bool false) = codes "false"
print_value (value.Day day) = print_day day
print_value (value.Moment second) = print_moment second
print_value (value.Ref id) = print18 id

-- the days and moments that have a text are those of the years 0001 to 9999
abbrev pub is_printable : Value → Bool
is_printable (value.Day day) = is_day day
is_printable (value.Moment second) = is_moment second
is_printable _ = true
