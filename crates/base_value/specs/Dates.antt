-- Days and moments as they are written, and the day or the second that they name.
-- Sources: ISO 8601 and RFC 3339 for the forms; Salesforce, "SOQL and SOSL Reference", "Date Formats and Date Literals in
-- WHERE", for offsets without a colon. The calendar is jiff's: the Gregorian one, also for the years before it was in use,
-- with a year 0000 before the year 0001.
use Rattle.std.specs.Prelude.{ℕ, ◌+◌, ◌-◌, ◌*◌, Bool, ◌&&◌, ◌||◌, ◌==◌, nat_le, if◌then◌else◌, List, [], ◌∷◌, length, take, drop, slice_index, codes, ℤ, pos, negsuc, ◌+ℤ◌, ◌-ℤ◌, ◌*ℤ◌, int_le}
use Rattle.std.specs.List.{list_all, prefix_len, zip}
use Rattle.jiff_core.specs.Calendar.{days_in_month, days_from_civil}
use Rattle.base_value.specs.Numerals.{is_within, is_digit, minus, point}

-- ---- ranges
-- the first day of the year 0001, counted from 1970-01-01
abbrev pub first_day : ℤ
first_day = negsuc 719161

-- the last day of the year 9999
abbrev pub last_day : ℤ
last_day = pos 2932896

-- a day of the years 0001 to 9999
abbrev pub is_day : ℤ → Bool
is_day day = int_le first_day day && int_le day last_day

-- 0001-01-01T00:00:00Z, counted from 1970-01-01T00:00:00Z
abbrev pub first_moment : ℤ
first_moment = negsuc 62135596799

-- 9999-12-31T23:59:59Z
abbrev pub last_moment : ℤ
last_moment = pos 253402300799

-- a second of the years 0001 to 9999
abbrev pub is_moment : ℤ → Bool
is_moment second = int_le first_moment second && int_le second last_moment

-- ---- forms: `0` stands for any digit, every other character for itself
-- a character has the form of another
unfoldable pub fits : ℕ → ℕ → Bool
fits form c = if form == 48 then is_digit c else form == c

-- as many characters as the form has, and each fits
unfoldable pub has_form : List ℕ → List ℕ → Bool
has_form form cs = (length form == length cs) && list_all (λ pair. fits pair.0 pair.1) (zip form cs)

-- the number that the two digits at this place spell
unfoldable pub two_at : List ℕ → ℕ → ℕ
two_at cs at = 10 * (slice_index cs at - 48) + (slice_index cs (at + 1) - 48)

-- ---- dates: `YYYY-MM-DD`
-- the year
unfoldable pub year_of : List ℕ → ℕ
year_of cs = 100 * two_at cs 0 + two_at cs 2

-- the month, from 1
abbrev pub month_of : List ℕ → ℕ
month_of cs = two_at cs 5

-- the day of the month, from 1
abbrev pub day_of : List ℕ → ℕ
day_of cs = two_at cs 8

-- the calendar has this date
abbrev pub is_calendar_date : ℕ → ℕ → ℕ → Bool
is_calendar_date year month day = is_within 1 12 month && is_within 1 (days_in_month (pos year) month) day

-- a date of the years 0000 to 9999
unfoldable pub is_date : List ℕ → Bool
is_date cs = has_form (codes "0000-00-00") cs && is_calendar_date (year_of cs) (month_of cs) (day_of cs)

-- a date of the years 0001 to 9999
unfoldable pub is_written_day : List ℕ → Bool
is_written_day cs = is_date cs && nat_le 1 (year_of cs)

-- the day of a date, counted from 1970-01-01
unfoldable pub day_number : List ℕ → ℤ
day_number cs = days_from_civil (pos (year_of cs)) (month_of cs) (day_of cs)

-- ---- moments: a date, `THH:MM:SS`, perhaps a fraction of a second, and a zone
-- a time of the day
unfoldable pub is_clock : List ℕ → Bool
is_clock cs = has_form (codes "T00:00:00") cs && (nat_le (two_at cs 1) 23 && (nat_le (two_at cs 4) 59 && nat_le (two_at cs 7) 59))

-- the seconds from midnight to this time
unfoldable pub clock_seconds : List ℕ → ℕ
clock_seconds cs = 3600 * two_at cs 1 + 60 * two_at cs 4 + two_at cs 7

-- how many characters a point and the digits after it are
unfoldable pub fraction_len : List ℕ → ℕ
fraction_len [] = 0
fraction_len (c ∷ cs) = if c == point then 1 + prefix_len is_digit cs else 0

-- no fraction, or a point and 1 to 9 digits
unfoldable pub is_fraction_len : ℕ → Bool
is_fraction_len n = (n == 0) || is_within 2 10 n

-- the zone that is UTC by name
unfoldable pub is_utc : List ℕ → Bool
is_utc zone = has_form (codes "Z") zone

-- the forms of hours and minutes by which the clocks are ahead of UTC, or behind it
unfoldable pub is_offset : List ℕ → Bool
is_offset zone = has_form (codes "+0000") zone || (has_form (codes "-0000") zone || (has_form (codes "+00:00") zone || has_form (codes "-00:00") zone))

-- the minutes of an offset, which are its last two digits
unfoldable pub offset_minutes : List ℕ → ℕ
offset_minutes zone = two_at zone (length zone - 2)

-- UTC, or an offset of less than a day
unfoldable pub is_zone : List ℕ → Bool
is_zone zone = is_utc zone || (is_offset zone && (nat_le (two_at zone 1) 23 && nat_le (offset_minutes zone) 59))

-- how many seconds the clocks are from UTC
unfoldable pub offset_seconds : List ℕ → ℕ
offset_seconds zone = if is_utc zone then 0 else 3600 * two_at zone 1 + 60 * offset_minutes zone

-- how many seconds the clocks are ahead of UTC
unfoldable pub ahead : List ℕ → ℤ
ahead zone = if slice_index zone 0 == minus then pos 0 -ℤ pos (offset_seconds zone) else pos (offset_seconds zone)

-- the zone, from what follows the seconds
unfoldable pub zone_of : List ℕ → List ℕ
zone_of rest = drop (fraction_len rest) rest

-- the form of a moment
unfoldable pub is_moment_form : List ℕ → Bool
is_moment_form cs = is_date (take 10 cs) && (is_clock (take 9 (drop 10 cs)) && (is_fraction_len (fraction_len (drop 19 cs)) && is_zone (zone_of (drop 19 cs))))

-- the second that a moment names, counted from 1970-01-01T00:00:00Z
unfoldable pub moment_seconds : List ℕ → ℤ
moment_seconds cs =
    let here = day_number (take 10 cs) *ℤ pos 86400 +ℤ pos (clock_seconds (take 9 (drop 10 cs))) in
    here -ℤ ahead (zone_of (drop 19 cs))

-- a moment of the years 0001 to 9999 in UTC
unfoldable pub is_written_moment : List ℕ → Bool
is_written_moment cs = is_moment_form cs && is_moment (moment_seconds cs)
