-- What was read as a day or a moment is one.
use Rattle.std.proofs.Common.{◌≡◌, ℕ, ◌≤◌, true, ◌&&◌, List, Ok, refl, sym, ap, ◌∙◌, arith, ℤ, pos, ◌≤ℤ◌}
use Rattle.std.specs.Prelude.{codes, nat_le}
use Rattle.std.proofs.lemmas.Bool.Decides.{nat_tests}
use Rattle.std.proofs.lemmas.Int.{by_lt_z}
use Rattle.std.proofs.lemmas.Bool.{and_parts as both}
use Rattle.jiff_core.specs.Calendar.{IsCivilDate, IsDate, day_count, days_from_civil, days_in_month}
use Rattle.jiff_core.proofs.CalendarLemmas.{day_count_bounds, day_count-day_of_year, day_count-later_year, days_from_civil-day_count}
use Rattle.jiff_core.proofs.MarchLemmas.{day_count-early}
use Rattle.jiff_core.proofs.SignedLemmas.{signed_arith}
use Rattle.base_value.specs.Dates.{first_day, last_day, is_day, has_form, is_calendar_date, is_date, is_written_day, day_number, year_of, month_of, day_of, is_moment_form, moment_seconds, is_moment}
use Rattle.base_value.specs.Reading.{read_day, read_moment}
use Rattle.base_value.specs.declared.fail.ValueFail.TheVariants.{WrongType, OutOfRange}
use Rattle.base_value.proofs.Choices.{ok_given, ok_in_turn}
use Rattle.base_value.proofs.WrittenDates.{is_calendar}
use Rattle.base_value.proofs.WrittenForms.{date_parts}

-- the days before 0001-01-01 in the calendar's count
first_count : day_count (pos 1) 1 1 ≡ 3_652_791
first_count = day_count-early (pos 1) 10000 1 1 refl (omega arith) (omega arith) (omega arith)

-- no date from the year 1 on lies before it
not_before : (y m d : ℕ) → IsCivilDate (pos y) m d → 1 ≤ y → 3_652_791 ≤ day_count (pos y) m d
not_before y m d h low =
    by_lt_z (pos 1) (pos y)
    (λ lt. omega (arith, first_count, day_count-later_year (pos 1) (pos y) (omega (arith, signed_arith)) lt, day_count-day_of_year (pos y) m d h.2.0))
    (λ le. let one : pos y ≡ pos 1 = omega (arith, signed_arith) in
    rw one (omega (arith, first_count, rw one at (day_count-day_of_year (pos y) m d h.2.0))))

civil : (y m d : ℕ) → IsDate (pos y) (pos m) (pos d) → IsCivilDate (pos y) m d
civil y m d h =
    let days = days_in_month (pos y) m in
    (h.0, (omega (arith, signed_arith), omega (arith, signed_arith)), (omega (arith, signed_arith), omega (arith, signed_arith)))

in_days : (day : ℤ) → first_day ≤ℤ day → day ≤ℤ last_day → is_day day ≡ true
in_days day low high = grind (arith, signed_arith)

civil_day : (y m d : ℕ) → IsCivilDate (pos y) m d → 1 ≤ y → is_day (days_from_civil (pos y) m d) ≡ true
civil_day y m d h low =
    let day = days_from_civil (pos y) m d in
    let count = days_from_civil-day_count (pos y) m d in
    let above = not_before y m d h low in
    let below = (day_count_bounds (pos y) m d h).1 in
    in_days day (omega (arith, signed_arith)) (omega (arith, signed_arith))

pub day_valid : (cs : List ℕ) (day : ℤ) → read_day cs ≡ Ok day → is_day day ≡ true
unfolding read_day is_written_day is_date day_number
day_valid cs day e =
    let y = year_of cs in
    let m = month_of cs in
    let d = day_of cs in
    let form = has_form (codes "0000-00-00") cs in
    let read = ok_given (form && is_calendar_date y m d && nat_le 1 y) (days_from_civil (pos y) m d) day WrongType e in
    let parts = both (form && is_calendar_date y m d) (nat_le 1 y) read.0 in
    let date = both form (is_calendar_date y m d) parts.0 in
    let low : 1 ≤ y = grind (arith, nat_tests, parts.1) in
    let is = civil y m d (is_calendar y m d (date_parts cs date.0).0 date.1) in
    ap is_day (sym read.1) ∙ civil_day y m d is low

pub moment_valid : (cs : List ℕ) (second : ℤ) → read_moment cs ≡ Ok second → is_moment second ≡ true
unfolding read_moment
moment_valid cs second e =
    let read = ok_in_turn (is_moment_form cs) (is_moment (moment_seconds cs)) (moment_seconds cs) second OutOfRange WrongType e in
    ap is_moment (sym read.1) ∙ read.0
