-- Dates of the calendar by their parts.
use Rattle.std.proofs.Common.{◌≡◌, ℕ, ◌<◌, ◌≤◌, ◌↔◌, true, IsTrue, List, Option, IsSome, IfSome, Result, Ok, Err, IsOk, IfOk, refl, arith, ℤ, pos, to_z, of_z, w32}
use mir.Syntax.{w16}
use lib.Signed.{le_z}
use Rattle.std.specs.Prelude.{codes, nat_le}
use Rattle.std.specs.Result.{result_ok}
use Rattle.std.proofs.lemmas.Bool.Decides.{nat_tests}
use Rattle.std.proofs.lemmas.Bool.{and_parts as both}
use Rattle.jiff_core.specs.declared.civil.date.Date.{Date}
use Rattle.jiff_core.specs.declared.error.Error.{Error}
use Rattle.jiff_core.specs.Calendar.{IsBetween, IsYear, IsEpochDay, IsDate, days_in_month}
use Rattle.jiff_core.specs.Date.{IsYmd, epoch_day}
use Rattle.jiff_core.proofs.SignedLemmas.{signed_arith, back_small, one_part}
use Rattle.base_value.specs.Numerals.{is_within}
use Rattle.base_value.specs.Dates.{has_form, is_date, is_calendar_date, day_number, year_of, month_of, day_of}
use Rattle.base_value.proofs.WrittenForms.{date_parts}

between : (low high n : ℕ) → IsBetween (pos low) (pos high) (pos n) → (low ≤ n) × (n ≤ high)
between low high n h = (omega (arith, signed_arith), omega (arith, signed_arith))

between_out : (low high n : ℕ) → low ≤ n → n ≤ high → IsBetween (pos low) (pos high) (pos n)
between_out low high n l h = (omega (arith, signed_arith), omega (arith, signed_arith))

within : (low high n : ℕ) → low ≤ n → n ≤ high → is_within low high n ≡ true
within low high n l h = grind (arith, nat_tests)

within_out : (low high n : ℕ) → is_within low high n ≡ true → (low ≤ n) × (n ≤ high)
within_out low high n h = (grind (arith, nat_tests), grind (arith, nat_tests))

-- the calendar's word for a date with these parts, and that of the definitions
pub date_is : (y m d : ℕ) → IsDate (pos y) (pos m) (pos d) → is_calendar_date y m d ≡ true
date_is y m d h =
    let days = days_in_month (pos y) m in
    let month = between 1 12 m h.1 in
    let day = between 1 days d h.2 in
    rw (within 1 12 m month.0 month.1, within 1 days d day.0 day.1) refl

pub is_calendar : (y m d : ℕ) → y < 10000 → is_calendar_date y m d ≡ true → IsDate (pos y) (pos m) (pos d)
is_calendar y m d small h =
    let days = days_in_month (pos y) m in
    let parts = both (is_within 1 12 m) (is_within 1 days d) h in
    let month = within_out 1 12 m parts.0 in
    let day = within_out 1 days d parts.1 in
    ((omega (arith, signed_arith), omega (arith, signed_arith)), between_out 1 12 m month.0 month.1, between_out 1 days d day.0 day.1)

-- the day of a date with the parts that the characters have
pub day_of_parts : (cs : List ℕ) (date : Date) → IsYmd (pos (year_of cs)) (pos (month_of cs)) (pos (day_of cs)) date → epoch_day date ≡ day_number cs
unfolding day_number
day_of_parts cs date h =
    let month : date.month ≡ month_of cs = omega (arith, signed_arith) in
    let day : date.day ≡ day_of cs = omega (arith, signed_arith) in
    rw (h.0, month, day) refl

-- the calendar's answer for the parts that the characters have
pub date_read : (cs : List ℕ) (r : Result Date Error) (o : Option Date) → has_form (codes "0000-00-00") cs ≡ true → o ≡ result_ok r → (IsOk r ↔ IsDate (pos (year_of cs)) (pos (month_of cs)) (pos (day_of cs))) → IfOk r (IsYmd (pos (year_of cs)) (pos (month_of cs)) (pos (day_of cs))) → (IsSome o ↔ IsTrue (is_date cs)) × IfSome o (IsYmd (pos (year_of cs)) (pos (month_of cs)) (pos (day_of cs)))
unfolding is_date
date_read cs (Ok date) o form e is parts =
    rw (e, form) ((λ h. date_is (year_of cs) (month_of cs) (day_of cs) (is.0 refl), λ h. refl), parts)
date_read cs (Err why) o form e is parts =
    rw (e, form) ((λ h. absurd cc, λ h. is.1 (is_calendar (year_of cs) (month_of cs) (day_of cs) (date_parts cs form).0 h)), tt)

-- a year that is kept in 16 bits
pub year_kept : (y : ℤ) (n : ℕ) → IsYear y → y ≡ pos n → le_z (pos 1) (to_z w16 (of_z w16 y)) ≡ nat_le 1 n
year_kept y n range e =
    let kept : to_z w16 (of_z w16 y) ≡ y = back_small w16 y (omega (arith, signed_arith)) in
    rw (kept, e) refl

pub day_kept : (day : ℤ) → IsEpochDay day → to_z w32 (of_z w32 day) ≡ day
day_kept day h = back_small w32 day (omega (arith, signed_arith, one_part day))
