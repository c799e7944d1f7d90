use Rattle.std.proofs.Common.{refl}
use Rattle.std.specs.Fmt.{digits as fmt_digits}
use Rattle.caseless.specs.Caseless.{default_case_fold}
use Rattle.jiff_core.specs.Calendar.{days_from_civil, day_count, days_of_years, days_of_months}
use Rattle.ucd_case.specs.CaseFolding.{full_folding}
use Rattle.ucd_case.specs.FullFoldingRows.{full_folding_rows}
use Rattle.ucd_table.specs.Rows.{value_in}
use Rattle.base_value.specs.Digits.{digits}
use Rattle.base_value.specs.Id.{id_in}
use Rattle.base_value.specs.Numerals.{is_digit, without_sign, is_unsigned_numeral, is_numeral, of_digits, exactly, size_of, is_negative}
use Rattle.base_value.specs.Dates.{fits, has_form, two_at, year_of, is_date, is_written_day, day_number, is_clock, clock_seconds, fraction_len, is_fraction_len, is_utc, is_offset, offset_minutes, is_zone, offset_seconds, ahead, zone_of, is_moment_form, moment_seconds}
use Rattle.base_value.specs.Printing.{print_places, print_size, padded, year_at, month_at, print_date, print_day, print_clock, print_moment}
use Rattle.base_value.specs.Reading.{read_number, read_truth, read_day, read_moment}
use Rattle.base_value.proofs.rows.value_rows.Goals as goal

pub returns-clause-exact : goal.returns-clause-exact
unfolding fmt_digits default_case_fold days_from_civil day_count days_of_years days_of_months full_folding full_folding_rows value_in digits id_in is_digit without_sign is_unsigned_numeral is_numeral of_digits exactly size_of is_negative fits has_form two_at year_of is_date is_written_day day_number is_clock clock_seconds fraction_len is_fraction_len is_utc is_offset offset_minutes is_zone offset_seconds ahead zone_of is_moment_form moment_seconds print_places print_size padded year_at month_at print_date print_day print_clock print_moment read_number read_truth read_day read_moment
returns-clause-exact c = refl

pub returns-clause-printed : goal.returns-clause-printed
unfolding fmt_digits default_case_fold days_from_civil day_count days_of_years days_of_months full_folding full_folding_rows value_in digits id_in is_digit without_sign is_unsigned_numeral is_numeral of_digits exactly size_of is_negative fits has_form two_at year_of is_date is_written_day day_number is_clock clock_seconds fraction_len is_fraction_len is_utc is_offset offset_minutes is_zone offset_seconds ahead zone_of is_moment_form moment_seconds print_places print_size padded year_at month_at print_date print_day print_clock print_moment read_number read_truth read_day read_moment
returns-clause-printed c = refl

pub returns-clause-beyond : goal.returns-clause-beyond
unfolding fmt_digits default_case_fold days_from_civil day_count days_of_years days_of_months full_folding full_folding_rows value_in digits id_in is_digit without_sign is_unsigned_numeral is_numeral of_digits exactly size_of is_negative fits has_form two_at year_of is_date is_written_day day_number is_clock clock_seconds fraction_len is_fraction_len is_utc is_offset offset_minutes is_zone offset_seconds ahead zone_of is_moment_form moment_seconds print_places print_size padded year_at month_at print_date print_day print_clock print_moment read_number read_truth read_day read_moment
returns-clause-beyond c = refl

pub returns-clause-minus : goal.returns-clause-minus
unfolding fmt_digits default_case_fold days_from_civil day_count days_of_years days_of_months full_folding full_folding_rows value_in digits id_in is_digit without_sign is_unsigned_numeral is_numeral of_digits exactly size_of is_negative fits has_form two_at year_of is_date is_written_day day_number is_clock clock_seconds fraction_len is_fraction_len is_utc is_offset offset_minutes is_zone offset_seconds ahead zone_of is_moment_form moment_seconds print_places print_size padded year_at month_at print_date print_day print_clock print_moment read_number read_truth read_day read_moment
returns-clause-minus c = refl

pub returns-clause-fine : goal.returns-clause-fine
unfolding fmt_digits default_case_fold days_from_civil day_count days_of_years days_of_months full_folding full_folding_rows value_in digits id_in is_digit without_sign is_unsigned_numeral is_numeral of_digits exactly size_of is_negative fits has_form two_at year_of is_date is_written_day day_number is_clock clock_seconds fraction_len is_fraction_len is_utc is_offset offset_minutes is_zone offset_seconds ahead zone_of is_moment_form moment_seconds print_places print_size padded year_at month_at print_date print_day print_clock print_moment read_number read_truth read_day read_moment
returns-clause-fine c = refl

pub returns-clause-half : goal.returns-clause-half
unfolding fmt_digits default_case_fold days_from_civil day_count days_of_years days_of_months full_folding full_folding_rows value_in digits id_in is_digit without_sign is_unsigned_numeral is_numeral of_digits exactly size_of is_negative fits has_form two_at year_of is_date is_written_day day_number is_clock clock_seconds fraction_len is_fraction_len is_utc is_offset offset_minutes is_zone offset_seconds ahead zone_of is_moment_form moment_seconds print_places print_size padded year_at month_at print_date print_day print_clock print_moment read_number read_truth read_day read_moment
returns-clause-half c = refl

pub returns-clause-word : goal.returns-clause-word
unfolding fmt_digits default_case_fold days_from_civil day_count days_of_years days_of_months full_folding full_folding_rows value_in digits id_in is_digit without_sign is_unsigned_numeral is_numeral of_digits exactly size_of is_negative fits has_form two_at year_of is_date is_written_day day_number is_clock clock_seconds fraction_len is_fraction_len is_utc is_offset offset_minutes is_zone offset_seconds ahead zone_of is_moment_form moment_seconds print_places print_size padded year_at month_at print_date print_day print_clock print_moment read_number read_truth read_day read_moment
returns-clause-word c = refl

pub returns-clause-point : goal.returns-clause-point
unfolding fmt_digits default_case_fold days_from_civil day_count days_of_years days_of_months full_folding full_folding_rows value_in digits id_in is_digit without_sign is_unsigned_numeral is_numeral of_digits exactly size_of is_negative fits has_form two_at year_of is_date is_written_day day_number is_clock clock_seconds fraction_len is_fraction_len is_utc is_offset offset_minutes is_zone offset_seconds ahead zone_of is_moment_form moment_seconds print_places print_size padded year_at month_at print_date print_day print_clock print_moment read_number read_truth read_day read_moment
returns-clause-point c = refl

pub returns-clause-empty : goal.returns-clause-empty
unfolding fmt_digits default_case_fold days_from_civil day_count days_of_years days_of_months full_folding full_folding_rows value_in digits id_in is_digit without_sign is_unsigned_numeral is_numeral of_digits exactly size_of is_negative fits has_form two_at year_of is_date is_written_day day_number is_clock clock_seconds fraction_len is_fraction_len is_utc is_offset offset_minutes is_zone offset_seconds ahead zone_of is_moment_form moment_seconds print_places print_size padded year_at month_at print_date print_day print_clock print_moment read_number read_truth read_day read_moment
returns-clause-empty c = refl

pub returns-clause-truth : goal.returns-clause-truth
unfolding fmt_digits default_case_fold days_from_civil day_count days_of_years days_of_months full_folding full_folding_rows value_in digits id_in is_digit without_sign is_unsigned_numeral is_numeral of_digits exactly size_of is_negative fits has_form two_at year_of is_date is_written_day day_number is_clock clock_seconds fraction_len is_fraction_len is_utc is_offset offset_minutes is_zone offset_seconds ahead zone_of is_moment_form moment_seconds print_places print_size padded year_at month_at print_date print_day print_clock print_moment read_number read_truth read_day read_moment
returns-clause-truth c = refl

pub returns-clause-day : goal.returns-clause-day
unfolding fmt_digits default_case_fold days_from_civil day_count days_of_years days_of_months full_folding full_folding_rows value_in digits id_in is_digit without_sign is_unsigned_numeral is_numeral of_digits exactly size_of is_negative fits has_form two_at year_of is_date is_written_day day_number is_clock clock_seconds fraction_len is_fraction_len is_utc is_offset offset_minutes is_zone offset_seconds ahead zone_of is_moment_form moment_seconds print_places print_size padded year_at month_at print_date print_day print_clock print_moment read_number read_truth read_day read_moment
returns-clause-day c = refl

pub returns-clause-day_back : goal.returns-clause-day_back
unfolding fmt_digits default_case_fold days_from_civil day_count days_of_years days_of_months full_folding full_folding_rows value_in digits id_in is_digit without_sign is_unsigned_numeral is_numeral of_digits exactly size_of is_negative fits has_form two_at year_of is_date is_written_day day_number is_clock clock_seconds fraction_len is_fraction_len is_utc is_offset offset_minutes is_zone offset_seconds ahead zone_of is_moment_form moment_seconds print_places print_size padded year_at month_at print_date print_day print_clock print_moment read_number read_truth read_day read_moment
returns-clause-day_back c = refl

pub returns-clause-first_day : goal.returns-clause-first_day
unfolding fmt_digits default_case_fold days_from_civil day_count days_of_years days_of_months full_folding full_folding_rows value_in digits id_in is_digit without_sign is_unsigned_numeral is_numeral of_digits exactly size_of is_negative fits has_form two_at year_of is_date is_written_day day_number is_clock clock_seconds fraction_len is_fraction_len is_utc is_offset offset_minutes is_zone offset_seconds ahead zone_of is_moment_form moment_seconds print_places print_size padded year_at month_at print_date print_day print_clock print_moment read_number read_truth read_day read_moment
returns-clause-first_day c = refl

pub returns-clause-last_day : goal.returns-clause-last_day
unfolding fmt_digits default_case_fold days_from_civil day_count days_of_years days_of_months full_folding full_folding_rows value_in digits id_in is_digit without_sign is_unsigned_numeral is_numeral of_digits exactly size_of is_negative fits has_form two_at year_of is_date is_written_day day_number is_clock clock_seconds fraction_len is_fraction_len is_utc is_offset offset_minutes is_zone offset_seconds ahead zone_of is_moment_form moment_seconds print_places print_size padded year_at month_at print_date print_day print_clock print_moment read_number read_truth read_day read_moment
returns-clause-last_day c = refl

pub returns-clause-leap : goal.returns-clause-leap
unfolding fmt_digits default_case_fold days_from_civil day_count days_of_years days_of_months full_folding full_folding_rows value_in digits id_in is_digit without_sign is_unsigned_numeral is_numeral of_digits exactly size_of is_negative fits has_form two_at year_of is_date is_written_day day_number is_clock clock_seconds fraction_len is_fraction_len is_utc is_offset offset_minutes is_zone offset_seconds ahead zone_of is_moment_form moment_seconds print_places print_size padded year_at month_at print_date print_day print_clock print_moment read_number read_truth read_day read_moment
returns-clause-leap c = refl

pub returns-clause-no_leap : goal.returns-clause-no_leap
unfolding fmt_digits default_case_fold days_from_civil day_count days_of_years days_of_months full_folding full_folding_rows value_in digits id_in is_digit without_sign is_unsigned_numeral is_numeral of_digits exactly size_of is_negative fits has_form two_at year_of is_date is_written_day day_number is_clock clock_seconds fraction_len is_fraction_len is_utc is_offset offset_minutes is_zone offset_seconds ahead zone_of is_moment_form moment_seconds print_places print_size padded year_at month_at print_date print_day print_clock print_moment read_number read_truth read_day read_moment
returns-clause-no_leap c = refl

pub returns-clause-moment : goal.returns-clause-moment
unfolding fmt_digits default_case_fold days_from_civil day_count days_of_years days_of_months full_folding full_folding_rows value_in digits id_in is_digit without_sign is_unsigned_numeral is_numeral of_digits exactly size_of is_negative fits has_form two_at year_of is_date is_written_day day_number is_clock clock_seconds fraction_len is_fraction_len is_utc is_offset offset_minutes is_zone offset_seconds ahead zone_of is_moment_form moment_seconds print_places print_size padded year_at month_at print_date print_day print_clock print_moment read_number read_truth read_day read_moment
returns-clause-moment c = refl

pub returns-clause-moment_back : goal.returns-clause-moment_back
unfolding fmt_digits default_case_fold days_from_civil day_count days_of_years days_of_months full_folding full_folding_rows value_in digits id_in is_digit without_sign is_unsigned_numeral is_numeral of_digits exactly size_of is_negative fits has_form two_at year_of is_date is_written_day day_number is_clock clock_seconds fraction_len is_fraction_len is_utc is_offset offset_minutes is_zone offset_seconds ahead zone_of is_moment_form moment_seconds print_places print_size padded year_at month_at print_date print_day print_clock print_moment read_number read_truth read_day read_moment
returns-clause-moment_back c = refl

pub returns-clause-before_epoch : goal.returns-clause-before_epoch
unfolding fmt_digits default_case_fold days_from_civil day_count days_of_years days_of_months full_folding full_folding_rows value_in digits id_in is_digit without_sign is_unsigned_numeral is_numeral of_digits exactly size_of is_negative fits has_form two_at year_of is_date is_written_day day_number is_clock clock_seconds fraction_len is_fraction_len is_utc is_offset offset_minutes is_zone offset_seconds ahead zone_of is_moment_form moment_seconds print_places print_size padded year_at month_at print_date print_day print_clock print_moment read_number read_truth read_day read_moment
returns-clause-before_epoch c = refl

pub returns-clause-year_zero : goal.returns-clause-year_zero
unfolding fmt_digits default_case_fold days_from_civil day_count days_of_years days_of_months full_folding full_folding_rows value_in digits id_in is_digit without_sign is_unsigned_numeral is_numeral of_digits exactly size_of is_negative fits has_form two_at year_of is_date is_written_day day_number is_clock clock_seconds fraction_len is_fraction_len is_utc is_offset offset_minutes is_zone offset_seconds ahead zone_of is_moment_form moment_seconds print_places print_size padded year_at month_at print_date print_day print_clock print_moment read_number read_truth read_day read_moment
returns-clause-year_zero c = refl

pub returns-clause-year_zero_out : goal.returns-clause-year_zero_out
unfolding fmt_digits default_case_fold days_from_civil day_count days_of_years days_of_months full_folding full_folding_rows value_in digits id_in is_digit without_sign is_unsigned_numeral is_numeral of_digits exactly size_of is_negative fits has_form two_at year_of is_date is_written_day day_number is_clock clock_seconds fraction_len is_fraction_len is_utc is_offset offset_minutes is_zone offset_seconds ahead zone_of is_moment_form moment_seconds print_places print_size padded year_at month_at print_date print_day print_clock print_moment read_number read_truth read_day read_moment
returns-clause-year_zero_out c = refl

pub returns-clause-to_number : goal.returns-clause-to_number
unfolding fmt_digits default_case_fold days_from_civil day_count days_of_years days_of_months full_folding full_folding_rows value_in digits id_in is_digit without_sign is_unsigned_numeral is_numeral of_digits exactly size_of is_negative fits has_form two_at year_of is_date is_written_day day_number is_clock clock_seconds fraction_len is_fraction_len is_utc is_offset offset_minutes is_zone offset_seconds ahead zone_of is_moment_form moment_seconds print_places print_size padded year_at month_at print_date print_day print_clock print_moment read_number read_truth read_day read_moment
returns-clause-to_number c = refl

pub returns-clause-stuck : goal.returns-clause-stuck
unfolding fmt_digits default_case_fold days_from_civil day_count days_of_years days_of_months full_folding full_folding_rows value_in digits id_in is_digit without_sign is_unsigned_numeral is_numeral of_digits exactly size_of is_negative fits has_form two_at year_of is_date is_written_day day_number is_clock clock_seconds fraction_len is_fraction_len is_utc is_offset offset_minutes is_zone offset_seconds ahead zone_of is_moment_form moment_seconds print_places print_size padded year_at month_at print_date print_day print_clock print_moment read_number read_truth read_day read_moment
returns-clause-stuck c = refl

pub returns-clause-to_day : goal.returns-clause-to_day
unfolding fmt_digits default_case_fold days_from_civil day_count days_of_years days_of_months full_folding full_folding_rows value_in digits id_in is_digit without_sign is_unsigned_numeral is_numeral of_digits exactly size_of is_negative fits has_form two_at year_of is_date is_written_day day_number is_clock clock_seconds fraction_len is_fraction_len is_utc is_offset offset_minutes is_zone offset_seconds ahead zone_of is_moment_form moment_seconds print_places print_size padded year_at month_at print_date print_day print_clock print_moment read_number read_truth read_day read_moment
returns-clause-to_day c = refl

pub returns-clause-folded : goal.returns-clause-folded
unfolding fmt_digits default_case_fold days_from_civil day_count days_of_years days_of_months full_folding full_folding_rows value_in digits id_in is_digit without_sign is_unsigned_numeral is_numeral of_digits exactly size_of is_negative fits has_form two_at year_of is_date is_written_day day_number is_clock clock_seconds fraction_len is_fraction_len is_utc is_offset offset_minutes is_zone offset_seconds ahead zone_of is_moment_form moment_seconds print_places print_size padded year_at month_at print_date print_day print_clock print_moment read_number read_truth read_day read_moment
returns-clause-folded c = refl

pub returns-clause-folded_street : goal.returns-clause-folded_street
unfolding fmt_digits default_case_fold days_from_civil day_count days_of_years days_of_months full_folding full_folding_rows value_in digits id_in is_digit without_sign is_unsigned_numeral is_numeral of_digits exactly size_of is_negative fits has_form two_at year_of is_date is_written_day day_number is_clock clock_seconds fraction_len is_fraction_len is_utc is_offset offset_minutes is_zone offset_seconds ahead zone_of is_moment_form moment_seconds print_places print_size padded year_at month_at print_date print_day print_clock print_moment read_number read_truth read_day read_moment
returns-clause-folded_street c = refl

pub returns-clause-short : goal.returns-clause-short
unfolding fmt_digits default_case_fold days_from_civil day_count days_of_years days_of_months full_folding full_folding_rows value_in digits id_in is_digit without_sign is_unsigned_numeral is_numeral of_digits exactly size_of is_negative fits has_form two_at year_of is_date is_written_day day_number is_clock clock_seconds fraction_len is_fraction_len is_utc is_offset offset_minutes is_zone offset_seconds ahead zone_of is_moment_form moment_seconds print_places print_size padded year_at month_at print_date print_day print_clock print_moment read_number read_truth read_day read_moment
returns-clause-short c = refl

pub returns-clause-short_again : goal.returns-clause-short_again
unfolding fmt_digits default_case_fold days_from_civil day_count days_of_years days_of_months full_folding full_folding_rows value_in digits id_in is_digit without_sign is_unsigned_numeral is_numeral of_digits exactly size_of is_negative fits has_form two_at year_of is_date is_written_day day_number is_clock clock_seconds fraction_len is_fraction_len is_utc is_offset offset_minutes is_zone offset_seconds ahead zone_of is_moment_form moment_seconds print_places print_size padded year_at month_at print_date print_day print_clock print_moment read_number read_truth read_day read_moment
returns-clause-short_again c = refl

pub returns-clause-most_ahead : goal.returns-clause-most_ahead
unfolding fmt_digits default_case_fold days_from_civil day_count days_of_years days_of_months full_folding full_folding_rows value_in digits id_in is_digit without_sign is_unsigned_numeral is_numeral of_digits exactly size_of is_negative fits has_form two_at year_of is_date is_written_day day_number is_clock clock_seconds fraction_len is_fraction_len is_utc is_offset offset_minutes is_zone offset_seconds ahead zone_of is_moment_form moment_seconds print_places print_size padded year_at month_at print_date print_day print_clock print_moment read_number read_truth read_day read_moment
returns-clause-most_ahead c = refl

pub returns-clause-most_behind : goal.returns-clause-most_behind
unfolding fmt_digits default_case_fold days_from_civil day_count days_of_years days_of_months full_folding full_folding_rows value_in digits id_in is_digit without_sign is_unsigned_numeral is_numeral of_digits exactly size_of is_negative fits has_form two_at year_of is_date is_written_day day_number is_clock clock_seconds fraction_len is_fraction_len is_utc is_offset offset_minutes is_zone offset_seconds ahead zone_of is_moment_form moment_seconds print_places print_size padded year_at month_at print_date print_day print_clock print_moment read_number read_truth read_day read_moment
returns-clause-most_behind c = refl

pub returns-clause-leap_second : goal.returns-clause-leap_second
unfolding fmt_digits default_case_fold days_from_civil day_count days_of_years days_of_months full_folding full_folding_rows value_in digits id_in is_digit without_sign is_unsigned_numeral is_numeral of_digits exactly size_of is_negative fits has_form two_at year_of is_date is_written_day day_number is_clock clock_seconds fraction_len is_fraction_len is_utc is_offset offset_minutes is_zone offset_seconds ahead zone_of is_moment_form moment_seconds print_places print_size padded year_at month_at print_date print_day print_clock print_moment read_number read_truth read_day read_moment
returns-clause-leap_second c = refl

pub returns-clause-first_read : goal.returns-clause-first_read
unfolding fmt_digits default_case_fold days_from_civil day_count days_of_years days_of_months full_folding full_folding_rows value_in digits id_in is_digit without_sign is_unsigned_numeral is_numeral of_digits exactly size_of is_negative fits has_form two_at year_of is_date is_written_day day_number is_clock clock_seconds fraction_len is_fraction_len is_utc is_offset offset_minutes is_zone offset_seconds ahead zone_of is_moment_form moment_seconds print_places print_size padded year_at month_at print_date print_day print_clock print_moment read_number read_truth read_day read_moment
returns-clause-first_read c = refl

pub returns-clause-last_read : goal.returns-clause-last_read
unfolding fmt_digits default_case_fold days_from_civil day_count days_of_years days_of_months full_folding full_folding_rows value_in digits id_in is_digit without_sign is_unsigned_numeral is_numeral of_digits exactly size_of is_negative fits has_form two_at year_of is_date is_written_day day_number is_clock clock_seconds fraction_len is_fraction_len is_utc is_offset offset_minutes is_zone offset_seconds ahead zone_of is_moment_form moment_seconds print_places print_size padded year_at month_at print_date print_day print_clock print_moment read_number read_truth read_day read_moment
returns-clause-last_read c = refl

pub returns-clause-false_first : goal.returns-clause-false_first
unfolding fmt_digits default_case_fold days_from_civil day_count days_of_years days_of_months full_folding full_folding_rows value_in digits id_in is_digit without_sign is_unsigned_numeral is_numeral of_digits exactly size_of is_negative fits has_form two_at year_of is_date is_written_day day_number is_clock clock_seconds fraction_len is_fraction_len is_utc is_offset offset_minutes is_zone offset_seconds ahead zone_of is_moment_form moment_seconds print_places print_size padded year_at month_at print_date print_day print_clock print_moment read_number read_truth read_day read_moment
returns-clause-false_first c = refl

pub returns-clause-true_last : goal.returns-clause-true_last
unfolding fmt_digits default_case_fold days_from_civil day_count days_of_years days_of_months full_folding full_folding_rows value_in digits id_in is_digit without_sign is_unsigned_numeral is_numeral of_digits exactly size_of is_negative fits has_form two_at year_of is_date is_written_day day_number is_clock clock_seconds fraction_len is_fraction_len is_utc is_offset offset_minutes is_zone offset_seconds ahead zone_of is_moment_form moment_seconds print_places print_size padded year_at month_at print_date print_day print_clock print_moment read_number read_truth read_day read_moment
returns-clause-true_last c = refl
