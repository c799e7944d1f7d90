use Rattle.std.proofs.Common.{◌≡◌, true, false, Ok, refl, sym, ap, ◌∙◌}
use Rattle.std.specs.Prelude.{nat_le}
use Rattle.base_value.specs.Dates.{is_date, is_written_day, year_of}
use Rattle.base_value.specs.Reading.{read_day}
use Rattle.base_value.proofs.Choices.{not_true}
use Rattle.base_value.proofs.WrittenDates.{day_kept, day_of_parts, year_kept}
use Rattle.base_value.proofs.dates.read_day.Goals as goal

pub returns-in-Some : goal.returns-in-Some
unfolding read_day is_written_day
returns-in-Some c =
    let cs = c.args.chars.now in
    let date = c.in-Some.date in
    let is : is_date cs ≡ true = c.in-Some.ensures.some.0 refl in
    let year : nat_le 1 (year_of cs) ≡ true = sym (year_kept date.year (year_of cs) date.year_in c.in-Some.ensures.parts.0) ∙ c.if-date-ge1.true in
    let day = c.to_unix_epoch_day.ensures in
    rw (is, year) (ap Ok (day_kept c.to_unix_epoch_day.result day.bound ∙ day.value ∙ day_of_parts cs date c.in-Some.ensures.parts))

pub returns-in_default : goal.returns-in_default
unfolding read_day is_written_day
returns-in_default c =
    let cs = c.args.chars.now in
    let date = c.in-Some.date in
    let is : is_date cs ≡ true = c.in-Some.ensures.some.0 refl in
    let year : nat_le 1 (year_of cs) ≡ false = sym (year_kept date.year (year_of cs) date.year_in c.in-Some.ensures.parts.0) ∙ c.if-date-ge1.false in
    rw (is, year) refl

pub returns-in_default-2 : goal.returns-in_default-2
unfolding read_day is_written_day
returns-in_default-2 c =
    let is : is_date c.args.chars.now ≡ false = not_true (is_date c.args.chars.now) c.in_default.ensures.some.1 in
    rw is refl
