-- Days and moments are read back from their texts.
use Rattle.std.proofs.Common.{◌≡◌, ℕ, ◌<◌, ◌≤◌, true, ◌&&◌, List, ◌∷◌, Ok, subst, refl, sym, ap, ◌∙◌, arith, ℤ, pos, ◌+ℤ◌, ◌-ℤ◌, ◌*ℤ◌, ◌≤ℤ◌, unsigned_abs, le-leb as le_true}
use Rattle.std.specs.Prelude.{int_le}
use Rattle.std.specs.Int.{int_rem_euclid}
use Rattle.std.specs.Str.{IsAscii}
use Rattle.std.proofs.lemmas.Int.{ints}
use Rattle.std.proofs.lemmas.Bool.{and_parts as both}
use Rattle.jiff_core.proofs.SignedLemmas.{signed_arith}
use Rattle.base_value.specs.Dates.{day_number, first_day, first_moment, is_date, last_day, year_of, is_day, is_moment, is_written_day, last_moment}
use Rattle.base_value.specs.Printing.{day_of_moment, print_clock, print_date, print_day, print_moment}
use Rattle.base_value.specs.Reading.{read_day, read_moment}
use Rattle.base_value.proofs.DateParts.{date_of_day, dated, day_bounds}
use Rattle.base_value.proofs.DateTexts.{print_day-ascii, print_day-starts, written_date}
use Rattle.base_value.proofs.MomentTexts.{print_moment-ascii, print_moment-parts, print_moment-starts, read_parts, written_clock}

-- ---- days
-- a day's text has the form of a date, and that date is the day
pub record ReadsAsDay (cs : List ℕ) (day : ℤ) : Type 0 where
  pub date : is_date cs ≡ true
  pub year : 1 ≤ year_of cs
  pub number : day_number cs ≡ day

reads_day : (day : ℤ) → is_day day ≡ true → ReadsAsDay (print_day day) day
reads_day day h =
    let it = date_of_day day h in
    let text : print_day day ≡ print_date it.y it.m it.d = ap print_day (sym it.is) ∙ dated it.y it.m it.d it.low it.civil in
    let read = written_date it.y it.m it.d it.high it.civil in
    subst (λ (cs : List ℕ). ReadsAsDay cs day) (sym text) (record { date = read.date; year = omega (arith, read.year, it.low); number = read.number ∙ it.is })

pub day_back : (day : ℤ) → is_day day ≡ true → read_day (print_day day) ≡ Ok day
unfolding read_day is_written_day
day_back day h =
    let read = reads_day day h in
    rw (read.date, le_true 1 (year_of (print_day day)) read.year, read.number) refl

pub day_starts : (day : ℤ) → (c : ℕ) × (cs : List ℕ) × (print_day day ≡ c ∷ cs)
day_starts day = print_day-starts day

pub day_ascii : (day : ℤ) → is_day day ≡ true → IsAscii (print_day day)
day_ascii day h = print_day-ascii day

-- ---- moments
le_int : (a b : ℤ) → a ≤ℤ b → int_le a b ≡ true
le_int a b h = grind (arith, ints)

within : (low high z : ℤ) → low ≤ℤ z → z ≤ℤ high → (int_le low z && int_le z high) ≡ true
within low high z a b = rw (le_int low z a, le_int z high b) refl

pub moment_bounds : (second : ℤ) → is_moment second ≡ true → (first_moment ≤ℤ second) × (second ≤ℤ last_moment)
moment_bounds second h =
    let p = both (int_le first_moment second) (int_le second last_moment) h in
    (omega (arith, signed_arith), omega (arith, signed_arith))

-- the first second of a day is a moment
pub first_second : (day : ℤ) → is_day day ≡ true → is_moment (day *ℤ pos 86400) ≡ true
first_second day h =
    let bounds = day_bounds day h in
    within first_moment last_moment (day *ℤ pos 86400) (omega (arith, signed_arith)) (omega (arith, signed_arith))

pub day_of_valid : (second : ℤ) → is_moment second ≡ true → is_day (day_of_moment second) ≡ true
day_of_valid second h =
    let bounds = moment_bounds second h in
    within first_day last_day (day_of_moment second) (omega (arith, signed_arith)) (omega (arith, signed_arith))

-- a moment is its day and the second of the day
of_parts : (second : ℤ) → day_of_moment second *ℤ pos 86400 +ℤ pos (unsigned_abs (int_rem_euclid second (pos 86400))) -ℤ pos 0 ≡ second
of_parts second = omega (arith, signed_arith)

second_of_day : (second : ℤ) → unsigned_abs (int_rem_euclid second (pos 86400)) < 86400
second_of_day second = omega (arith, signed_arith)

pub moment_back : (second : ℤ) → is_moment second ≡ true → read_moment (print_moment second) ≡ Ok second
unfolding read_moment
moment_back second h =
    let day = reads_day (day_of_moment second) (day_of_valid second h) in
    let clock = unsigned_abs (int_rem_euclid second (pos 86400)) in
    let read = read_parts (print_moment second) (print_day (day_of_moment second)) (print_clock clock) (day_of_moment second) clock (print_moment-parts second) day.date day.number (written_clock clock (second_of_day second)) in
    let number = read.1 ∙ of_parts second in
    rw (read.0, number, h) refl

pub moment_starts : (second : ℤ) → (c : ℕ) × (cs : List ℕ) × (print_moment second ≡ c ∷ cs)
moment_starts second = print_moment-starts second

pub moment_ascii : (second : ℤ) → is_moment second ≡ true → IsAscii (print_moment second)
moment_ascii second h = print_moment-ascii second
