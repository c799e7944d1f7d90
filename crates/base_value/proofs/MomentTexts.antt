-- The text of a moment, character by character.
use Rattle.std.proofs.Common.{◌≡◌, ℕ, ◌+◌, ◌*◌, ◌/◌, ◌%◌, ◌<◌, ◌≤◌, true, List, ◌∷◌, ◌++◌, length, refl, sym, ap, ◌∙◌, arith, take, drop, append_assoc, ◌+ℤ◌, ◌*ℤ◌, subst, rules, ℤ, pos, ◌-ℤ◌, unsigned_abs, le-leb as le_true}
use Rattle.std.specs.Int.{int_rem_euclid}
use Rattle.base_value.specs.Digits.{digits}
use Rattle.base_value.specs.Dates.{ahead, clock_seconds, fraction_len, is_clock, is_fraction_len, is_moment_form, is_offset, is_utc, is_zone, moment_seconds, offset_minutes, offset_seconds, zone_of, day_number, is_date, fits, has_form, two_at}
use Rattle.base_value.specs.Numerals.{is_digit}
use Rattle.base_value.specs.Printing.{day_of_moment, padded, print_clock, print_day, print_moment}
use Rattle.std.specs.Prelude.{codes}
use Rattle.std.proofs.lemmas.List.{drop_at, length-append, take_at}
use Rattle.std.specs.Str.{IsAscii}
use Rattle.std.proofs.lemmas.Str.{IsAscii-append}
use Rattle.base_value.proofs.Padded.{two, padded-two, is_digit_of, padded-ascii, one-ascii, more-ascii}
use Rattle.base_value.proofs.DateTexts.{print_day-ascii, print_day-starts, length_day}

-- ---- each character is below 128, and the first is a digit
pub print_clock-ascii : (second : ℕ) → IsAscii (print_clock second)
unfolding print_clock
print_clock-ascii second =
    let minutes = more-ascii (padded 2 (second / 3600)) 58 2 (second / 60 % 60) (padded-ascii 2 (second / 3600)) (omega arith) in
    more-ascii (padded 2 (second / 3600) ++ codes ":" ++ padded 2 (second / 60 % 60)) 58 2 (second % 60) minutes (omega arith)

zone-ascii : IsAscii (codes ".000+0000")
zone-ascii = search rules

pub print_moment-ascii : (second : ℤ) → IsAscii (print_moment second)
unfolding print_moment
print_moment-ascii second =
    let day = print_day (day_of_moment second) in
    let clock = print_clock (unsigned_abs (int_rem_euclid second (pos 86400))) in
    let date = IsAscii-append day (codes "T") (print_day-ascii (day_of_moment second)) (one-ascii 84 (omega arith)) in
    let time = IsAscii-append (day ++ codes "T") clock date (print_clock-ascii (unsigned_abs (int_rem_euclid second (pos 86400)))) in
    IsAscii-append (day ++ codes "T" ++ clock) (codes ".000+0000") time zone-ascii

pub print_moment-starts : (second : ℤ) → (c : ℕ) × (cs : List ℕ) × (print_moment second ≡ c ∷ cs)
unfolding print_moment
print_moment-starts second =
    let clock = print_clock (unsigned_abs (int_rem_euclid second (pos 86400))) in
    let it = print_day-starts (day_of_moment second) in
    (it.0, it.1 ++ codes "T" ++ clock ++ codes ".000+0000", ap (λ (cs : List ℕ). cs ++ codes "T" ++ clock ++ codes ".000+0000") it.2)

-- ---- a time of the day is read as it was printed
abbrev clock_characters : ℕ → ℕ → ℕ → List ℕ
clock_characters h m s = two (h / 10) (h % 10) ++ 58 ∷ two (m / 10) (m % 10) ++ 58 ∷ two (s / 10) (s % 10)

print_clock-characters : (second : ℕ) → second < 86400 → print_clock second ≡ clock_characters (second / 3600) (second / 60 % 60) (second % 60)
unfolding print_clock
print_clock-characters second h =
    rw (padded-two (second / 3600) (omega arith), padded-two (second / 60 % 60) (omega arith), padded-two (second % 60) (omega arith)) refl

clock_form : (h m s : ℕ) → h < 100 → m < 100 → s < 100 → has_form (codes "T00:00:00") (84 ∷ clock_characters h m s) ≡ true
unfolding has_form fits
clock_form h m s hh hm hs =
    rw (is_digit_of (h / 10) (omega arith), is_digit_of (h % 10) (omega arith), is_digit_of (m / 10) (omega arith), is_digit_of (m % 10) (omega arith), is_digit_of (s / 10) (omega arith), is_digit_of (s % 10) (omega arith)) refl

clock_numbers : (h m s : ℕ) → h < 100 → m < 100 → s < 100
    → (two_at (84 ∷ clock_characters h m s) 1 ≡ h) × (two_at (84 ∷ clock_characters h m s) 4 ≡ m) × (two_at (84 ∷ clock_characters h m s) 7 ≡ s)
unfolding two_at
clock_numbers h m s hh hm hs = (omega arith, omega arith, omega arith)

-- a text with the form of a time of the day, by its seconds
pub record ReadsAsClock (cs : List ℕ) (second : ℕ) : Type 0 where
  pub clock : is_clock cs ≡ true
  pub seconds : clock_seconds cs ≡ second

reads_as_clock : (cs : List ℕ) (h m s : ℕ) → has_form (codes "T00:00:00") cs ≡ true → two_at cs 1 ≡ h → two_at cs 4 ≡ m → two_at cs 7 ≡ s → h ≤ 23 → m ≤ 59 → s ≤ 59 → ReadsAsClock cs (3600 * h + 60 * m + s)
unfolding is_clock clock_seconds
reads_as_clock cs h m s form e f g hh hm hs = record { clock = rw (form, e, f, g, le_true h 23 hh, le_true m 59 hm, le_true s 59 hs) refl; seconds = rw (e, f, g) refl }

pub written_clock : (second : ℕ) → second < 86400 → ReadsAsClock (84 ∷ print_clock second) second
written_clock second few =
    let h = second / 3600 in
    let m = second / 60 % 60 in
    let s = second % 60 in
    let whole : 3600 * (second / 3600) + 60 * (second / 60 % 60) + second % 60 ≡ second = omega arith in
    let numbers = clock_numbers h m s (omega arith) (omega arith) (omega arith) in
    let read = reads_as_clock (84 ∷ clock_characters h m s) h m s (clock_form h m s (omega arith) (omega arith) (omega arith)) numbers.0 numbers.1 numbers.2 (omega arith) (omega arith) (omega arith) in
    subst (λ (cs : List ℕ). ReadsAsClock (84 ∷ cs) second) (sym (print_clock-characters second few)) (subst (λ (n : ℕ). ReadsAsClock (84 ∷ clock_characters h m s) n) whole read)

pub length_clock : (second : ℕ) → length (print_clock second) ≡ 8
unfolding print_clock padded digits
length_clock second = refl

-- ---- a moment is read as it was printed
-- the parts of a moment's text
pub record Parts (cs day clock zone : List ℕ) : Type 0 where
  pub date : take 10 cs ≡ day
  pub time : take 9 (drop 10 cs) ≡ 84 ∷ clock
  pub rest : drop 19 cs ≡ zone

parts : (day clock zone : List ℕ) → length day ≡ 10 → length clock ≡ 8 → Parts (day ++ codes "T" ++ clock ++ zone) day clock zone
parts day clock zone ten eight =
    let nine : length (84 ∷ clock) ≡ 9 = omega (arith, eight) in
    let front : day ++ codes "T" ++ clock ++ zone ≡ day ++ ((84 ∷ clock) ++ zone) = simp append_assoc in
    let back : day ++ codes "T" ++ clock ++ zone ≡ (day ++ 84 ∷ clock) ++ zone = simp append_assoc in
    let long : length (day ++ 84 ∷ clock) ≡ 19 = omega (arith, length-append day (84 ∷ clock)) in
    let behind : drop 10 (day ++ ((84 ∷ clock) ++ zone)) ≡ (84 ∷ clock) ++ zone = drop_at day ((84 ∷ clock) ++ zone) 10 ten in
    record {
      date = ap (take 10) front ∙ take_at day ((84 ∷ clock) ++ zone) 10 ten;
      time = ap (λ (cs : List ℕ). take 9 (drop 10 cs)) front ∙ ap (take 9) behind ∙ take_at (84 ∷ clock) zone 9 nine;
      rest = ap (drop 19) back ∙ drop_at (day ++ 84 ∷ clock) zone 19 long;
    }

-- no fraction is lost, and the zone is UTC
zone_facts : (is_fraction_len (fraction_len (codes ".000+0000")) ≡ true) × (is_zone (zone_of (codes ".000+0000")) ≡ true) × (ahead (zone_of (codes ".000+0000")) ≡ pos 0)
unfolding is_fraction_len fraction_len is_zone zone_of ahead is_digit is_utc is_offset has_form fits two_at offset_minutes offset_seconds
zone_facts = (refl, refl, refl)

-- what is read of a text with these parts
pub read_parts : (cs day clock : List ℕ) (number : ℤ) (second : ℕ) → Parts cs day clock (codes ".000+0000") → is_date day ≡ true → day_number day ≡ number → ReadsAsClock (84 ∷ clock) second
    → (is_moment_form cs ≡ true) × (moment_seconds cs ≡ number *ℤ pos 86400 +ℤ pos second -ℤ pos 0)
unfolding is_moment_form moment_seconds
read_parts cs day clock number second it date is time =
    (rw (it.date, it.time, it.rest, date, time.clock, zone_facts.0, zone_facts.1) refl, rw (it.date, it.time, it.rest, is, time.seconds, zone_facts.2) refl)

pub print_moment-parts : (second : ℤ) → Parts (print_moment second) (print_day (day_of_moment second)) (print_clock (unsigned_abs (int_rem_euclid second (pos 86400)))) (codes ".000+0000")
unfolding print_moment
print_moment-parts second =
    parts (print_day (day_of_moment second)) (print_clock (unsigned_abs (int_rem_euclid second (pos 86400)))) (codes ".000+0000") (length_day (day_of_moment second)) (length_clock (unsigned_abs (int_rem_euclid second (pos 86400))))
