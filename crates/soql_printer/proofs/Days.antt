-- The texts of days and moments are single tokens, which read as they were.
use Rattle.std.proofs.Common.{◌≡◌, ◌==◌, ℕ, zero, suc, ◌+◌, ◌/◌, ◌%◌, ◌^◌, ◌<◌, Bool, true, false, ◌||◌, ◌&&◌, cond, if◌then◌else◌, List, [], ◌∷◌, ◌++◌, length, None, Result, Ok, Err, ℤ, pos, refl, sym, ◌∙◌, ap, subst, length-append, arith}
use Rattle.std.specs.Int.{int_rem_euclid}
use Rattle.std.specs.Prelude.{unsigned_abs, codes}
use Rattle.std.proofs.lemmas.Bool.Decides.{nat_tests}
use Rattle.base_grammar.specs.declared.token.Token.TheVariants as token
use Rattle.base_grammar.specs.Counts.{number_count}
use Rattle.base_grammar.specs.Tokens.{Passes, in_run, is_letter, run_token}
use Rattle.base_value.specs.Dates.{has_form, is_date, is_day, is_moment, is_moment_form, is_written_day, is_written_moment, day_number, moment_seconds}
use Rattle.base_value.specs.Digits.{digits}
use Rattle.base_value.specs.Numerals.{is_digit, is_numeral, is_unsigned_numeral, is_written_number}
use Rattle.base_value.specs.Printing.{day_of_moment, padded, print_clock, print_date, print_day, print_moment}
use Rattle.base_value.specs.Reading.{read_day, read_moment, read_value}
use Rattle.base_value.specs.declared.fail.ValueFail.{ValueFail}
use Rattle.base_value.specs.declared.fail.ValueFail.TheVariants.{WrongType, OutOfRange}
use Rattle.base_value.specs.declared.value.FieldType.TheVariants as type
use Rattle.base_value.specs.declared.value.Value.TheVariants as value
use Rattle.base_value.proofs.DateTextLaws.{day_back, moment_back}
use Rattle.base_value.proofs.DateTexts.{length_day}
use Rattle.base_value.proofs.Printed.{no_sign}
use Rattle.base_value.proofs.Splits.{written-none}
use Rattle.base_value.proofs.ValueLaws.{printed_reads}
use Rattle.soql.specs.grammar.Signs.{sign_of, run_sign, day_or, moment_in}
use Rattle.soql.specs.declared.grammar.sign.Sign.{Sign}
use Rattle.soql.specs.declared.grammar.sign.Sign.TheVariants as sign
use Rattle.soql_printer.proofs.Lexed.{Reads}
use Rattle.soql_printer.proofs.Keywords.{goes_on}
use Rattle.soql_printer.proofs.Runs.{IsRun, digit_class, digit_runs, is_run_reads, passes_both}

-- ---- four digits and a `-`
-- what begins as a date does
record HasYear (cs : List ℕ) : Type 0 where
  pub a : ℕ
  pub b : ℕ
  pub c : ℕ
  pub d : ℕ
  pub more : List ℕ
  pub is : cs ≡ a ∷ b ∷ c ∷ d ∷ 45 ∷ more
  pub a_is : is_digit a ≡ true
  pub b_is : is_digit b ≡ true
  pub c_is : is_digit c ≡ true
  pub d_is : is_digit d ≡ true
  pub passes : Passes in_run cs

minus_no_digit : is_digit 45 ≡ false
unfolding is_digit
minus_no_digit = refl

no_numeral : (a b c d : ℕ) (more : List ℕ) → is_digit a ≡ true → is_digit b ≡ true → is_digit c ≡ true → is_digit d ≡ true → is_numeral (a ∷ b ∷ c ∷ d ∷ 45 ∷ more) ≡ false
unfolding is_numeral is_unsigned_numeral
no_numeral a b c d more e f g h =
    let signs = no_sign a (b ∷ c ∷ d ∷ 45 ∷ more) e in
    rw (signs.0, e, f, g, h, minus_no_digit) refl

no_number : (cs : List ℕ) → HasYear cs → is_written_number cs ≡ false
no_number cs y =
    let none = written-none (y.a ∷ y.b ∷ y.c ∷ y.d ∷ 45 ∷ y.more) (no_numeral y.a y.b y.c y.d y.more y.a_is y.b_is y.c_is y.d_is) in
    ap is_written_number y.is ∙ none

no_count : (cs : List ℕ) → HasYear cs → number_count cs ≡ None
unfolding number_count
no_count cs y = rw (no_number cs y) refl

year_run : (cs : List ℕ) → HasYear cs → IsRun cs
year_run cs y = record {
  first = y.a;
  more = y.b ∷ y.c ∷ y.d ∷ 45 ∷ y.more;
  is = y.is;
  begins = digit_class y.a y.a_is;
  passes = let P : List ℕ → Type 0 = λ z. Passes in_run z in subst P y.is y.passes;
}

-- ---- digits in places
place_digit : (n : ℕ) → is_digit (48 + n % 10) ≡ true
unfolding is_digit
place_digit n = grind (arith, nat_tests)

place_runs : (n : ℕ) → in_run (48 + n % 10) ≡ true
place_runs n = digit_runs (48 + n % 10) (place_digit n)

padded_passes : (k n : ℕ) → Passes in_run (padded k n)
unfolding padded digits
padded_passes zero n = tt
padded_passes (suc k) n = (place_runs (n / 10 ^ k), padded_passes k n)

minus_passes : Passes in_run (codes "-")
unfolding in_run is_letter is_digit
minus_passes = (refl, tt)

colon_passes : Passes in_run (codes ":")
unfolding in_run is_letter is_digit
colon_passes = (refl, tt)

date_passes : (y m d : ℕ) → Passes in_run (print_date y m d)
unfolding print_date
date_passes y m d =
    passes_both in_run (padded 4 y ++ codes "-" ++ padded 2 m ++ codes "-") (padded 2 d)
    (passes_both in_run (padded 4 y ++ codes "-" ++ padded 2 m) (codes "-")
    (passes_both in_run (padded 4 y ++ codes "-") (padded 2 m)
    (passes_both in_run (padded 4 y) (codes "-") (padded_passes 4 y) minus_passes) (padded_passes 2 m)) minus_passes) (padded_passes 2 d)

date_year : (y m d : ℕ) → HasYear (print_date y m d)
unfolding print_date padded digits
date_year y m d = record {
  a = _;
  b = _;
  c = _;
  d = _;
  more = _;
  is = refl;
  a_is = place_digit (y / 10 ^ 3);
  b_is = place_digit (y / 10 ^ 2);
  c_is = place_digit (y / 10 ^ 1);
  d_is = place_digit (y / 10 ^ 0);
  passes = date_passes y m d;
}

day_year : (day : ℤ) → HasYear (print_day day)
unfolding print_day
day_year day = date_year _ _ _

clock_passes : (second : ℕ) → Passes in_run (print_clock second)
unfolding print_clock
clock_passes second =
    let hours = padded 2 (second / 3600) in
    let minutes = padded 2 (second / 60 % 60) in
    let seconds = padded 2 (second % 60) in
    passes_both in_run (hours ++ codes ":" ++ minutes ++ codes ":") seconds
    (passes_both in_run (hours ++ codes ":" ++ minutes) (codes ":")
    (passes_both in_run (hours ++ codes ":") minutes
    (passes_both in_run hours (codes ":") (padded_passes 2 (second / 3600)) colon_passes) (padded_passes 2 (second / 60 % 60))) colon_passes) (padded_passes 2 (second % 60))

zone_passes : Passes in_run (codes ".000+0000")
unfolding in_run is_letter is_digit
zone_passes = (refl, (refl, (refl, (refl, (refl, (refl, (refl, (refl, (refl, tt)))))))))

letter_passes : Passes in_run (codes "T")
unfolding in_run is_letter
letter_passes = (refl, tt)

moment_year : (second : ℤ) → HasYear (print_moment second)
unfolding print_moment
moment_year second =
    let day = print_day (day_of_moment second) in
    let clock = print_clock (unsigned_abs (int_rem_euclid second (pos 86400))) in
    let y = day_year (day_of_moment second) in
    record {
      a = y.a;
      b = y.b;
      c = y.c;
      d = y.d;
      more = y.more ++ codes "T" ++ clock ++ codes ".000+0000";
      is = ap (λ z. z ++ codes "T" ++ clock ++ codes ".000+0000") y.is;
      a_is = y.a_is;
      b_is = y.b_is;
      c_is = y.c_is;
      d_is = y.d_is;
      passes =
          passes_both in_run (day ++ codes "T" ++ clock) (codes ".000+0000")
          (passes_both in_run (day ++ codes "T") clock (passes_both in_run day (codes "T") y.passes letter_passes) (clock_passes (unsigned_abs (int_rem_euclid second (pos 86400)))))
          zone_passes;
    }

-- ---- days
written_day : (cs : List ℕ) (day : ℤ) → read_day cs ≡ Ok day → is_written_day cs ≡ true
unfolding read_day
written_day cs day h = go (is_written_day cs) h
  where
    go : (b : Bool) → ◌≡◌ {A = Result ℤ ValueFail} (cond b (Ok (day_number cs)) (Err WrongType)) (Ok day) → b ≡ true
    go true h = refl
    go false h = absurd (cc)

run_of_day : (cs : List ℕ) → is_written_number cs ≡ false → is_written_day cs ≡ true → run_token cs ≡ token.Run cs
unfolding run_token
run_of_day cs n d = rw (n, d) refl

pub day_reads : (day : ℤ) → is_day day ≡ true → Reads goes_on (print_day day) (sign.Day day ∷ [])
day_reads day valid =
    let cs = print_day day in
    let y = day_year day in
    let run = run_of_day cs (no_number cs y) (written_day cs day (day_back day valid)) in
    let read = printed_reads type.Day (value.Day day) refl valid in
    let same : sign_of (run_token cs) ≡ sign.Day day = ap sign_of run ∙ ap (run_sign cs) (no_count cs y) ∙ ap (day_or (moment_in (read_value type.Moment cs))) read in
    let P : Sign → Type 0 = λ s. Reads goes_on cs (s ∷ []) in
    subst P same (is_run_reads cs (year_run cs y))

-- ---- moments
written_moment : (cs : List ℕ) (second : ℤ) → read_moment cs ≡ Ok second → is_written_moment cs ≡ true
unfolding read_moment is_written_moment
written_moment cs second h = go (is_moment_form cs) (is_moment (moment_seconds cs)) h
  where
    go : (a b : Bool) → ◌≡◌ {A = Result ℤ ValueFail} (cond a (cond b (Ok (moment_seconds cs)) (Err OutOfRange)) (Err WrongType)) (Ok second) → (a && b) ≡ true
    go true true h = refl
    go true false h = absurd (cc)
    go false b h = absurd (cc)

run_of_moment : (cs : List ℕ) → is_written_number cs ≡ false → is_written_moment cs ≡ true → run_token cs ≡ token.Run cs
unfolding run_token
run_of_moment cs n m = rw (n, m) (go (is_written_day cs))
  where
    go : (b : Bool) → (if b || true then token.Run cs else token.Bad) ≡ token.Run cs
    go true = refl
    go false = refl

long_no_day : (cs : List ℕ) → 10 < length cs → is_written_day cs ≡ false
unfolding is_written_day is_date has_form
long_no_day cs long = let other : (10 == length cs) ≡ false = grind (arith, nat_tests) in rw other refl

moment_long : (second : ℤ) → 10 < length (print_moment second)
unfolding print_moment
moment_long second =
    let day = print_day (day_of_moment second) in
    let clock = print_clock (unsigned_abs (int_rem_euclid second (pos 86400))) in
    omega (arith, length-append (day ++ codes "T" ++ clock) (codes ".000+0000"), length-append (day ++ codes "T") clock, length-append day (codes "T"), length_day (day_of_moment second))

no_day : (c : ℕ) (cs : List ℕ) (other : Sign) → is_written_day (c ∷ cs) ≡ false → day_or other (read_value type.Day (c ∷ cs)) ≡ other
unfolding read_day
no_day c cs other h = rw h refl

no_day_at : (cs : List ℕ) (other : Sign) → HasYear cs → is_written_day cs ≡ false → day_or other (read_value type.Day cs) ≡ other
no_day_at cs other y h =
    let P : List ℕ → Type 0 = λ z. is_written_day z ≡ false in
    let Q : List ℕ → Type 0 = λ z. day_or other (read_value type.Day z) ≡ other in
    subst Q (sym y.is) (no_day y.a (y.b ∷ y.c ∷ y.d ∷ 45 ∷ y.more) other (subst P y.is h))

pub moment_reads : (second : ℤ) → is_moment second ≡ true → Reads goes_on (print_moment second) (sign.Moment second ∷ [])
moment_reads second valid =
    let cs = print_moment second in
    let y = moment_year second in
    let run = run_of_moment cs (no_number cs y) (written_moment cs second (moment_back second valid)) in
    let read = printed_reads type.Moment (value.Moment second) refl valid in
    let no = long_no_day cs (moment_long second) in
    let same : sign_of (run_token cs) ≡ sign.Moment second =
    ap sign_of run ∙ ap (run_sign cs) (no_count cs y) ∙ no_day_at cs (moment_in (read_value type.Moment cs)) y no ∙ ap moment_in read in
    let P : Sign → Type 0 = λ s. Reads goes_on cs (s ∷ []) in
    subst P same (is_run_reads cs (year_run cs y))
