-- The texts of numbers, days and moments are single tokens, which read as they were.
use Rattle.std.proofs.Common.{◌≡◌, ◌==◌, ℕ, suc, ◌/◌, ◌%◌, ◌^◌, ◌<◌, ◌≤◌, nat_le, Bool, true, false, ◌||◌, cond, List, [], ◌∷◌, ◌++◌, length, Some, ℤ, pos, negsuc, refl, sym, ◌∙◌, ap, subst, lit<, arith}
use Rattle.std.specs.Fmt.{decimal}
use Rattle.std.specs.Prelude.{unsigned_abs}
use Rattle.std.proofs.lemmas.Bool.Decides.{nat_tests}
use Rattle.std.proofs.lemmas.Fmt.{length-decimal-le}
use Rattle.std.proofs.lemmas.Nat.{div_below, mod_below}
use Rattle.base_grammar.specs.declared.classes.Class.TheVariants.{Digits}
use Rattle.base_grammar.specs.declared.token.Token.TheVariants as token
use Rattle.base_grammar.specs.Counts.{number_count}
use Rattle.base_grammar.specs.Tokens.{Passes, is_blank, is_letter, begins_run, class_of, in_run, run_token}
use Rattle.base_value.specs.Numerals.{exact_bound, is_digit, is_negative, is_written_number, signed, without_sign}
use Rattle.base_value.specs.Printing.{print_fraction, print_number, print_places, print_size, scale}
use Rattle.base_value.specs.inner.Splits.{IsSplit}
use Rattle.base_value.proofs.Printed.{AreDigits, decimal_is, fraction_of, no_sign, places_are, size_printed, size_split, whole_small}
use Rattle.base_value.proofs.Splits.{written-split}
use Rattle.soql.specs.Lexis.{lexis}
use Rattle.soql.specs.grammar.Signs.{sign_of, run_sign, number_sign}
use Rattle.soql.specs.declared.grammar.sign.Sign.{Sign}
use Rattle.soql_printer.proofs.Lexed.{Reads, reads_wider, run_reads}
use Rattle.soql_printer.proofs.Keywords.{goes_on, wider_by}

-- ---- runs of characters
pub record IsRun (cs : List ℕ) : Type 0 where
  pub first : ℕ
  pub more : List ℕ
  pub is : cs ≡ first ∷ more
  pub begins : class_of lexis first ≡ Digits
  pub passes : Passes in_run (first ∷ more)

pub passes_both : (p : ℕ → Bool) (xs ys : List ℕ) → Passes p xs → Passes p ys → Passes p (xs ++ ys)
passes_both p [] ys h k = k
passes_both p (x ∷ xs) ys h k = (h.0, passes_both p xs ys h.1 k)

pub is_run_reads : (cs : List ℕ) → IsRun cs → Reads goes_on cs (sign_of (run_token cs) ∷ [])
unfolding in_run is_letter is_digit
is_run_reads cs run =
    let reads = run_reads run.first run.more run.begins run.passes.1 in
    let P : List ℕ → Type 0 = λ z. Reads in_run z (sign_of (run_token z) ∷ []) in
    reads_wider in_run goes_on cs (sign_of (run_token cs) ∷ []) (wider_by in_run refl refl refl) (subst P (sym run.is) reads)

digit_dark : (c : ℕ) → is_digit c ≡ true → is_blank c ≡ false
unfolding is_blank is_digit
digit_dark c h = grind (arith, nat_tests)

digit_no_letter : (c : ℕ) → is_digit c ≡ true → is_letter c ≡ false
unfolding is_letter is_digit
digit_no_letter c h = grind (arith, nat_tests)

digit_begins : (c : ℕ) → is_digit c ≡ true → begins_run c ≡ true
unfolding begins_run
digit_begins c h = rw h refl

pub digit_class : (c : ℕ) → is_digit c ≡ true → class_of lexis c ≡ Digits
unfolding class_of
digit_class c h = rw (digit_dark c h, digit_no_letter c h, digit_begins c h) refl

pub digit_runs : (c : ℕ) → is_digit c ≡ true → in_run c ≡ true
unfolding in_run
digit_runs c h = go (is_letter c)
  where
    go : (b : Bool) → (b || (is_digit c || ((c == 46) || ((c == 58) || ((c == 43) || (c == 45)))))) ≡ true
    go true = refl
    go false = rw h refl

digits_run : (ds : List ℕ) → AreDigits ds → Passes in_run ds
digits_run [] h = tt
digits_run (d ∷ ds) h = (digit_runs d h.0, digits_run ds h.1)

-- ---- numbers
fraction_runs : (f : ℕ) → f < scale → Passes in_run (print_fraction f)
unfolding in_run is_letter is_digit
fraction_runs f h = go (f == 0)
  where
    go : (b : Bool) → Passes in_run (cond b [] (46 ∷ print_places 8 f))
    go true = tt
    go false = (refl, digits_run (print_places 8 f) (places_are 8 f h).are)

size_runs : (n : ℕ) → n < exact_bound → IsRun (print_size n)
unfolding print_size
size_runs n h =
    let d = decimal_is (n / scale) (whole_small n h) in
    let are : AreDigits (d.first ∷ d.more) = subst AreDigits d.is d.are in
    record {
      first = d.first;
      more = d.more ++ print_fraction (n % scale);
      is = ap (λ ds. ds ++ print_fraction (n % scale)) d.is;
      begins = digit_class d.first are.0;
      passes = passes_both in_run (d.first ∷ d.more) (print_fraction (n % scale)) (digits_run (d.first ∷ d.more) are) (fraction_runs (n % scale) (mod_below n scale (lit< tt)));
    }

few_before : (n : ℕ) → n < exact_bound → nat_le (length (decimal (n / scale))) 18 ≡ true
few_before n h =
    let small : n / 10 ^ 8 < 10 ^ 18 = div_below n (10 ^ 8) (10 ^ 18) (lit< tt) h in
    let few : length (decimal (n / scale)) ≤ 18 = length-decimal-le 18 (n / scale) (omega arith) small (whole_small n h) in
    grind (arith, nat_tests)

few_behind : (f : ℕ) → f < scale → nat_le (length (fraction_of f)) 8 ≡ true
few_behind f h = go (f == 0)
  where
    go : (b : Bool) → nat_le (length (cond b [] (print_places 8 f))) 8 ≡ true
    go true = refl
    go false = let p = places_are 8 f h in let count = p.count in grind (arith, nat_tests)

-- what a text without its sign is, which is that of a size
record IsCount (cs : List ℕ) (count : ℤ) : Type 0 where
  pub written : is_written_number cs ≡ true
  pub number : number_count cs ≡ Some count

counted : (cs : List ℕ) (negative : Bool) (n : ℕ) → n < exact_bound → without_sign cs ≡ print_size n → is_negative cs ≡ negative → IsCount cs (signed negative n)
unfolding number_count
counted cs negative n small size sign =
    let split = subst (IsSplit (decimal (n / scale)) (fraction_of (n % scale))) (sym size) (size_split n small) in
    let written : is_written_number cs ≡ true =
    written-split (decimal (n / scale)) (fraction_of (n % scale)) cs split ∙ rw (few_before n small, few_behind (n % scale) (mod_below n scale (lit< tt))) refl in
    record { written = written; number = rw (written, size, sign, size_printed n small) refl }

size_signs : (n : ℕ) → n < exact_bound → (without_sign (print_size n) ≡ print_size n) × (is_negative (print_size n) ≡ false)
unfolding print_size
size_signs n h =
    let d = decimal_is (n / scale) (whole_small n h) in
    let are : AreDigits (d.first ∷ d.more) = subst AreDigits d.is d.are in
    let signs = no_sign d.first (d.more ++ print_fraction (n % scale)) are.0 in
    rw d.is signs

size_counted : (n : ℕ) → n < exact_bound → IsCount (print_size n) (pos n)
size_counted n h = let signs = size_signs n h in counted (print_size n) false n h signs.0 signs.1

run_written : (cs : List ℕ) → is_written_number cs ≡ true → run_token cs ≡ token.Run cs
unfolding run_token
run_written cs h = rw h refl

count_reads : (cs : List ℕ) (count : ℤ) → IsRun cs → IsCount cs count → Reads goes_on cs (number_sign cs count ∷ [])
count_reads cs count run is =
    let same : sign_of (run_token cs) ≡ number_sign cs count = ap sign_of (run_written cs is.written) ∙ ap (run_sign cs) is.number in
    let P : Sign → Type 0 = λ s. Reads goes_on cs (s ∷ []) in
    subst P same (is_run_reads cs run)

pub number_reads : (count : ℤ) → unsigned_abs count < exact_bound → Reads goes_on (print_number count) (number_sign (print_number count) count ∷ [])
unfolding without_sign is_negative class_of is_blank is_letter begins_run is_digit in_run
number_reads (pos n) h = count_reads (print_size n) (pos n) (size_runs n h) (size_counted n h)
number_reads (negsuc n) h =
    let size = size_runs (suc n) h in
    let run : IsRun (45 ∷ print_size (suc n)) = record {
      first = 45;
      more = print_size (suc n);
      is = refl;
      begins = refl;
      passes = (refl, let P : List ℕ → Type 0 = λ z. Passes in_run z in subst P (sym size.is) size.passes);
    } in
    count_reads (45 ∷ print_size (suc n)) (negsuc n) run (counted (45 ∷ print_size (suc n)) true (suc n) h refl refl)
