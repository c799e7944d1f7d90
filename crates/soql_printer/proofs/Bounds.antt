-- Numbers, days and moments of a text are those that have a text.
use Rattle.std.proofs.Common.{◌≡◌, ◌==◌, ◌<◌, ℕ, zero, suc, Bool, true, false, if◌then◌else◌, List, [], ◌∷◌, Option, Some, None, Result, Ok, Err, ℤ, refl, sym, ◌∙◌, ap, subst, arith}
use Rattle.std.specs.Prelude.{unsigned_abs}
use Rattle.base_grammar.specs.declared.token.Token.{Token}
use Rattle.base_grammar.specs.declared.token.Token.TheVariants as token
use Rattle.base_grammar.specs.Counts.{number_count, plain_text}
use Rattle.base_grammar.specs.Tokens.{is_written}
use Rattle.base_value.specs.Dates.{is_day, is_moment}
use Rattle.base_value.specs.Numerals.{exact_bound, is_negative, is_written_number, signed, size_of, without_sign}
use Rattle.base_value.specs.Reading.{as_value, read_day, read_moment, read_value}
use Rattle.base_value.specs.declared.fail.ValueFail.{ValueFail}
use Rattle.base_value.specs.declared.value.FieldType.TheVariants as type
use Rattle.base_value.specs.declared.value.Value.{Value}
use Rattle.base_value.specs.declared.value.Value.TheVariants as value
use Rattle.base_value.proofs.DateLaws.{day_valid, moment_valid}
use Rattle.base_value.proofs.Sizes.{exactly_is}
use Rattle.std.specs.Prelude.{option_map}
use Rattle.soql.specs.grammar.Grammar.{literal_in, text_literal}
use Rattle.soql.specs.grammar.Signs.{sign_of, word_sign, condition_word, clause_word, name_sign, mark_sign, pair_sign, run_sign, number_sign, day_or, moment_in}
use Rattle.soql.specs.declared.query.Literal.TheVariants as l
use Rattle.soql.specs.declared.grammar.sign.Sign.{Sign}
use Rattle.soql.specs.declared.grammar.sign.Sign.TheVariants as sign
use Rattle.std.proofs.Common.{codes}
use Rattle.soql_printer.proofs.Names.{at_clause_word, at_condition_word, at_or, either_if}
use Rattle.soql_printer.proofs.Written.{IsWritten}

-- ---- which signs are values
abbrev is_value : Sign → Bool
is_value (sign.Number count whole) = true
is_value (sign.Day day) = true
is_value (sign.Moment second) = true
is_value _ = false

no_word : (cs : List ℕ) → is_value (word_sign cs) ≡ false
unfolding word_sign name_sign
no_word cs =
    at_or is_value false (condition_word cs) _ (at_condition_word is_value false refl refl refl refl refl refl (λ t. refl) cs)
    (at_or is_value false (clause_word cs) _ (at_clause_word is_value false refl refl refl refl refl refl (λ t. refl) cs refl refl refl refl refl (λ t. refl) refl (λ t. refl) refl refl)
    (either_if is_value false (is_written (codes "TODAY") cs) _ _ refl (either_if is_value false (is_written (codes "YESTERDAY") cs) _ _ refl (either_if is_value false (is_written (codes "TOMORROW") cs) _ _ refl refl))))

no_mark : (c : ℕ) → is_value (mark_sign c) ≡ false
unfolding mark_sign
no_mark c =
    either_if is_value false (c == 40) _ _ refl (either_if is_value false (c == 41) _ _ refl (either_if is_value false (c == 44) _ _ refl (either_if is_value false (c == 46) _ _ refl
    (either_if is_value false (c == 61) _ _ refl (either_if is_value false (c == 60) _ _ refl (either_if is_value false (c == 62) _ _ refl refl))))))

no_pair : (c : ℕ) → is_value (pair_sign c) ≡ false
unfolding pair_sign
no_pair c = either_if is_value false (c == 33) _ _ refl (either_if is_value false (c == 60) _ _ refl (either_if is_value false (c == 62) _ _ refl refl))

-- a value is the sign of a run
run_of : (s : Sign) → IsWritten s → is_value s ≡ true → (cs : List ℕ) × (s ≡ run_sign cs (number_count cs))
run_of s w h = go w.token w.same (sym (ap is_value w.same) ∙ h)
  where
    go : (t : Token) → s ≡ sign_of t → is_value (sign_of t) ≡ true → (cs : List ℕ) × (s ≡ run_sign cs (number_count cs))
    go (token.Word cs) same k = let no = no_word cs in absurd (cc)
    go (token.Run cs) same k = (cs, same)
    go (token.Text pieces) same k = absurd (cc)
    go (token.Mark c) same k = let no = no_mark c in absurd (cc)
    go (token.Pair c d) same k = let no = no_pair c in absurd (cc)
    go token.Bad same k = absurd (cc)

-- ---- numbers
signed_size : (negative : Bool) (n : ℕ) → unsigned_abs (signed negative n) ≡ n
signed_size true zero = refl
signed_size true (suc n) = refl
signed_size false n = refl

sized : (negative : Bool) (size : Option ℕ) (count : ℤ) → ((n : ℕ) → size ≡ Some n → n < exact_bound) → option_map (signed negative) size ≡ Some count → unsigned_abs count < exact_bound
sized negative None count small h = absurd (cc)
sized negative (Some n) count small h =
    let same : signed negative n ≡ count = cc in
    let bound = small n refl in
    let size : unsigned_abs count ≡ n = sym (ap unsigned_abs same) ∙ signed_size negative n in
    omega arith

count_bound : (cs : List ℕ) (count : ℤ) → number_count cs ≡ Some count → unsigned_abs count < exact_bound
unfolding number_count size_of
count_bound cs count h = go (is_written_number cs) h
  where
    go : (b : Bool) → (if b then option_map (signed (is_negative cs)) (size_of (without_sign cs)) else None) ≡ Some count → unsigned_abs count < exact_bound
    go true h = sized (is_negative cs) (size_of (without_sign cs)) count (λ n e. (exactly_is _ _ 0 0 n e).small) h
    go false h = absurd (cc)

day_or_no_number : (a b : Result Value ValueFail) (count : ℤ) (whole : Option ℕ) → sign.Number count whole ≡ day_or (moment_in b) a → ⊥
day_or_no_number (Ok (value.Day d)) b count whole h = absurd (cc)
day_or_no_number _ (Ok (value.Moment s)) count whole h = absurd (cc)
day_or_no_number _ _ count whole h = absurd (cc)

number_bound : (count : ℤ) (whole : Option ℕ) → IsWritten (sign.Number count whole) → unsigned_abs count < exact_bound
unfolding number_sign
number_bound count whole w = let run = run_of (sign.Number count whole) w refl in go run.0 (number_count run.0) refl run.1
  where
    go : (cs : List ℕ) (o : Option ℤ) → number_count cs ≡ o → sign.Number count whole ≡ run_sign cs o → unsigned_abs count < exact_bound
    go cs None e h = absurd (day_or_no_number (read_value type.Day cs) (read_value type.Moment cs) count whole h)
    go cs (Some z) e h = let same : z ≡ count = cc in count_bound cs count (e ∙ ap (λ x. Some x) same)

-- ---- days and moments
was_day : (r : Result ℤ ValueFail) (day : ℤ) → as_value (λ d. value.Day d) r ≡ Ok (value.Day day) → r ≡ Ok day
was_day (Ok d) day h = cc
was_day (Err e) day h = absurd (cc)

was_moment : (r : Result ℤ ValueFail) (second : ℤ) → as_value (λ s. value.Moment s) r ≡ Ok (value.Moment second) → r ≡ Ok second
was_moment (Ok d) second h = cc
was_moment (Err e) second h = absurd (cc)

read_day_valid : (cs : List ℕ) (day : ℤ) → read_value type.Day cs ≡ Ok (value.Day day) → is_day day ≡ true
read_day_valid [] day h = absurd (cc)
read_day_valid (c ∷ cs) day h = day_valid (c ∷ cs) day (was_day (read_day (c ∷ cs)) day h)

read_moment_valid : (cs : List ℕ) (second : ℤ) → read_value type.Moment cs ≡ Ok (value.Moment second) → is_moment second ≡ true
read_moment_valid [] second h = absurd (cc)
read_moment_valid (c ∷ cs) second h = moment_valid (c ∷ cs) second (was_moment (read_moment (c ∷ cs)) second h)

day_from : (a b : Result Value ValueFail) (day : ℤ) → sign.Day day ≡ day_or (moment_in b) a → a ≡ Ok (value.Day day)
day_from (Ok (value.Day d)) b day h = cc
day_from _ (Ok (value.Moment s)) day h = absurd (cc)
day_from _ _ day h = absurd (cc)

moment_from : (a b : Result Value ValueFail) (second : ℤ) → sign.Moment second ≡ day_or (moment_in b) a → b ≡ Ok (value.Moment second)
moment_from (Ok (value.Day d)) b second h = absurd (cc)
moment_from _ (Ok (value.Moment s)) second h = cc
moment_from _ _ second h = absurd (cc)

day_bound : (day : ℤ) → IsWritten (sign.Day day) → is_day day ≡ true
unfolding number_sign
day_bound day w = let run = run_of (sign.Day day) w refl in go run.0 (number_count run.0) run.1
  where
    go : (cs : List ℕ) (o : Option ℤ) → sign.Day day ≡ run_sign cs o → is_day day ≡ true
    go cs None h = read_day_valid cs day (day_from (read_value type.Day cs) (read_value type.Moment cs) day h)
    go cs (Some z) h = absurd (cc)

moment_bound : (second : ℤ) → IsWritten (sign.Moment second) → is_moment second ≡ true
unfolding number_sign
moment_bound second w = let run = run_of (sign.Moment second) w refl in go run.0 (number_count run.0) run.1
  where
    go : (cs : List ℕ) (o : Option ℤ) → sign.Moment second ≡ run_sign cs o → is_moment second ≡ true
    go cs None h = read_moment_valid cs second (moment_from (read_value type.Day cs) (read_value type.Moment cs) second h)
    go cs (Some z) h = absurd (cc)

-- ---- literals
no_text_number : (o : Option (List ℕ)) (count : ℤ) → text_literal o ≡ Some (l.Num count) → ⊥
no_text_number (Some cs) count h = absurd (cc)
no_text_number None count h = absurd (cc)

no_text_day : (o : Option (List ℕ)) (day : ℤ) → text_literal o ≡ Some (l.Day day) → ⊥
no_text_day (Some cs) day h = absurd (cc)
no_text_day None day h = absurd (cc)

no_text_moment : (o : Option (List ℕ)) (second : ℤ) → text_literal o ≡ Some (l.Moment second) → ⊥
no_text_moment (Some cs) second h = absurd (cc)
no_text_moment None second h = absurd (cc)

pub literal_number : (s : Sign) (count : ℤ) → IsWritten s → literal_in s ≡ Some (l.Num count) → unsigned_abs count < exact_bound
literal_number (sign.Number z whole) count w h =
    let same : z ≡ count = cc in let P : ℤ → Type 0 = λ x. unsigned_abs x < exact_bound in subst P same (number_bound z whole w)
literal_number (sign.Text pieces) count w h = absurd (no_text_number (plain_text pieces) count h)
literal_number _ count w h = absurd (cc)

pub literal_day : (s : Sign) (day : ℤ) → IsWritten s → literal_in s ≡ Some (l.Day day) → is_day day ≡ true
literal_day (sign.Day z) day w h = let same : z ≡ day = cc in let P : ℤ → Type 0 = λ x. is_day x ≡ true in subst P same (day_bound z w)
literal_day (sign.Text pieces) day w h = absurd (no_text_day (plain_text pieces) day h)
literal_day _ day w h = absurd (cc)

pub literal_moment : (s : Sign) (second : ℤ) → IsWritten s → literal_in s ≡ Some (l.Moment second) → is_moment second ≡ true
literal_moment (sign.Moment z) second w h = let same : z ≡ second = cc in let P : ℤ → Type 0 = λ x. is_moment x ≡ true in subst P same (moment_bound z w)
literal_moment (sign.Text pieces) second w h = absurd (no_text_moment (plain_text pieces) second h)
literal_moment _ second w h = absurd (cc)
