-- The numbers behind LIMIT and OFFSET.
use Rattle.std.proofs.Common.{◌≡◌, ℕ, ◌*◌, ◌/◌, ◌%◌, ◌<◌, ◌≤◌, nat_le, Bool, true, false, if◌then◌else◌, List, [], ◌∷◌, Some, None, pos, refl, append-nil, subst, arith}
use Rattle.std.specs.Fmt.{decimal}
use Rattle.std.specs.List.{list_all}
use Rattle.std.proofs.lemmas.Bool.Decides.{nat_tests}
use Rattle.base_value.specs.Numerals.{exact_bound, is_digit}
use Rattle.base_value.specs.Printing.{print_size, scale}
use Rattle.base_value.proofs.Printed.{AreDigits, decimal_is}
use Rattle.soql.specs.grammar.Grammar.{count_in}
use Rattle.soql.specs.grammar.Signs.{number_sign}
use Rattle.soql.specs.declared.grammar.sign.Sign.{Sign}
use Rattle.soql.specs.declared.grammar.sign.Sign.TheVariants as sign
use Rattle.soql_printer.proofs.Lexed.{Reads}
use Rattle.soql_printer.proofs.Keywords.{goes_on}
use Rattle.soql_printer.proofs.Runs.{number_reads}

all_digits : (ds : List ℕ) → AreDigits ds → list_all is_digit ds ≡ true
all_digits [] h = refl
all_digits (d ∷ ds) h = rw (h.0, all_digits ds h.1) refl

-- a count of wholes is printed as they are
whole_text : (n : ℕ) → print_size (n * scale) ≡ decimal n
unfolding print_size
whole_text n =
    let whole : n * scale / scale ≡ n = omega arith in
    let rest : n * scale % scale ≡ 0 = omega arith in
    rw (whole, rest) (append-nil (decimal n))

whole_sign : (n : ℕ) → n ≤ 50000 → number_sign (decimal n) (pos (n * scale)) ≡ sign.Number (pos (n * scale)) (Some n)
unfolding number_sign
whole_sign n few =
    let digits = all_digits (decimal n) (decimal_is n (omega arith)).are in
    let whole : n * scale / scale ≡ n = omega arith in
    let small : nat_le n 50000 ≡ true = grind (arith, nat_tests) in
    rw (digits, whole, small) refl

pub limit_reads : (n : ℕ) → n ≤ 50000 → Reads goes_on (decimal n) (sign.Number (pos (n * scale)) (Some n) ∷ [])
limit_reads n few =
    let small : n * scale < exact_bound = omega arith in
    let P : List ℕ → Type 0 = λ cs. Reads goes_on cs (number_sign cs (pos (n * scale)) ∷ []) in
    let Q : Sign → Type 0 = λ s. Reads goes_on (decimal n) (s ∷ []) in
    subst Q (whole_sign n few) (subst P (whole_text n) (number_reads (pos (n * scale)) small))

-- ---- what is behind LIMIT and OFFSET
counted : (most n : ℕ) (m : ℕ) → (if nat_le m most then Some m else None) ≡ Some n → (m ≡ n) × (m ≤ most)
counted most n m h = go (nat_le m most) refl h
  where
    go : (b : Bool) → nat_le m most ≡ b → (if b then Some m else None) ≡ Some n → (m ≡ n) × (m ≤ most)
    go true e h = (cc, grind (arith, nat_tests))
    go false e h = absurd (cc)

pub count_small : (most n : ℕ) (s : Sign) → count_in most s ≡ Some n → n ≤ most
count_small most n (sign.Number count (Some m)) h = let c = counted most n m h in omega arith
count_small most n _ h = absurd (cc)

pub count_back : (most n : ℕ) (count : _) → n ≤ most → count_in most (sign.Number count (Some n)) ≡ Some n
count_back most n count few = let small : nat_le n most ≡ true = grind (arith, nat_tests) in rw small refl
