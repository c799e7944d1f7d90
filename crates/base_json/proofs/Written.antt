-- What is printed of a number or a text spells it.
use Rattle.std.proofs.Common.{◌≡◌, ◌≢◌, ℕ, suc, ℤ, pos, negsuc, ◌+◌, ◌*◌, ◌/◌, ◌%◌, ◌<◌, ◌≤◌, ◌||◌, ◌==◌, nat_lt, Bool, true, false, cond, List, [], ◌∷◌, ◌++◌, Option, Some, None, refl, sym, ◌∙◌, ap, subst, inl, inr, append_assoc, eqb-true, lit<, arith, ne_eqb as not_same}
use Rattle.std.specs.List.{flat_map}
use Rattle.std.specs.Fmt.{decimal}
use Rattle.std.specs.Char.{digit_value}
use Rattle.std.proofs.lemmas.Str.{digit_value-digit_char}
use Rattle.std.proofs.lemmas.Nat.{mod_below, div-add-mod'}
use Rattle.std.proofs.lemmas.Bool.Decides.{nat_tests}
use Rattle.base_value.specs.Numerals.{exact_bound, is_digit, of_digits}
use Rattle.base_value.specs.Printing.{print_fraction, print_number, print_places, print_size, scale}
use Rattle.base_value.proofs.Printed.{AreDigits, IsDecimal, decimal_is, digit_range, fraction_of, places_are, size_is, whole_small}
use Rattle.base_json.specs.Characters.{digits_at, after_digits, short_escape, code_unit, is_high, is_low}
use Rattle.base_json.specs.Numerals.{Parts, stands, Digits, has_leading_zero, Whole, Fraction, is_exponent_mark, IsSize, Numeral}
use Rattle.base_json.specs.Grammar.{unescaped, short, unit, Character, Content, Quoted}
use Rattle.base_json.specs.Printing.{letter_for, hex_digit, escaped_by, escaped, printed_text, size, Ends}
use Rattle.base_json.specs.declared.tree.Num.TheVariants.{Exact}
use Rattle.base_json.proofs.Shrinks.{chosen}

-- ---- runs of digits

run_at : (ds rest : List ℕ) → AreDigits ds → stands is_digit rest ≡ false → (digits_at (ds ++ rest) ≡ ds) × (after_digits (ds ++ rest) ≡ rest)
run_at [] [] h e = (refl, refl)
run_at [] (c ∷ cs) h e = rw e (refl, refl)
run_at (d ∷ ds) rest h e = let r = run_at ds rest h.1 e in rw h.0 (ap (λ xs. d ∷ xs) r.0, r.1)

digits_run : (ds rest : List ℕ) → ds ≢ [] → AreDigits ds → stands is_digit rest ≡ false → Digits (ds ++ rest) ds rest
digits_run ds rest some h e = let r = run_at ds rest h e in (some, sym r.0, sym r.1)

-- ---- the whole part

no_leading_zero : (n : ℕ) (ds : List ℕ) → IsDecimal n ds → has_leading_zero ds ≡ false
no_leading_zero n [] d = refl
no_leading_zero n (x ∷ []) d = refl
no_leading_zero n (x ∷ y ∷ ys) d = by_test (x == 48) refl
  where
    by_test : (b : Bool) → (x == 48) ≡ b → (x == 48) ≡ false
    by_test false e = e
    by_test true e =
        let first : d.first ≡ 48 = let is = d.is in let x_is = eqb-true x 48 e in cc in
        let none = (d.lead first).1 in
        let is = d.is in absurd (cc)

-- ---- a number without its sign

-- at the end of a number no digit, point or exponent follows
ends_digit : (rest : List ℕ) → Ends rest → (stands is_digit rest ≡ false) × (stands (λ c. c == 46) rest ≡ false) × (stands is_exponent_mark rest ≡ false)
ends_digit [] h = (refl, refl, refl)
ends_digit (c ∷ cs) h = apart (is_digit c) (c == 46) (is_exponent_mark c) h
  where
    apart : (a b d : Bool) → (a || b || d) ≡ false → (a ≡ false) × (b ≡ false) × (d ≡ false)
    apart true b d h = absurd (cc)
    apart false true d h = absurd (cc)
    apart false false d h = (refl, refl, h)

fraction_is : (f : ℕ) (rest : List ℕ) → f < scale → Ends rest → Fraction (print_fraction f ++ rest) (fraction_of f) rest × (stands is_digit (print_fraction f ++ rest) ≡ false)
unfolding is_digit
fraction_is f rest h ends = by_test (f == 0) refl
  where
    by_test : (b : Bool) → (f == 0) ≡ b → Fraction (cond b [] (46 ∷ print_places 8 f) ++ rest) (cond b [] (print_places 8 f)) rest × (stands is_digit (cond b [] (46 ∷ print_places 8 f) ++ rest) ≡ false)
    by_test true e = let s = ends_digit rest ends in (inl (refl, refl, s.1), s.0)
    by_test false e =
        let p = places_are 8 f h in
        let s = ends_digit rest ends in
        let some : f ≢ 0 = grind (arith, nat_tests, e) in
        (inr (print_places 8 f ++ rest, refl, digits_run (print_places 8 f) rest (p.some some) p.are s.0), refl)

abbrev parts_of : Bool → ℕ → Parts
parts_of minus n = record { minus = minus; whole = decimal (n / scale); fraction = fraction_of (n % scale); down = false; power = [] }

parts_size : (minus : Bool) (n : ℕ) → n < exact_bound → IsSize (parts_of minus n) n
unfolding of_digits
parts_size minus n h = let s = size_is n h in record { same = s.same; small = s.small }

-- what a number without its sign spells, in front of b and then rest
abbrev Unsigned : ℕ → List ℕ → List ℕ → List ℕ → Type 0
Unsigned n b rest cs = Whole cs (decimal (n / scale)) b × Fraction b (fraction_of (n % scale)) rest × (stands (λ c. c == 45) cs ≡ false)

whole_is : (n : ℕ) (ds b : List ℕ) → IsDecimal n ds → stands is_digit b ≡ false → Whole (ds ++ b) ds b × (stands (λ c. c == 45) (ds ++ b) ≡ false)
whole_is n ds b d e =
    let are : AreDigits (d.first ∷ d.more) = subst AreDigits d.is d.are in
    let r = digit_range d.first are.0 in
    let some : ds ≢ [] = λ none. let is = d.is in absurd (cc) in (
      (digits_run ds b some d.are e, no_leading_zero n ds d),
      ap (λ xs. stands (λ c. c == 45) (xs ++ b)) d.is ∙ not_same d.first 45 (omega (arith, r.0)),
    )

unsigned : (n : ℕ) (rest : List ℕ) → n < exact_bound → Ends rest → (b : List ℕ) × Unsigned n b rest (print_size n ++ rest)
unfolding print_size
unsigned n rest h ends =
    let f = fraction_is (n % scale) rest (mod_below n scale (lit< tt)) ends in
    let w = whole_is (n / scale) (decimal (n / scale)) (print_fraction (n % scale) ++ rest) (decimal_is (n / scale) (whole_small n h)) f.1 in (
      print_fraction (n % scale) ++ rest,
      subst (Unsigned n (print_fraction (n % scale) ++ rest) rest) (sym (append_assoc (decimal (n / scale)) (print_fraction (n % scale)) rest)) (w.0, f.0, w.1),
    )

pub number_printed : (z : ℤ) (rest : List ℕ) → size z < exact_bound → Ends rest → Numeral (print_number z ++ rest) (Exact z) rest
number_printed (pos n) rest h ends =
    let u = unsigned n rest h ends in
    (parts_of false n, (print_size n ++ rest, u.0, rest, (refl, u.1.2), u.1.0, u.1.1, inl (refl, refl, refl, (ends_digit rest ends).2)), (n, parts_size false n h, refl))
number_printed (negsuc n) rest h ends =
    let u = unsigned (suc n) rest h ends in
    (parts_of true (suc n), (print_size (suc n) ++ rest, u.0, rest, refl, u.1.0, u.1.1, inl (refl, refl, refl, (ends_digit rest ends).2)), (suc n, parts_size true (suc n) h, refl))

-- ---- strings

letter_case : (c k l m : ℕ) → (c == k) ≡ true → ◌≡◌ {A = Option ℕ} (Some m) (Some l) → short_escape m ≡ Some k → short_escape l ≡ Some c
letter_case c k l m e h s =
    let same : m ≡ l = cc in
    ap short_escape (sym same) ∙ s ∙ ap (λ x. Some x) (sym (eqb-true c k e))

pub letter_is : (c l : ℕ) → letter_for c ≡ Some l → short_escape l ≡ Some c
letter_is c l h =
    elim (chosen (c == 34) _ _ _ h) [
      | inl x ↦ letter_case c 34 l 34 x.0 x.1 refl
      | inr x ↦ elim (chosen (c == 92) _ _ _ x.1) [
        | inl y ↦ letter_case c 92 l 92 y.0 y.1 refl
        | inr y ↦ elim (chosen (c == 8) _ _ _ y.1) [
          | inl z ↦ letter_case c 8 l 98 z.0 z.1 refl
          | inr z ↦ elim (chosen (c == 9) _ _ _ z.1) [
            | inl u ↦ letter_case c 9 l 116 u.0 u.1 refl
            | inr u ↦ elim (chosen (c == 10) _ _ _ u.1) [
              | inl v ↦ letter_case c 10 l 110 v.0 v.1 refl
              | inr v ↦ elim (chosen (c == 12) _ _ _ v.1) [
                | inl w ↦ letter_case c 12 l 102 w.0 w.1 refl
                | inr w ↦ elim (chosen (c == 13) _ _ _ w.1) [
                  | inl a ↦ letter_case c 13 l 114 a.0 a.1 refl
                  | inr a ↦ absurd (cc)
                ]
              ]
            ]
          ]
        ]
      ]
    ]

no_letter : (c k l : ℕ) → letter_for c ≡ None → letter_for k ≡ Some l → c ≢ k
no_letter c k l h s e = let none : letter_for k ≡ None = ap letter_for (sym e) ∙ h in absurd (cc)

code_of : (x y a b : ℕ) → digit_value x ≡ a → digit_value y ≡ b → a < 16 → b < 16 → code_unit 48 48 x y ≡ Some (a * 16 + b)
unfolding code_unit
code_of x y a b e f p q =
    let high : nat_lt a 16 ≡ true = grind (arith, nat_tests, p) in
    let low : nat_lt b 16 ≡ true = grind (arith, nat_tests, q) in
    rw (e, f, high, low) (ap (λ n. Some n) (omega arith))

hex_code : (c : ℕ) → c < 32 → code_unit 48 48 (hex_digit (c / 16)) (hex_digit (c % 16)) ≡ Some c
hex_code c h =
    code_of (hex_digit (c / 16)) (hex_digit (c % 16)) (c / 16) (c % 16) (digit_value-digit_char (c / 16) (omega arith)) (digit_value-digit_char (c % 16) (omega arith)) (omega arith) (omega arith)
    ∙ ap (λ n. Some n) (div-add-mod' c 16)

character_printed : (c : ℕ) (tail : List ℕ) → Character (escaped c ++ tail) c tail
unfolding escaped
character_printed c tail = by_letter (letter_for c) refl
  where
    by_letter : (o : Option ℕ) → letter_for c ≡ o → Character (escaped_by o c ++ tail) c tail
    by_letter (Some l) e = (short, (l, refl, letter_is c l e))
    by_letter None e = by_size (nat_lt c 32) refl
      where
        by_size : (b : Bool) → nat_lt c 32 ≡ b → Character (cond b (92 ∷ 117 ∷ 48 ∷ 48 ∷ hex_digit (c / 16) ∷ hex_digit (c % 16) ∷ []) (c ∷ []) ++ tail) c tail
        by_size true s =
            let below : c < 32 = grind (arith, nat_tests, s) in
            let high : is_high c ≡ false = grind (arith, nat_tests, below) in
            let low : is_low c ≡ false = grind (arith, nat_tests, below) in
            (unit, ((48, 48, hex_digit (c / 16), hex_digit (c % 16), refl, hex_code c below), high, low))
        by_size false s =
            let above : 32 ≤ c = grind (arith, nat_tests, s) in
            (unescaped, (refl, above, no_letter c 34 34 e refl, no_letter c 92 92 e refl))

content_printed : (cs rest : List ℕ) → Content (flat_map escaped cs ++ 34 ∷ rest) cs rest
content_printed [] rest = refl
content_printed (c ∷ cs) rest = (
  flat_map escaped cs ++ 34 ∷ rest,
  subst (λ (xs : List ℕ). Character xs c (flat_map escaped cs ++ 34 ∷ rest)) (sym (append_assoc (escaped c) (flat_map escaped cs) (34 ∷ rest))) (character_printed c (flat_map escaped cs ++ 34 ∷ rest)),
  content_printed cs rest,
)

pub text_printed : (cs rest : List ℕ) → Quoted (printed_text cs ++ rest) cs rest
text_printed cs rest =
    (flat_map escaped cs ++ 34 ∷ rest, ap (λ xs. 34 ∷ xs) (append_assoc (flat_map escaped cs) (34 ∷ []) rest), content_printed cs rest)
