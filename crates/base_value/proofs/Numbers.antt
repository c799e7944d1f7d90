-- The number that an id's characters spell.
use Rattle.std.proofs.Common.{◌≡◌, ℕ, suc, ◌+◌, ◌*◌, ◌/◌, ◌%◌, ◌^◌, ◌<◌, ◌≤◌, ◌==◌, Bool, true, false, ◌&&◌, cond, IsTrue, List, [], ◌∷◌, ◌++◌, length, take, drop, map, get_or, Some, None, refl, sym, ap, ap₂, ◌∙◌, arith, take-append-drop}
use Rattle.std.specs.Prelude.{nat_lt}
use Rattle.std.specs.List.{AllByRecursion, list_all}
use Rattle.std.specs.Str.{bytes_eq}
use Rattle.std.proofs.Math.Nat.{pow-zero, mul-le-mul_right, pow-succ', pow-le-pow_right, mod-eq_of_lt}
use Rattle.std.proofs.lemmas.Bool.Decides.{nat_tests}
use Rattle.std.proofs.lemmas.List.{take_more, take_at, drop_at, map-append, length-append, length-map, length-drop}
use Rattle.std.proofs.lemmas.List.Folds.{list_all-append}
use Rattle.std.proofs.lemmas.Nat.{div-mul-add, mod-mul-add}
use Rattle.std.proofs.lemmas.Slice.Eq.{bytes_eq-Decides}
use Rattle.std.proofs.lemmas.Bool.{and_parts as both}
use Rattle.base_value.specs.Digits.{digits, digits_value}
use Rattle.base_value.specs.Id.{digit62, is_digit62, is_id, made, number62, number_in, value62}
use Rattle.base_value.proofs.Ids.{id_length, made-written}
use Rattle.base_value.proofs.DigitOrder.{digits_low, low_digits_value, value_below}

-- ---- one digit more

pub lower : (B k n d : ℕ) → n < B ^ k → d < B → n * B + d < B ^ (k + 1)
lower B k n d h l =
    let next : k + 1 ≡ suc k = omega arith in
    let m : (n + 1) * B ≤ B ^ k * B = mul-le-mul_right B (omega arith) in
    rw (next, pow-succ' B k) (omega arith)

-- a number of so few digits
pub few : (k n : ℕ) → k < 12 → n < 62 ^ k → n < 62 ^ 11
few k n h l = let p : 62 ^ k ≤ 62 ^ 11 = pow-le-pow_right {n = 62} (omega arith) {i = k} {j = 11} (omega arith) in omega arith

value_more : (B : ℕ) (ds : List ℕ) (d : ℕ) → digits_value B (ds ++ d ∷ []) ≡ digits_value B ds * B + d
value_more B [] d = rw (pow-zero B) (omega arith)
value_more B (x ∷ ds) d =
    let k = length ds in
    let size : length (ds ++ d ∷ []) ≡ suc k = omega (arith, length-append ds (d ∷ [])) in
    let rest = value_more B ds d in
    rw (size, rest, pow-succ' B k) (omega arith)

pub read_more : (cs : List ℕ) (k n d : ℕ) → k < length cs → n ≡ digits_value 62 (map value62 (take k cs)) → d ≡ value62 (get_or cs k 0) → n * 62 + d ≡ digits_value 62 (map value62 (take (k + 1) cs))
read_more cs k n d within h c =
    ap₂ (λ (a b : ℕ). a * 62 + b) h c
    ∙ sym (value_more 62 (map value62 (take k cs)) (value62 (get_or cs k 0)))
    ∙ ap (digits_value 62) (sym (map-append value62 (take k cs) (get_or cs k 0 ∷ [])))
    ∙ ap (λ (ds : List ℕ). digits_value 62 (map value62 ds)) (sym (take_more cs k 0 within))

-- ---- digits and the number that they spell

-- a value is the number of its digits, whatever stands above them
spelled : (B : ℕ) (ds : List ℕ) (q : ℕ) → 0 < B → AllByRecursion (λ d. d < B) ds → digits B (length ds) (q * B ^ length ds + digits_value B ds) ≡ ds
unfolding digits
spelled B [] q pos h = refl
spelled B (d ∷ ds) q pos h =
    let P = B ^ length ds in
    let v = digits_value B ds in
    let n = q * B ^ suc (length ds) + (d * P + v) in
    let low : v < P = value_below B ds h.1 in
    let parts : n ≡ (q * B + d) * P + v = rw (pow-succ' B (length ds)) (omega arith) in
    let first : n / P % B ≡ d = ap (λ (m : ℕ). m / P % B) parts ∙ ap (λ (m : ℕ). m % B) (div-mul-add (q * B + d) P v low) ∙ mod-mul-add q B d h.0 in
    let rest : digits B (length ds) n ≡ ds = ap (digits B (length ds)) parts ∙ spelled B ds (q * B + d) pos h.1 in
    ap₂ (λ (a : ℕ) (b : List ℕ). a ∷ b) first rest

value_of : (d : ℕ) → d < 62 → value62 (digit62 d) ≡ d
value_of d h = grind (arith, nat_tests)

values_of : (ds : List ℕ) → AllByRecursion (λ d. d < 62) ds → map value62 (map digit62 ds) ≡ ds
values_of [] h = refl
values_of (d ∷ ds) h = ap₂ (λ (a : ℕ) (b : List ℕ). a ∷ b) (value_of d h.0) (values_of ds h.1)

digit_of : (c : ℕ) → is_digit62 c ≡ true → (value62 c < 62) × (digit62 (value62 c) ≡ c)
digit_of c h = (grind (arith, nat_tests), grind (arith, nat_tests))

digits_of : (cs : List ℕ) → list_all is_digit62 cs ≡ true → AllByRecursion (λ d. d < 62) (map value62 cs) × (map digit62 (map value62 cs) ≡ cs)
digits_of [] h = (tt, refl)
digits_of (c ∷ cs) h =
    let p = both (is_digit62 c) (list_all is_digit62 cs) h in
    let one = digit_of c p.0 in
    let rest = digits_of cs p.1 in
    ((one.0, rest.0), ap₂ (λ (a : ℕ) (b : List ℕ). a ∷ b) one.1 rest.1)

pub rest_digits : (id : List ℕ) → IsTrue (is_id id) → list_all is_digit62 (drop 3 id) ≡ true
rest_digits id h =
    let all = (both (length id == 15) (list_all is_digit62 id) h).1 in
    let parts : (list_all is_digit62 (take 3 id) && list_all is_digit62 (drop 3 id)) ≡ true = sym (list_all-append is_digit62 (take 3 id) (drop 3 id)) ∙ ap (list_all is_digit62) (take-append-drop 3 id) ∙ all in
    (both (list_all is_digit62 (take 3 id)) (list_all is_digit62 (drop 3 id)) parts).1

-- ---- the number in an id

pub made-number : (prefix : List ℕ) (n : ℕ) → length prefix ≡ 3 → n < 10 ^ 15 → number_in prefix (made prefix n) ≡ Some n
unfolding number_in number62
made-number prefix n size small =
    let ds = digits 62 12 n in
    let id = made-written prefix n in
    let front : take 3 (made prefix n) ≡ prefix = ap (take 3) id ∙ take_at prefix (map digit62 ds) 3 size in
    let behind : drop 3 (made prefix n) ≡ map digit62 ds = ap (drop 3) id ∙ drop_at prefix (map digit62 ds) 3 size in
    let whole : n % 62 ^ 12 ≡ n = mod-eq_of_lt (omega (arith, small)) in
    let value : digits_value 62 (map value62 (drop 3 (made prefix n))) ≡ n =
    ap (λ (cs : List ℕ). digits_value 62 (map value62 cs)) behind ∙ ap (digits_value 62) (values_of ds (digits_low 62 12 n (omega arith))) ∙ low_digits_value 62 12 n (omega arith) ∙ whole in
    let same : bytes_eq (take 3 (made prefix n)) prefix ≡ true = (bytes_eq-Decides (take 3 (made prefix n)) prefix).1 front in
    let few : nat_lt n 1000000000000000 ≡ true = grind (arith, nat_tests) in
    rw (same, value, few) refl

number_made : (a b : Bool) (m n : ℕ) → cond (a && b) (Some m) None ≡ Some n → (a ≡ true) × (m ≡ n)
number_made true true m n e = (refl, cc)
number_made true false m n e = absurd cc
number_made false b m n e = absurd cc

pub number-made : (prefix id : List ℕ) (n : ℕ) → IsTrue (is_id id) → number_in prefix id ≡ Some n → id ≡ made prefix n
unfolding number_in number62
number-made prefix id n h e =
    let cs = drop 3 id in
    let ds = map value62 cs in
    let it = number_made (bytes_eq (take 3 id) prefix) (nat_lt (digits_value 62 ds) 1000000000000000) (digits_value 62 ds) n e in
    let front : take 3 id ≡ prefix = (bytes_eq-Decides (take 3 id) prefix).0 it.0 in
    let good = digits_of cs (rest_digits id h) in
    let size : length ds ≡ 12 = omega (arith, length-map cs value62, length-drop 3 id, id_length id h) in
    let plain : n ≡ 0 * 62 ^ length ds + digits_value 62 ds = omega (arith, it.1) in
    let back : digits 62 12 n ≡ ds = ap₂ (λ (k m : ℕ). digits 62 k m) (sym size) plain ∙ spelled 62 ds 0 (omega arith) good.0 in
    sym (take-append-drop 3 id) ∙ ap₂ (λ (a b : List ℕ). a ++ b) front (sym good.1 ∙ ap (map digit62) (sym back)) ∙ sym (made-written prefix n)
