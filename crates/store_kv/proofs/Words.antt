-- Keys compared by words of eight bytes.
use Rattle.std.proofs.Common.{◌≡◌, ℕ, ◌-◌, ◌^◌, ◌<◌, ◌≤◌, List, [], ◌∷◌, ◌++◌, length, take, drop, nat_cmp, refl, sym, ap, ◌∙◌, arith}
use Rattle.std.proofs.lemmas.Cmp.{tied_itself}
use Rattle.std.proofs.lemmas.List.{take-append-drop, drop-append-le, length-take}
use Rattle.std.proofs.lemmas.Nat.{from_be_bytes-to_be_bytes_8}
use Rattle.std.specs.Cmp.{nat_cmp_total}
use Rattle.std.specs.Int.{w64, to_be_bytes}
use Rattle.std.specs.List.{AllByRecursion}
use Rattle.std.specs.Ordering.{ordering_then}
use Rattle.base_lemmas.proofs.Lists.{to_be_bytes-bytes as bytes_low}
use Rattle.base_value.specs.Digits.{digits_value}
use Rattle.store_kv.specs.Tables.{bytes_cmp}

-- the law of `base_value` on the order of digits
abbrev pub DigitsOrdered : Type 0
DigitsOrdered = (base : ℕ) (xs ys : List ℕ) → AllByRecursion (λ d. d < base) xs → AllByRecursion (λ d. d < base) ys → length xs ≡ length ys → bytes_cmp xs ys ≡ nat_cmp (digits_value base xs) (digits_value base ys)

bytes_value : (n : ℕ) → n < 2 ^ 64 → digits_value 256 (to_be_bytes w64 n) ≡ n
bytes_value n h = omega (arith, from_be_bytes-to_be_bytes_8 n h)

-- words are ordered as their numbers
pub words_order : DigitsOrdered → (m n : ℕ) → m < 2 ^ 64 → n < 2 ^ 64 → nat_cmp m n ≡ bytes_cmp (to_be_bytes w64 m) (to_be_bytes w64 n)
words_order law m n low high = sym (law 256 (to_be_bytes w64 m) (to_be_bytes w64 n) (bytes_low m low) (bytes_low n high) refl ∙ ap (λ k. nat_cmp k (digits_value 256 (to_be_bytes w64 n))) (bytes_value m low) ∙ ap (nat_cmp m) (bytes_value n high))

pub same_prefix : (z x y : List ℕ) → bytes_cmp (z ++ x) (z ++ y) ≡ bytes_cmp x y
same_prefix [] x y = refl
same_prefix (c ∷ z) x y = ap (λ o. ordering_then o (bytes_cmp (z ++ x) (z ++ y))) (tied_itself nat_cmp_total c) ∙ same_prefix z x y

parted : (n : ℕ) (l : List ℕ) → n ≤ 8 → 8 ≤ length l → drop n l ≡ drop n (take 8 l) ++ drop 8 l
parted n l low long = ap (drop n) (sym (take-append-drop 8 l)) ∙ drop-append-le n (take 8 l) (drop 8 l) (omega (arith, length-take 8 l))

-- where the first words are the same, the last ones decide
pub ends_order : (a b : List ℕ) → 8 ≤ length a → length a ≤ 16 → length a ≡ length b → take 8 a ≡ take 8 b → bytes_cmp (drop (length a - 8) a) (drop (length b - 8) b) ≡ bytes_cmp a b
ends_order a b long short level same =
    let n = length a - 8 in
    let x = drop 8 a in
    let y = drop 8 b in
    let z = take 8 a in
    ap (λ k. bytes_cmp (drop n a) (drop (k - 8) b)) (sym level)
    ∙ ap (λ l. bytes_cmp l (drop n b)) (parted n a (omega arith) long) ∙ ap (bytes_cmp (drop n z ++ x)) (parted n b (omega arith) (omega arith) ∙ ap (λ l. drop n l ++ y) (sym same))
    ∙ same_prefix (drop n z) x y ∙ sym (same_prefix z x y) ∙ ap (λ l. bytes_cmp (z ++ x) (l ++ y)) same
    ∙ ap (λ l. bytes_cmp l (take 8 b ++ y)) (take-append-drop 8 a) ∙ ap (bytes_cmp a) (take-append-drop 8 b)
