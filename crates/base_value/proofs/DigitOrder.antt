-- Digits of one base are ordered as the numbers that they spell, and ids of one prefix as theirs.
use Rattle.std.proofs.Common.{◌≡◌, ℕ, zero, suc, ◌+◌, ◌*◌, ◌/◌, ◌%◌, ◌^◌, ◌<◌, ◌≤◌, List, [], ◌∷◌, ◌++◌, length, map, refl, sym, ap, ◌∙◌, arith}
use Rattle.std.proofs.Math.Nat.{mul-le-mul_right, pow-zero, pow-succ', div-add-mod, mod-eq_of_lt}
use Rattle.std.specs.List.{AllByRecursion}
use Rattle.std.specs.declared.cmp.Ordering.TheVariants.{Equal, Greater}
use Rattle.std.specs.Ordering.{nat_cmp, ordering_then}
use Rattle.std.specs.Cmp.Lexicographic.{slice_cmp}
use Rattle.std.proofs.lemmas.Cmp.{ranked, by_ranked}
use Rattle.std.proofs.lemmas.Bool.Decides.{nat_tests}
use Rattle.std.proofs.lemmas.Nat.{mod-mul-add}
use Rattle.base_lemmas.proofs.Orders.{nat_cmp-less as cmp_less}
use Rattle.base_value.specs.Digits.{digits, digits_value}
use Rattle.base_value.specs.Id.{digit62, made}
use Rattle.base_value.proofs.Digits.{digits-length}

pub cmp_same : (x y : ℕ) → x ≡ y → nat_cmp x y ≡ Equal
cmp_same x y h = grind (arith, nat_tests)

pub cmp_more : (x y : ℕ) → y < x → nat_cmp x y ≡ Greater
cmp_more x y h = grind (arith, nat_tests)

-- a digit in front of a number below the base
pub cmp_join : (B a b x y : ℕ) → x < B → y < B → nat_cmp (a * B + x) (b * B + y) ≡ ordering_then (nat_cmp a b) (nat_cmp x y)
cmp_join B a b x y lx ly =
    by_ranked (a < b) (a ≡ b) (b < a) (nat_cmp a b) (ranked a b (nat_cmp a b) refl)
    (λ e h. let s : a + 1 ≤ b = omega arith in let m : (a + 1) * B ≤ b * B = mul-le-mul_right B s in rw e (cmp_less (a * B + x) (b * B + y) (omega arith)))
    (λ e h. rw (e, h) (
    by_ranked (x < y) (x ≡ y) (y < x) (nat_cmp x y) (ranked x y (nat_cmp x y) refl)
    (λ f g. rw f (cmp_less (b * B + x) (b * B + y) (omega arith)))
    (λ f g. rw f (cmp_same (b * B + x) (b * B + y) (omega arith)))
    (λ f g. rw f (cmp_more (b * B + x) (b * B + y) (omega arith)))))
    (λ e h. let s : b + 1 ≤ a = omega arith in let m : (b + 1) * B ≤ a * B = mul-le-mul_right B s in rw e (cmp_more (a * B + x) (b * B + y) (omega arith)))

pub value_below : (B : ℕ) (ds : List ℕ) → AllByRecursion (λ d. d < B) ds → digits_value B ds < B ^ length ds
value_below B [] h = omega (arith, pow-zero B)
value_below B (d ∷ ds) h =
    let v = value_below B ds h.1 in
    let s : d + 1 ≤ B = omega (arith, h.0) in
    let m : (d + 1) * B ^ length ds ≤ B * B ^ length ds = mul-le-mul_right (B ^ length ds) s in
    let p : B ^ suc (length ds) ≡ B * B ^ length ds = pow-succ' B (length ds) in
    rw p (omega arith)

pub digits_order : (B : ℕ) (xs ys : List ℕ) → AllByRecursion (λ d. d < B) xs → AllByRecursion (λ d. d < B) ys → length xs ≡ length ys → slice_cmp nat_cmp xs ys ≡ nat_cmp (digits_value B xs) (digits_value B ys)
digits_order B [] [] h g e = refl
digits_order B [] (y ∷ ys) h g e = absurd (omega arith)
digits_order B (x ∷ xs) [] h g e = absurd (omega arith)
digits_order B (x ∷ xs) (y ∷ ys) h g e =
    let l : length xs ≡ length ys = omega arith in
    let p = value_below B ys g.1 in
    let q : digits_value B xs < B ^ length ys = rw (← l) (value_below B xs h.1) in
    rw (digits_order B xs ys h.1 g.1 l, l) (sym (cmp_join (B ^ length ys) x y (digits_value B xs) (digits_value B ys) q p))

pub digits_low : (B k n : ℕ) → 0 < B → AllByRecursion (λ d. d < B) (digits B k n)
unfolding digits
digits_low B zero n h = tt
digits_low B (suc k) n h = (omega arith, digits_low B k n h)

pow_more : (B k : ℕ) → 0 < B → 0 < B ^ k
pow_more B zero h = omega (arith, pow-zero B)
pow_more B (suc k) h = let p = pow_more B k h in rw (pow-succ' B k) (mul_pos B (B ^ k) h p)
  where
    mul_pos : (a b : ℕ) → 0 < a → 0 < b → 0 < a * b
    mul_pos a b ha hb = let m : 1 * b ≤ a * b = mul-le-mul_right b ha in omega arith

-- the lowest digits spell the remainder
pub low_digits_value : (B k n : ℕ) → 0 < B → digits_value B (digits B k n) ≡ n % B ^ k
unfolding digits
low_digits_value B zero n h = rw pow-zero (omega arith)
low_digits_value B (suc k) n h =
    let P = B ^ k in
    let pos : 0 < P = pow_more B k h in
    let rest = low_digits_value B k n h in
    let q = n / P in
    let bound : (q % B + 1) * P ≤ B * P = mul-le-mul_right P (omega arith) in
    let low : q % B * P + n % P < B * P = omega arith in
    let split : P * q ≡ P * (B * (q / B) + q % B) = ap (λ (z : ℕ). P * z) (sym (div-add-mod q B)) in
    let parts : n ≡ q / B * (B * P) + (q % B * P + n % P) = omega (arith, div-add-mod n P, split) in
    rw (digits-length B k n, rest, pow-succ' B k) (sym (ap (λ (z : ℕ). z % (B * P)) parts ∙ mod-mul-add (q / B) (B * P) (q % B * P + n % P) low))

digit_order : (a b : ℕ) → a < 62 → b < 62 → nat_cmp (digit62 a) (digit62 b) ≡ nat_cmp a b
digit_order a b la lb = grind (arith, nat_tests)

map_order : (xs ys : List ℕ) → AllByRecursion (λ d. d < 62) xs → AllByRecursion (λ d. d < 62) ys → slice_cmp nat_cmp (map digit62 xs) (map digit62 ys) ≡ slice_cmp nat_cmp xs ys
map_order [] [] h g = refl
map_order [] (y ∷ ys) h g = refl
map_order (x ∷ xs) [] h g = refl
map_order (x ∷ xs) (y ∷ ys) h g = rw (digit_order x y h.0 g.0, map_order xs ys h.1 g.1) refl

pub same_front : (p x y : List ℕ) → slice_cmp nat_cmp (p ++ x) (p ++ y) ≡ slice_cmp nat_cmp x y
same_front [] x y = refl
same_front (c ∷ p) x y = rw (cmp_same c c refl) (same_front p x y)

pub made-order : (p : List ℕ) (m n : ℕ) → m < 62 ^ 12 → n < 62 ^ 12 → slice_cmp nat_cmp (made p m) (made p n) ≡ nat_cmp m n
unfolding made
made-order p m n lm ln =
    let a = digits_low 62 12 m (omega arith) in
    let b = digits_low 62 12 n (omega arith) in
    same_front p (map digit62 (digits 62 12 m)) (map digit62 (digits 62 12 n))
    ∙ map_order (digits 62 12 m) (digits 62 12 n) a b
    ∙ digits_order 62 (digits 62 12 m) (digits 62 12 n) a b (digits-length 62 12 m ∙ sym (digits-length 62 12 n))
    ∙ rw (low_digits_value 62 12 m (omega arith), low_digits_value 62 12 n (omega arith), small m (62 ^ 12) lm, small n (62 ^ 12) ln) refl
  where
    small : (a w : ℕ) → a < w → a % w ≡ a
    small a w h = mod-eq_of_lt h

-- different numbers have different ids
pub made-one : (p : List ℕ) (m n : ℕ) → m < 62 ^ 12 → n < 62 ^ 12 → made p m ≡ made p n → m ≡ n
made-one p m n lm ln e =
    let same : slice_cmp nat_cmp (made p m) (made p m) ≡ slice_cmp nat_cmp (made p m) (made p n) = ap (slice_cmp nat_cmp (made p m)) e in
    let equal : nat_cmp m n ≡ Equal = sym (made-order p m n lm ln) ∙ sym same ∙ made-order p m m lm lm ∙ cmp_same m m refl in
    by_ranked (m < n) (m ≡ n) (n < m) (nat_cmp m n) (ranked m n (nat_cmp m n) refl) (λ less h. absurd (cc)) (λ e h. h) (λ more h. absurd (cc))
