-- Signed numbers, raised by half of their range, and their order.
use Rattle.std.proofs.Common.{◌≡◌, ℕ, zero, suc, ◌+◌, ◌-◌, ◌*◌, ◌/◌, ◌%◌, ◌^◌, ◌<◌, ◌≤◌, List, [], ◌∷◌, ℤ, pos, negsuc, ◌+ℤ◌, ◌≤ℤ◌, ◌<ℤ◌, refl, sym, ap, ap₂, ◌∙◌, arith, w32, w64, to_z, of_z}
use Rattle.std.proofs.Math.Nat.{div-one, mod-eq_of_lt}
use Rattle.std.specs.Prelude.{unsigned_abs, FitsSigned, neg_ℤ}
use Rattle.std.specs.Int.{w128, to_be_bytes, bytes_high_first}
use Rattle.std.specs.Ordering.{nat_cmp, int_cmp}
use Rattle.std.specs.Cmp.Lexicographic.{slice_cmp}
use Rattle.std.proofs.lemmas.Bool.{le-ltb}
use Rattle.std.proofs.lemmas.Bool.Decides.{nat_tests}
use Rattle.std.proofs.lemmas.Int.{ints, to_z-of_z}
use Rattle.std.proofs.lemmas.Nat.{mod-mul-add}
use Rattle.std.proofs.Math.IntN.{sub_ℕ}
use Rattle.base_lemmas.proofs.Orders.{nat_cmp-less as cmp_less}
use Rattle.base_value.specs.Digits.{digits, digits_value}
use Rattle.base_value.specs.OrderKeys.{IsSigned, raised}
use Rattle.base_value.proofs.Digits.{digits-length}
use Rattle.base_value.proofs.DigitOrder.{cmp_more, digits_low, digits_order, low_digits_value}

-- ---- the bytes of a number are its digits

bytes_are_digits : (k n : ℕ) → bytes_high_first k n ≡ digits 256 k n
unfolding digits
bytes_are_digits zero n = refl
bytes_are_digits (suc zero) n = ap (λ (d : ℕ). d % 256 ∷ []) (sym (div-one n))
bytes_are_digits (suc (suc k)) n = ap (λ (ds : List ℕ). n / 256 ^ suc k % 256 ∷ ds) (bytes_are_digits (suc k) n)

-- ---- what wraps is raised

-- a difference that isn't negative
sub_size : (m n : ℕ) → n ≤ m → unsigned_abs (sub_ℕ m n) ≡ m - n
sub_size m n h = rw (le-ltb m n h) refl

wraps_above : (half n : ℕ) → n < half → (n + half) % (half + half) ≡ n + half
wraps_above half n h = mod-eq_of_lt (omega arith)

wraps_below : (half n : ℕ) → n < half → (half + half - suc n + half) % (half + half) ≡ half - suc n
wraps_below half n h =
    let parts : half + half - suc n + half ≡ 1 * (half + half) + (half - suc n) = omega arith in
    ap (λ (m : ℕ). m % (half + half)) parts ∙ mod-mul-add 1 (half + half) (half - suc n) (omega arith)

raises_32 : (z : ℤ) → FitsSigned w32 z → (of_z w32 z + 2 ^ 31) % 2 ^ 32 ≡ unsigned_abs (z +ℤ pos (2 ^ 31))
raises_32 (pos n) h = wraps_above (2 ^ 31) n h.sfits
raises_32 (negsuc n) h = wraps_below (2 ^ 31) n h.sfits ∙ sym (sub_size (2 ^ 31) (suc n) (omega (arith, h.sfits)))

raises_64 : (z : ℤ) → FitsSigned w64 z → (of_z w64 z + 2 ^ 63) % 2 ^ 64 ≡ unsigned_abs (z +ℤ pos (2 ^ 63))
raises_64 (pos n) h = wraps_above (2 ^ 63) n h.sfits
raises_64 (negsuc n) h = wraps_below (2 ^ 63) n h.sfits ∙ sym (sub_size (2 ^ 63) (suc n) (omega (arith, h.sfits)))

raises_128 : (z : ℤ) → FitsSigned w128 z → (of_z w128 z + 2 ^ 127) % 2 ^ 128 ≡ unsigned_abs (z +ℤ pos (2 ^ 127))
raises_128 (pos n) h = wraps_above (2 ^ 127) n h.sfits
raises_128 (negsuc n) h = wraps_below (2 ^ 127) n h.sfits ∙ sym (sub_size (2 ^ 127) (suc n) (omega (arith, h.sfits)))

pub raised_32 : (z : ℤ) (n : ℕ) → FitsSigned w32 z → n ≡ of_z w32 (to_z w32 (of_z w32 z)) → to_be_bytes w32 ((n + 2 ^ 31) % 2 ^ 32) ≡ raised 4 z
unfolding raised
raised_32 z n h e =
    ap (λ (m : ℕ). to_be_bytes w32 ((m + 2 ^ 31) % 2 ^ 32)) (e ∙ ap (of_z w32) (to_z-of_z w32 z h))
    ∙ bytes_are_digits 4 ((of_z w32 z + 2 ^ 31) % 2 ^ 32) ∙ ap (digits 256 4) (raises_32 z h)

pub raised_64 : (z : ℤ) (n : ℕ) → FitsSigned w64 z → n ≡ of_z w64 (to_z w64 (of_z w64 z)) → to_be_bytes w64 ((n + 2 ^ 63) % 2 ^ 64) ≡ raised 8 z
unfolding raised
raised_64 z n h e =
    ap (λ (m : ℕ). to_be_bytes w64 ((m + 2 ^ 63) % 2 ^ 64)) (e ∙ ap (of_z w64) (to_z-of_z w64 z h))
    ∙ bytes_are_digits 8 ((of_z w64 z + 2 ^ 63) % 2 ^ 64) ∙ ap (digits 256 8) (raises_64 z h)

pub raised_128 : (z : ℤ) (n : ℕ) → FitsSigned w128 z → n ≡ of_z w128 (to_z w128 (of_z w128 z)) → to_be_bytes w128 ((n + 2 ^ 127) % 2 ^ 128) ≡ raised 16 z
unfolding raised
raised_128 z n h e =
    ap (λ (m : ℕ). to_be_bytes w128 ((m + 2 ^ 127) % 2 ^ 128)) (e ∙ ap (of_z w128) (to_z-of_z w128 z h))
    ∙ bytes_are_digits 16 ((of_z w128 z + 2 ^ 127) % 2 ^ 128) ∙ ap (digits 256 16) (raises_128 z h)

-- ---- the order of what is raised

-- digits that hold the whole of two numbers
whole_digits : (k m n : ℕ) → m < 256 ^ k → n < 256 ^ k → slice_cmp nat_cmp (digits 256 k m) (digits 256 k n) ≡ nat_cmp m n
whole_digits k m n lm ln =
    let value : (a : ℕ) → a < 256 ^ k → digits_value 256 (digits 256 k a) ≡ a = λ a l. low_digits_value 256 k a (omega arith) ∙ mod-eq_of_lt l in
    digits_order 256 (digits 256 k m) (digits 256 k n) (digits_low 256 k m (omega arith)) (digits_low 256 k n (omega arith)) (digits-length 256 k m ∙ sym (digits-length 256 k n))
    ∙ ap₂ nat_cmp (value m lm) (value n ln)

-- a number below 0 that isn't below minus half
low_size : (half n : ℕ) → neg_ℤ (pos half) ≤ℤ negsuc n → n < half
low_size zero n h = absurd (omega (arith, ints))
low_size (suc m) n h = omega (arith, ints)

low_raised : (half n : ℕ) → n < half → unsigned_abs (negsuc n +ℤ pos half) ≡ half - suc n
low_raised half n h = sub_size half (suc n) (omega arith)

above_cmp : (half m n : ℕ) → nat_cmp (m + half) (n + half) ≡ int_cmp (pos m) (pos n)
above_cmp half m n = grind (arith, nat_tests)

below_cmp : (half m n : ℕ) → m < half → n < half → nat_cmp (half - suc m) (half - suc n) ≡ int_cmp (negsuc m) (negsuc n)
below_cmp half m n h g = grind (arith, nat_tests)

raised_cmp : (half : ℕ) (a b : ℤ) → neg_ℤ (pos half) ≤ℤ a → neg_ℤ (pos half) ≤ℤ b → nat_cmp (unsigned_abs (a +ℤ pos half)) (unsigned_abs (b +ℤ pos half)) ≡ int_cmp a b
raised_cmp half (pos m) (pos n) h g = above_cmp half m n
raised_cmp half (pos m) (negsuc n) h g =
    let small = low_size half n g in
    ap (nat_cmp (m + half)) (low_raised half n small) ∙ cmp_more (m + half) (half - suc n) (omega arith)
raised_cmp half (negsuc m) (pos n) h g =
    let small = low_size half m h in
    ap (λ (size : ℕ). nat_cmp size (n + half)) (low_raised half m small) ∙ cmp_less (half - suc m) (n + half) (omega arith)
raised_cmp half (negsuc m) (negsuc n) h g =
    let first = low_size half m h in
    let second = low_size half n g in
    ap₂ nat_cmp (low_raised half m first) (low_raised half n second) ∙ below_cmp half m n first second

-- a raised number is within the range
raised_within : (half : ℕ) (z : ℤ) → neg_ℤ (pos half) ≤ℤ z → z <ℤ pos half → unsigned_abs (z +ℤ pos half) < half + half
raised_within half (pos n) h g = omega (arith, ints)
raised_within half (negsuc n) h g =
    let small = low_size half n h in
    rw (low_raised half n small) (omega arith)

-- for numbers of so many bytes, whose range is twice the half
raised_order : (bytes half : ℕ) (a b : ℤ) → half + half ≡ 256 ^ bytes → neg_ℤ (pos half) ≤ℤ a → a <ℤ pos half → neg_ℤ (pos half) ≤ℤ b → b <ℤ pos half
    → slice_cmp nat_cmp (digits 256 bytes (unsigned_abs (a +ℤ pos half))) (digits 256 bytes (unsigned_abs (b +ℤ pos half))) ≡ int_cmp a b
raised_order bytes half a b range la ha lb hb =
    let first = raised_within half a la ha in
    let second = raised_within half b lb hb in
    whole_digits bytes (unsigned_abs (a +ℤ pos half)) (unsigned_abs (b +ℤ pos half)) (omega (arith, first, range)) (omega (arith, second, range))
    ∙ raised_cmp half a b la lb

pub order_32 : (a b : ℤ) → IsSigned 4 a → IsSigned 4 b → slice_cmp nat_cmp (raised 4 a) (raised 4 b) ≡ int_cmp a b
unfolding raised
order_32 a b h g = raised_order 4 (2 ^ 31) a b refl h.0 h.1 g.0 g.1

pub order_64 : (a b : ℤ) → IsSigned 8 a → IsSigned 8 b → slice_cmp nat_cmp (raised 8 a) (raised 8 b) ≡ int_cmp a b
unfolding raised
order_64 a b h g = raised_order 8 (2 ^ 63) a b refl h.0 h.1 g.0 g.1

pub order_128 : (a b : ℤ) → IsSigned 16 a → IsSigned 16 b → slice_cmp nat_cmp (raised 16 a) (raised 16 b) ≡ int_cmp a b
unfolding raised
order_128 a b h g = raised_order 16 (2 ^ 127) a b refl h.0 h.1 g.0 g.1
