-- The parts of later tables whose spellings keep an order.
use Rattle.std.proofs.Common.{◌≡◌, ℕ, zero, suc, ◌^◌, ◌<◌, [], ◌∷◌, refl, sym, arith}
use Rattle.std.proofs.lemmas.Nat.{from_be_bytes-to_be_bytes_2, from_be_bytes-to_be_bytes_8}
use Rattle.std.specs.Cmp.{nat_cmp_is}
use Rattle.std.specs.List.{AllByRecursion}
use Rattle.std.specs.Int.{w16, w64, to_be_bytes}
use Rattle.std.specs.declared.cmp.Ordering.TheVariants.{Less, Greater}
use Rattle.std.specs.Ordering.{nat_cmp}
use Rattle.base_lemmas.proofs.Lists.{to_be_bytes-bytes as number64_low}
use Rattle.base_lemmas.proofs.Orders.{ordering_then-assoc as then_assoc}
use Rattle.base_value.specs.Digits.{digits_value}
use Rattle.store_kv.specs.Tables.{bytes_cmp}
use Rattle.store_codec.specs.Plain.{number8, number16, number64}
use Rattle.base_value.specs.Principals.{kind_number, principal_cmp, principal_id}
use Rattle.store_codec.specs.Composed.{principal, FitsPrincipal, ordered}
use Rattle.store_codec.specs.PartLaws.{IsBytes, KeepsOrder}
use Rattle.store_codec.proofs.PlainOrder.{DigitsOrdered, digits_keep, id_keeps}

-- ---- numbers

pub number8_keeps : KeepsOrder nat_cmp (λ n. n < 256) number8
number8_keeps a b x y fa fb = refl

pub number16_low : (n : ℕ) → n < 2 ^ 16 → AllByRecursion (λ d. d < 256) (to_be_bytes w16 n)
number16_low n h = (omega arith, (omega arith, tt))

number16_value : (n : ℕ) → n < 2 ^ 16 → digits_value 256 (to_be_bytes w16 n) ≡ n
number16_value n h = omega (arith, from_be_bytes-to_be_bytes_2 n h)

pub number16_keeps : DigitsOrdered → KeepsOrder nat_cmp (λ n. n < 2 ^ 16) number16
unfolding number16
number16_keeps law = digits_keep law 256 2 (λ n. n) (λ n. n < 2 ^ 16) (to_be_bytes w16) number16_low (λ n h. refl) number16_value

number64_value : (n : ℕ) → n < 2 ^ 64 → digits_value 256 (to_be_bytes w64 n) ≡ n
number64_value n h = omega (arith, from_be_bytes-to_be_bytes_8 n h)

pub number64_keeps : DigitsOrdered → KeepsOrder nat_cmp (λ n. n < 2 ^ 64) number64
unfolding number64
number64_keeps law = digits_keep law 256 8 (λ n. n) (λ n. n < 2 ^ 64) (to_be_bytes w64) number64_low (λ n h. refl) number64_value

-- ---- principals

pub principal_keeps : KeepsOrder principal_cmp FitsPrincipal principal
principal_keeps a b x y fa fb =
    rw (id_keeps (principal_id a) (principal_id b) x y fa fb) (sym (then_assoc (nat_cmp (kind_number a) (kind_number b)) (bytes_cmp (principal_id a) (principal_id b)) (bytes_cmp x y)))

-- ---- ordered bytes

zero_first : (d : ℕ) → nat_cmp 0 (suc d) ≡ Less
zero_first d = sym (nat_cmp_is 0 (suc d) Less (omega arith))

zero_last : (d : ℕ) → nat_cmp (suc d) 0 ≡ Greater
zero_last d = sym (nat_cmp_is (suc d) 0 Greater (omega arith))

pub ordered_keeps : KeepsOrder bytes_cmp IsBytes ordered
ordered_keeps [] [] x y fa fb = refl
ordered_keeps [] (zero ∷ b) x y fa fb = refl
ordered_keeps [] (suc d ∷ b) x y fa fb = rw (zero_first d) refl
ordered_keeps (zero ∷ a) [] x y fa fb = refl
ordered_keeps (suc c ∷ a) [] x y fa fb = rw (zero_last c) refl
ordered_keeps (zero ∷ a) (zero ∷ b) x y fa fb = ordered_keeps a b x y (λ i. fa (suc i)) (λ i. fb (suc i))
ordered_keeps (zero ∷ a) (suc d ∷ b) x y fa fb = rw (zero_first d) refl
ordered_keeps (suc c ∷ a) (zero ∷ b) x y fa fb = rw (zero_last c) refl
ordered_keeps (suc c ∷ a) (suc d ∷ b) x y fa fb =
    rw (ordered_keeps a b x y (λ i. fa (suc i)) (λ i. fb (suc i))) (sym (then_assoc (nat_cmp (suc c) (suc d)) (bytes_cmp a b) (bytes_cmp x y)))
