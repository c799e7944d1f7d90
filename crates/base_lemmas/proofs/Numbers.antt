-- Numbers, and their tests.
use Rattle.std.proofs.Common.{arith, ◌≡◌, ◌<◌, ◌^◌, ℕ, true, ◌≤◌, false, ◌==◌, eqb, eq-eqb, refl, zero, suc, slice_index}
use Rattle.std.specs.Prelude.{nat_le, nat_lt}
use Rattle.std.proofs.lemmas.Bool.Decides.{nat_tests}
use Rattle.std.proofs.Math.ListN.{replicate}

pub below_u32 : (n : ℕ) → nat_le n 4294967295 ≡ true → n < 2 ^ 32
below_u32 n h = grind (arith, nat_tests)

pub within_u32 : (n : ℕ) → n < 2 ^ 32 → nat_le n 4294967295 ≡ true
within_u32 n h = grind (arith, nat_tests)

pub seconds_below : (n : ℕ) → nat_le n 253402300799 ≡ true → n < 2 ^ 63
seconds_below n h = grind (arith, nat_tests)

pub lt_from_ltb : {a b : ℕ} → nat_lt a b ≡ true → a < b
lt_from_ltb h = grind (arith, nat_tests)

pub le_from_ltb : {a b : ℕ} → nat_lt a b ≡ false → b ≤ a
le_from_ltb h = grind (arith, nat_tests)

pub eqb-less : (a b : ℕ) → a < b → (a == b) ≡ false
eqb-less a b h = grind (arith, nat_tests)

pub eqb-self : (n : ℕ) → eqb n n ≡ true
eqb-self n = eq-eqb n n refl

pub slice_index-replicate_zero : (n table : ℕ) → slice_index (replicate n 0) table ≡ 0
slice_index-replicate_zero zero table = refl
slice_index-replicate_zero (suc n) zero = refl
slice_index-replicate_zero (suc n) (suc table) = slice_index-replicate_zero n table
