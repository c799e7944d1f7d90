-- What a comparison answers.
use Rattle.std.proofs.Common.{◌≡◌, true, refl, ℕ, ◌<◌, arith, T}
use Rattle.std.specs.Ordering.{is_eq, nat_cmp, ordering_then, is_lt, is_ge, is_le, ordering_reverse}
use Rattle.std.specs.declared.cmp.Ordering.{Ordering}
use Rattle.std.specs.declared.cmp.Ordering.TheVariants.{Less, Equal, Greater}
use Rattle.std.specs.Cmp.{nat_cmp_total}
use Rattle.std.proofs.lemmas.Cmp.{tied_itself}
use Rattle.std.proofs.lemmas.Bool.Decides.{nat_tests}

pub equal_from_is_eq : (r : Ordering) → is_eq r ≡ true → r ≡ Equal
equal_from_is_eq Less e = absurd cc
equal_from_is_eq Equal e = refl
equal_from_is_eq Greater e = absurd cc

pub nat_cmp-self : (n : ℕ) → nat_cmp n n ≡ Equal
nat_cmp-self n = tied_itself nat_cmp_total n

pub nat_cmp-less : (x y : ℕ) → x < y → nat_cmp x y ≡ Less
nat_cmp-less x y h = grind (arith, nat_tests)

pub ordering_then-assoc : (a b c : Ordering) → ordering_then (ordering_then a b) c ≡ ordering_then a (ordering_then b c)
ordering_then-assoc Less b c = refl
ordering_then-assoc Equal b c = refl
ordering_then-assoc Greater b c = refl

pub ordering_then-equal : (o : Ordering) → ordering_then o Equal ≡ o
ordering_then-equal Less = refl
ordering_then-equal Equal = refl
ordering_then-equal Greater = refl

pub less_from_T : (o : Ordering) → T (is_lt o) → o ≡ Less
less_from_T Less h = refl
less_from_T Equal h = absurd h
less_from_T Greater h = absurd h

pub less_from_is_lt : (o : Ordering) → is_lt o ≡ true → o ≡ Less
less_from_is_lt Less h = refl
less_from_is_lt Equal h = absurd cc
less_from_is_lt Greater h = absurd cc

pub ordering_then_equal_parts : (a b : Ordering) → is_eq (ordering_then a b) ≡ true → (is_eq a ≡ true) × (is_eq b ≡ true)
ordering_then_equal_parts Less b e = absurd cc
ordering_then_equal_parts Equal b e = (refl, e)
ordering_then_equal_parts Greater b e = absurd cc

pub is_ge-reverse : (o : Ordering) → is_ge (ordering_reverse o) ≡ is_le o
is_ge-reverse Less = refl
is_ge-reverse Equal = refl
is_ge-reverse Greater = refl
