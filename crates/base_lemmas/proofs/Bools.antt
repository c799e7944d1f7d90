-- Tests: `&&`, `||`, `not`, `cond`, and a case for each answer.
use Rattle.std.proofs.Common.{◌≡◌, Bool, true, false, ◌&&◌, refl, sym, T, ◌≤◌, cond, arith}
use Rattle.std.specs.Prelude.{◌||◌}

pub not_both : (b : Bool) → b ≡ true → b ≡ false → ⊥
not_both true e f = cc
not_both false e f = cc

pub and_first : (a b : Bool) → (a && b) ≡ true → a ≡ true
and_first true b h = refl
and_first false b h = h

pub and_second : (a b : Bool) → (a && b) ≡ true → b ≡ true
and_second true b h = h
and_second false b h = absurd cc

pub by_answer : (b : Bool) (P : Bool → Type 0) → (b ≡ true → P true) → (b ≡ false → P false) → P b
by_answer true P f g = f refl
by_answer false P f g = g refl

pub same_both_ways : (a b : Bool) → (a ≡ true → b ≡ true) → (b ≡ true → a ≡ true) → a ≡ b
same_both_ways true b f g = sym (f refl)
same_both_ways false true f g = g refl
same_both_ways false false f g = refl

pub T-and_first : (a b : Bool) → T (a && b) → T a
T-and_first true b p = tt
T-and_first false b p = p

pub T-and_second : (a b : Bool) → T (a && b) → T b
T-and_second true b h = h
T-and_second false b h = absurd h

pub true_from_T : (b : Bool) → T b → b ≡ true
true_from_T true h = refl
true_from_T false h = absurd h

pub or-true : (b : Bool) → (b || true) ≡ true
or-true true = refl
or-true false = refl

pub cond_at_most_one : (b : Bool) → cond b 1 0 ≤ 1
cond_at_most_one true = omega arith
cond_at_most_one false = omega arith

pub and-false : (b : Bool) → (b && false) ≡ false
and-false true = refl
and-false false = refl

pub and-true : (b : Bool) → (b && true) ≡ b
and-true true = refl
and-true false = refl

pub or-false : (a : Bool) → (a || false) ≡ a
or-false true = refl
or-false false = refl

pub T-and_from : (a b : Bool) → T a → T b → T (a && b)
T-and_from true b p q = q
T-and_from false b p q = p

pub T-and_from_true : (a b : Bool) → a ≡ true → T b → T (a && b)
T-and_from_true true b e h = h
T-and_from_true false b e h = absurd cc

pub T-and_parts : (a b : Bool) → T (a && b) → T a × T b
T-and_parts true b h = (tt, h)
T-and_parts false b h = absurd h

pub or_first_false : (a b : Bool) → (a || b) ≡ false → a ≡ false
or_first_false true b e = absurd cc
or_first_false false b e = refl

pub or_second_false : (a b : Bool) → (a || b) ≡ false → b ≡ false
or_second_false true b h = absurd cc
or_second_false false b h = h

pub and_second_false : (a b : Bool) → a ≡ true → (a && b) ≡ false → b ≡ false
and_second_false true b h e = e
and_second_false false b h e = absurd cc

pub or_from_false : (a b x : Bool) → a ≡ false → x ≡ b → x ≡ (a || b)
or_from_false a b x e h = rw e h
