-- Reading of numbers is exact.
use Rattle.std.proofs.Common.{◌≡◌, ℕ, Bool, true, false, ◌==◌, cond, List, [], ◌∷◌, ◌++◌, length, Option, Some, None, refl, sym, ◌∙◌, ap, inl, inr, eqb-true, arith, ne_eqb as not_same}
use Rattle.base_value.specs.Numerals.{exactly, is_digit, of_digits}
use Rattle.base_value.proofs.Printed.{digit_range}
use Rattle.base_value.proofs.Sizes.{exactly_is, exactly_some, exactly_none}
use Rattle.base_json.specs.Characters.{digits_at, after_digits}
use Rattle.base_json.specs.Numerals.{Parts, stands, Minus, Digits, has_leading_zero, Whole, Fraction, is_exponent_mark, Power_sign, Exponent, Literal, IsExactly, up_of, down_of, IsAmount, Numeral}
use Rattle.base_json.specs.Reading.{behind, some_digits, digits, signed_by, minus, whole, fraction_by, fraction, power_sign, power, exponent, literal, num_of, amount, numeral}
use Rattle.base_json.specs.declared.tree.Num.{Num}
use Rattle.base_json.specs.declared.tree.Num.TheVariants.{Exact, Beyond}
use Rattle.base_json.proofs.Shrinks.{bind_some, chosen, behind_is}
use Rattle.base_json.proofs.Exact as e
use Rattle.base_json.proofs.Exact.{found_is, moved, behind_whole, behind_stands, behind_none}

digits_told : (cs ds rest : List ℕ) → digits cs ≡ Some (ds, rest) → Digits cs ds rest
unfolding digits
digits_told cs ds rest h = by_digits (digits_at cs) refl h
  where
    by_digits : (xs : List ℕ) → digits_at cs ≡ xs → some_digits xs (after_digits cs) ≡ Some (ds, rest) → Digits cs ds rest
    by_digits [] is e = absurd (cc)
    by_digits (x ∷ xs) is e = let f = found_is (x ∷ xs) ds (after_digits cs) rest e in (λ none. absurd (cc (f.0, none)), sym f.0 ∙ sym is, sym f.1)

digits_whole : (cs ds rest : List ℕ) → Digits cs ds rest → digits cs ≡ Some (ds, rest)
unfolding digits
digits_whole cs [] rest h = absurd (h.0 refl)
digits_whole cs (d ∷ ds) rest h = rw (← h.1, ← h.2) refl

pub digits_exact : e.Exact Digits digits
digits_exact = record { told = digits_told; whole = digits_whole }

minus_told : (cs : List ℕ) → Minus cs (minus cs).0 (minus cs).1
unfolding minus
minus_told cs = by_sign (behind 45 cs) refl
  where
    by_sign : (o : Option (List ℕ)) → behind 45 cs ≡ o → Minus cs (signed_by cs o).0 (signed_by cs o).1
    by_sign None e = (refl, behind_stands 45 cs e)
    by_sign (Some rest) e = behind_is 45 cs rest e

minus_whole : (cs : List ℕ) (m : Bool) (rest : List ℕ) → Minus cs m rest → minus cs ≡ (m, rest)
unfolding minus
minus_whole cs true rest h = ap (signed_by cs) (behind_whole 45 cs rest h)
minus_whole cs false rest h = ap (signed_by cs) (behind_none 45 cs h.1) ∙ rw h.0 refl

whole_told : (cs ds rest : List ℕ) → whole cs ≡ Some (ds, rest) → Whole cs ds rest
unfolding whole
whole_told cs ds rest h =
    let d = bind_some (digits cs) _ _ h in
    elim (chosen (has_leading_zero d.0.0) _ _ _ d.2) [
      | inl x ↦ absurd (cc)
      | inr x ↦
          moved Whole d.0.0 ds cs d.0.1 rest x.1 (digits_told cs d.0.0 d.0.1 d.1, x.0)
    ]

whole_whole : (cs ds rest : List ℕ) → Whole cs ds rest → whole cs ≡ Some (ds, rest)
unfolding whole
whole_whole cs ds rest h = rw (digits_whole cs ds rest h.0, h.1) refl

fraction_told : (cs ds rest : List ℕ) → fraction cs ≡ Some (ds, rest) → Fraction cs ds rest
unfolding fraction
fraction_told cs ds rest h = by_point (behind 46 cs) refl h
  where
    by_point : (o : Option (List ℕ)) → behind 46 cs ≡ o → fraction_by cs o ≡ Some (ds, rest) → Fraction cs ds rest
    by_point None e h = let f = found_is [] ds cs rest h in inl (sym f.0, sym f.1, behind_stands 46 cs e)
    by_point (Some after) e h = inr (after, behind_is 46 cs after e, digits_told after ds rest h)

fraction_whole : (cs ds rest : List ℕ) → Fraction cs ds rest → fraction cs ≡ Some (ds, rest)
unfolding fraction
fraction_whole cs ds rest (inl h) = rw (behind_none 46 cs h.2, h.0, h.1) refl
fraction_whole cs ds rest (inr h) = ap (fraction_by cs) (behind_whole 46 cs h.0 h.1) ∙ digits_whole h.0 ds rest h.2

power_sign_told : (cs : List ℕ) → Power_sign cs (power_sign cs).0 (power_sign cs).1
unfolding power_sign
power_sign_told [] = inr refl
power_sign_told (c ∷ cs) = by_sign (c == 45) (c == 43) refl refl
  where
    by_sign : (a b : Bool) → (c == 45) ≡ a → (c == 43) ≡ b
        → let sign : Bool × List ℕ = cond a (true, cs) (cond b (false, cs) (false, c ∷ cs)) in Power_sign (c ∷ cs) sign.0 sign.1
    by_sign true b p q = ap (λ x. x ∷ cs) (eqb-true c 45 p)
    by_sign false true p q = inl (ap (λ x. x ∷ cs) (eqb-true c 43 q))
    by_sign false false p q = inr refl

-- the first of the digits
pub digits_first : (cs ds rest : List ℕ) → Digits cs ds rest → (c : ℕ) × (more : List ℕ) × (cs ≡ c ∷ more) × (is_digit c ≡ true)
digits_first [] ds rest h = absurd (h.0 h.1)
digits_first (c ∷ cs) ds rest h = (c, cs, refl, by_test (is_digit c) refl)
  where
    by_test : (b : Bool) → is_digit c ≡ b → is_digit c ≡ true
    by_test true e = e
    by_test false e = absurd (h.0 (h.1 ∙ rw e refl))

power_sign_whole : (cs : List ℕ) (down : Bool) (b power rest : List ℕ) → Power_sign cs down b → Digits b power rest → power_sign cs ≡ (down, b)
unfolding power_sign
power_sign_whole cs true b power rest h d = rw h refl
power_sign_whole cs false b power rest (inl h) d = rw h refl
power_sign_whole cs false b power rest (inr h) d =
    let f = digits_first b power rest d in
    let r = digit_range f.0 f.3 in
    ap power_sign (h ∙ f.2) ∙ rw (not_same f.0 45 (omega (arith, r.0)), not_same f.0 43 (omega (arith, r.0))) (ap (λ x. (false, x)) (sym f.2))

abbrev Exponent_part : List ℕ → Bool × List ℕ → List ℕ → Type 0
Exponent_part cs e rest = Exponent cs e.0 e.1 rest

exponent_told : (cs : List ℕ) (e : Bool × List ℕ) (rest : List ℕ) → exponent cs ≡ Some (e, rest) → Exponent cs e.0 e.1 rest
unfolding exponent
exponent_told [] e rest h = moved Exponent_part (false, []) e [] [] rest h (inl (refl, refl, refl, refl))
exponent_told (c ∷ cs) e rest h =
    elim (chosen (is_exponent_mark c) _ _ _ h) [
      | inl x ↦
          let d = bind_some (digits (power_sign cs).1) _ _ x.1 in
          moved Exponent_part ((power_sign cs).0, d.0.0) e (c ∷ cs) d.0.1 rest d.2
          (inr (c, cs, (power_sign cs).1, refl, x.0, power_sign_told cs, digits_told (power_sign cs).1 d.0.0 d.0.1 d.1))
      | inr x ↦ moved Exponent_part (false, []) e (c ∷ cs) (c ∷ cs) rest x.1 (inl (refl, refl, refl, x.0))
    ]

exponent_none : (cs : List ℕ) → stands is_exponent_mark cs ≡ false → exponent cs ≡ Some ((false, []), cs)
unfolding exponent
exponent_none [] h = refl
exponent_none (c ∷ cs) h = rw h refl

exponent_whole : (cs : List ℕ) (down : Bool) (power rest : List ℕ) → Exponent cs down power rest → exponent cs ≡ Some ((down, power), rest)
unfolding exponent
exponent_whole cs down power rest (inl h) = exponent_none cs h.3 ∙ rw (h.0, h.1, h.2) refl
exponent_whole cs down power rest (inr h) = rw (h.3, h.4, power_sign_whole h.1 down h.2 power rest h.5 h.6, digits_whole h.2 power rest h.6) refl

literal_told : (cs : List ℕ) (p : Parts) (rest : List ℕ) → literal cs ≡ Some (p, rest) → Literal cs p rest
unfolding literal
literal_told cs p rest h =
    let w = bind_some (whole (minus cs).1) _ _ h in
    let f = bind_some (fraction w.0.1) _ _ w.2 in
    let e = bind_some (exponent f.0.1) _ _ f.2 in
    moved Literal (record { minus = (minus cs).0; whole = w.0.0; fraction = f.0.0; down = e.0.0.0; power = e.0.0.1 }) p cs e.0.1 rest e.2
    ((minus cs).1, w.0.1, f.0.1, minus_told cs, whole_told (minus cs).1 w.0.0 w.0.1 w.1, fraction_told w.0.1 f.0.0 f.0.1 f.1, exponent_told f.0.1 e.0.0 e.0.1 e.1)

literal_whole : (cs : List ℕ) (p : Parts) (rest : List ℕ) → Literal cs p rest → literal cs ≡ Some (p, rest)
unfolding literal
literal_whole cs p rest h =
    rw (minus_whole cs p.minus h.0 h.3, whole_whole h.0 p.whole h.1 h.4, fraction_whole h.1 p.fraction h.2 h.5, exponent_whole h.2 p.down p.power rest h.6) refl

-- ---- the value

size_found : (m k up down n : ℕ) → IsExactly m k up down n → exactly m k up down ≡ Some n
size_found m k up down n h = exactly_some m k up down n (record { same = h.same; small = h.small })

pub amount_is : (p : Parts) → IsAmount p (amount p)
unfolding amount
amount_is p = by_size (exactly (of_digits (p.whole ++ p.fraction)) (length p.fraction) (up_of p) (down_of p)) refl
  where
    by_size : (o : Option ℕ) → exactly (of_digits (p.whole ++ p.fraction)) (length p.fraction) (up_of p) (down_of p) ≡ o → IsAmount p (num_of p.minus o)
    by_size None e = λ n h. let s = size_found _ _ _ _ n h in absurd (cc)
    by_size (Some n) e = let s = exactly_is _ _ _ _ n e in (n, record { same = s.same; small = s.small }, refl)

pub amount_one : (p : Parts) (v : Num) → IsAmount p v → v ≡ amount p
unfolding amount
amount_one p (Exact z) h = rw (size_found _ _ _ _ h.0 h.1, h.2) refl
amount_one p Beyond h = rw (exactly_none _ _ _ _ (λ n s. h n (record { same = s.same; small = s.small }))) refl

numeral_told : (cs : List ℕ) (v : Num) (rest : List ℕ) → numeral cs ≡ Some (v, rest) → Numeral cs v rest
unfolding numeral
numeral_told cs v rest h =
    let l = bind_some (literal cs) _ _ h in
    moved Numeral (amount l.0.0) v cs l.0.1 rest l.2 (l.0.0, literal_told cs l.0.0 l.0.1 l.1, amount_is l.0.0)

numeral_whole : (cs : List ℕ) (v : Num) (rest : List ℕ) → Numeral cs v rest → numeral cs ≡ Some (v, rest)
unfolding numeral
numeral_whole cs v rest h = rw (literal_whole cs h.0 rest h.1, amount_one h.0 v h.2) refl

pub numeral_exact : e.Exact Numeral numeral
numeral_exact = record { told = numeral_told; whole = numeral_whole }
