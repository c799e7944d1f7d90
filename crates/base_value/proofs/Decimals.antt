-- The decimal digits of any number: there are some, and each is ASCII.
use Rattle.std.proofs.Common.{◌≡◌, ℕ, zero, suc, ◌+◌, ◌/◌, ◌%◌, ◌<◌, ◌==◌, Bool, true, false, cond, List, [], ◌∷◌, refl, arith}
use Rattle.std.specs.Fmt.{decimal, digit_glyph, digits, digits_onto}
use Rattle.std.specs.Str.{IsAscii}
use Rattle.std.proofs.lemmas.Bool.Decides.{nat_tests}
use Rattle.std.proofs.lemmas.Str.Ascii.{IsAscii-cons, IsAscii-nil}

glyph_is : (d : ℕ) → d < 10 → digit_glyph false d ≡ 48 + d
glyph_is d h = grind (arith, nat_tests)

-- what one digit gives and each digit before others keeps, is so of all
module _ (Good : List ℕ → Type 0) (more : (d : ℕ) (cs : List ℕ) → d < 10 → Good cs → Good ((48 + d) ∷ cs)) where
  before : (d : ℕ) (cs : List ℕ) → d < 10 → Good cs → Good (digit_glyph false d ∷ cs)
  before d cs small h = rw (glyph_is d small) (more d cs small h)

  either : (b : Bool) (xs ys : List ℕ) → Good xs → Good ys → Good (cond b xs ys)
  either true xs ys p q = p
  either false xs ys p q = q

  onto : (k n : ℕ) (cs : List ℕ) → Good (digit_glyph false (n % 10) ∷ cs) → Good (digits_onto (suc k) 10 false n cs)
  onto zero n cs h = either (n / 10 == 0) _ _ h h
  onto (suc k) n cs h = either (n / 10 == 0) _ _ h (onto k (n / 10) (digit_glyph false (n % 10) ∷ cs) (before (n / 10 % 10) (digit_glyph false (n % 10) ∷ cs) (omega arith) h))

  decimal_good : (n : ℕ) → Good (digit_glyph false (n % 10) ∷ []) → Good (decimal n)
  unfolding digits
  decimal_good n h = onto 63 n [] h

abbrev pub Starts : List ℕ → Type 0
Starts cs = (c : ℕ) × (rest : List ℕ) × (cs ≡ c ∷ rest)

pub decimal_starts : (n : ℕ) → Starts (decimal n)
decimal_starts n = decimal_good Starts (λ d cs small h. (48 + d, cs, refl)) n (digit_glyph false (n % 10), [], refl)

pub decimal_ascii : (n : ℕ) → IsAscii (decimal n)
decimal_ascii n = decimal_good IsAscii (λ d cs small h. IsAscii-cons (48 + d) cs (omega arith) h) n (IsAscii-cons (digit_glyph false (n % 10)) [] (rw (glyph_is (n % 10) (omega arith)) (omega arith)) IsAscii-nil)
