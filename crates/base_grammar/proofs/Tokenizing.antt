-- The tokens of a text, one after the other.
use Rattle.std.proofs.Common.{◌≡◌, ℕ, zero, suc, ◌+◌, ◌≤◌, ◌<◌, Bool, true, false, ◌==◌, eqb-true, List, [], ◌∷◌, ◌++◌, length, take, drop, refl, sym, ◌∙◌, ap, append_assoc, append-nil, length-append, length-drop, take-append-drop, arith}
use lib.Utf8.{encodes, encode}
use Rattle.base_grammar.specs.declared.token.Placed.{Placed}
use Rattle.base_grammar.specs.Lexing.{front_len, token_at, tokens_within, tokens_of}
use Rattle.base_grammar.specs.Tokens.{Lexis, byte_len}

pub byte_len-cons : (c : ℕ) (cs : List ℕ) → byte_len (c ∷ cs) ≡ length (encode c) + byte_len cs
byte_len-cons c cs = length-append (encode c) (encodes cs)

pub byte_len-append : (xs ys : List ℕ) → byte_len (xs ++ ys) ≡ byte_len xs + byte_len ys
byte_len-append [] ys = omega arith
byte_len-append (x ∷ xs) ys = omega (arith, byte_len-cons x (xs ++ ys), byte_len-cons x xs, byte_len-append xs ys)

pub byte_len-parted : (cs front tail : List ℕ) (n : ℕ) → front ≡ take n cs → tail ≡ drop n cs → byte_len cs ≡ byte_len front + byte_len tail
byte_len-parted cs front tail n f t =
    rw (f, t) (ap byte_len (sym (take-append-drop n cs)) ∙ byte_len-append (take n cs) (drop n cs))

pub some_left : (cs : List ℕ) (empty : Bool) → empty ≡ (length cs == 0) → empty ≡ false → 0 < length cs
some_left [] empty e h = absurd (cc)
some_left (c ∷ cs) empty e h = omega arith

module _ (lexis : Lexis) where
  front_len-cons : (c : ℕ) (cs : List ℕ) → 1 ≤ front_len lexis (c ∷ cs)
  unfolding front_len
  front_len-cons c cs = omega arith

  pub shorter : (c n : ℕ) (cs : List ℕ) → length cs ≤ n → length (drop (front_len lexis (c ∷ cs)) (c ∷ cs)) ≤ n
  shorter c n cs h = omega (arith, length-drop (front_len lexis (c ∷ cs)) (c ∷ cs), front_len-cons c cs)

  -- more than enough makes no difference
  pub tokens_within-enough : (n m at : ℕ) (cs : List ℕ) → length cs ≤ n → length cs ≤ m → tokens_within lexis n at cs ≡ tokens_within lexis m at cs
  tokens_within-enough zero zero at cs h g = refl
  tokens_within-enough zero (suc m) at [] h g = refl
  tokens_within-enough zero (suc m) at (c ∷ cs) h g = absurd (omega arith)
  tokens_within-enough (suc n) zero at [] h g = refl
  tokens_within-enough (suc n) zero at (c ∷ cs) h g = absurd (omega arith)
  tokens_within-enough (suc n) (suc m) at [] h g = refl
  tokens_within-enough (suc n) (suc m) at (c ∷ cs) h g =
      let front = take (front_len lexis (c ∷ cs)) (c ∷ cs) in
      ap (λ z. token_at lexis at front ++ z)
      (tokens_within-enough n m (at + byte_len front) (drop (front_len lexis (c ∷ cs)) (c ∷ cs)) (shorter c n cs (omega arith)) (shorter c m cs (omega arith)))

  pub tokens_of-nil : (at : ℕ) → tokens_of lexis at [] ≡ []
  unfolding tokens_of
  tokens_of-nil at = refl

  pub tokens_of-cons : (at c : ℕ) (cs : List ℕ) → tokens_of lexis at (c ∷ cs)
      ≡ token_at lexis at (take (front_len lexis (c ∷ cs)) (c ∷ cs))
      ++ tokens_of lexis (at + byte_len (take (front_len lexis (c ∷ cs)) (c ∷ cs))) (drop (front_len lexis (c ∷ cs)) (c ∷ cs))
  unfolding tokens_of
  tokens_of-cons at c cs =
      let front = take (front_len lexis (c ∷ cs)) (c ∷ cs) in
      let tail = drop (front_len lexis (c ∷ cs)) (c ∷ cs) in
      ap (λ z. token_at lexis at front ++ z)
      (tokens_within-enough (length cs) (length tail) (at + byte_len front) tail (shorter c (length cs) cs (omega arith)) (omega arith))

  step : (at : ℕ) (cs : List ℕ) → 0 < length cs → tokens_of lexis at cs
      ≡ token_at lexis at (take (front_len lexis cs) cs) ++ tokens_of lexis (at + byte_len (take (front_len lexis cs) cs)) (drop (front_len lexis cs) cs)
  step at [] h = absurd (omega arith)
  step at (c ∷ cs) h = tokens_of-cons at c cs

  pub turn : (all cs front tail : List ℕ) (found pushed : List Placed) (at next n : ℕ)
      → found ++ tokens_of lexis at cs ≡ tokens_of lexis 0 all → 0 < length cs → n ≡ front_len lexis cs → front ≡ take n cs → tail ≡ drop n cs
      → pushed ≡ found ++ token_at lexis at front → next ≡ at + byte_len front
      → pushed ++ tokens_of lexis next tail ≡ tokens_of lexis 0 all
  turn all cs front tail found pushed at next n same some k f t p e =
      rw (p, e, f, t, k)
      (append_assoc found (token_at lexis at (take (front_len lexis cs) cs)) (tokens_of lexis (at + byte_len (take (front_len lexis cs) cs)) (drop (front_len lexis cs) cs))
      ∙ ap (λ z. found ++ z) (sym (step at cs some)) ∙ same)

  pub end : (all cs : List ℕ) (found : List Placed) (at : ℕ) (empty : Bool) → found ++ tokens_of lexis at cs ≡ tokens_of lexis 0 all
      → empty ≡ (length cs == 0) → empty ≡ true → found ≡ tokens_of lexis 0 all
  end all [] found at empty same e h = sym (append-nil found) ∙ ap (λ z. found ++ z) (sym (tokens_of-nil at)) ∙ same
  end all (c ∷ cs) found at empty same e h = let none = eqb-true (length (c ∷ cs)) 0 (sym e ∙ h) in absurd (omega arith)
