-- The characters between quotes.
use Rattle.std.proofs.Common.{◌≡◌, ℕ, suc, ◌+◌, ◌≤◌, Bool, true, false, if◌then◌else◌, ◌==◌, List, [], ◌∷◌, ◌++◌, length, min, Option, Some, None, arith}
use Rattle.base_grammar.specs.Tokens.{Lexis, text_len}

-- items before those that follow, where these are good
abbrev pub joined : {A : Type 0} → List A → Option (List A) → Option (List A)
joined front None = None
joined front (Some more) = Some (front ++ more)

if_text : (b : Bool) (n m k : ℕ) → n ≡ min k m → (if b then 1 else 1 + n) ≡ min (suc k) (if b then 1 else 1 + m)
if_text true n m k h = omega arith
if_text false n m k h = omega arith

module _ (lexis : Lexis) where
  -- of more characters the text takes more, or those that it takes are all of these
  pub text_len-append : (xs ys : List ℕ) (escaped : Bool) → text_len lexis xs escaped ≡ min (length xs) (text_len lexis (xs ++ ys) escaped)
  text_len-append [] ys escaped = omega arith
  text_len-append (x ∷ xs) ys true = omega (arith, text_len-append xs ys false)
  text_len-append (x ∷ xs) ys false =
      if_text (lexis.is_quote x) (text_len lexis xs (x == 92)) (text_len lexis (xs ++ ys) (x == 92)) (length xs) (text_len-append xs ys (x == 92))

  pub text_len-le-length : (xs : List ℕ) (escaped : Bool) → text_len lexis xs escaped ≤ length xs
  text_len-le-length xs escaped = let e = text_len-append xs [] escaped in omega arith
