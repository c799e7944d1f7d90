-- The tokens that are computed are tokens of the text.
use Rattle.std.proofs.Common.{◌≡◌, ℕ, zero, suc, ◌+◌, ◌≤◌, Bool, true, false, List, [], ◌∷◌, ◌++◌, length, take, drop, refl, sym, ◌∙◌, ap, subst, take-append-drop, arith}
use Rattle.base_grammar.specs.declared.token.Placed.{Placed}
use Rattle.base_grammar.specs.Tokens.{Lexis, is_blank, class_of, AreTokens, byte_len}
use Rattle.base_grammar.specs.Lexing.{token_len, token_of, front_len, token_at, tokens_within, tokens_of}
use Rattle.base_grammar.proofs.Longest.{longest_of, class_of-blank, not_blank}
use Rattle.base_grammar.proofs.Tokenizing.{byte_len-cons, shorter}

module _ (lexis : Lexis) where
  front_len-suc : (c : ℕ) (cs : List ℕ) → front_len lexis (c ∷ cs) ≡ suc (token_len lexis (class_of lexis c) c cs)
  unfolding front_len
  front_len-suc c cs = omega arith

  front_len-blank : (c : ℕ) (cs : List ℕ) → is_blank c ≡ true → front_len lexis (c ∷ cs) ≡ 1
  unfolding front_len token_len
  front_len-blank c cs h = rw (class_of-blank lexis c h) refl

  token_at-blank : (at c : ℕ) (cs : List ℕ) → is_blank c ≡ true → token_at lexis at (c ∷ cs) ≡ []
  unfolding token_at
  token_at-blank at c cs h = rw h refl

  token_at-token : (at c : ℕ) (cs : List ℕ) → is_blank c ≡ false → token_at lexis at (c ∷ cs) ≡ (record { start = at; token = token_of lexis (class_of lexis c) c cs } ∷ [])
  unfolding token_at
  token_at-token at c cs h = rw h refl

  -- a blank before a text
  more_blanks : (at c : ℕ) (cs : List ℕ) (ts : List Placed) → is_blank c ≡ true → AreTokens lexis (at + byte_len (c ∷ [])) cs ts → AreTokens lexis at (c ∷ cs) ts
  more_blanks at c cs [] h are = (h, are)
  more_blanks at c cs (t ∷ ts) h are =
      let size : at + byte_len (c ∷ []) + byte_len are.0 ≡ at + byte_len (c ∷ are.0) = omega (arith, byte_len-cons c [], byte_len-cons c are.0) in
      let P : ℕ → Type 0 = λ n. AreTokens lexis (n + byte_len are.1) are.2 ts in
      (c ∷ are.0, are.1, are.2, ap (λ z. c ∷ z) are.3, (h, are.4), are.5, are.6 ∙ size, subst P size are.7)

  -- a token before a text
  more_tokens : (at c n : ℕ) (cs : List ℕ) (ts : List Placed) → is_blank c ≡ false → n ≡ token_len lexis (class_of lexis c) c cs
      → AreTokens lexis (at + byte_len (c ∷ take n cs)) (drop n cs) ts
      → AreTokens lexis at (c ∷ cs) (record { start = at; token = token_of lexis (class_of lexis c) c (take n cs) } ∷ ts)
  more_tokens at c n cs ts h e are =
      let none : at + byte_len [] ≡ at = omega arith in
      let P : ℕ → Type 0 = λ z. AreTokens lexis (z + byte_len (c ∷ take n cs)) (drop n cs) ts in
      ([], c ∷ take n cs, drop n cs, ap (λ z. c ∷ z) (sym (take-append-drop n cs)), tt, rw e (longest_of lexis (class_of lexis c) c cs refl (not_blank lexis c h)), sym none, subst P (sym none) are)

  go_on : (b : Bool) (at c n : ℕ) (cs : List ℕ) → is_blank c ≡ b
      → AreTokens lexis (at + byte_len (take (front_len lexis (c ∷ cs)) (c ∷ cs))) (drop (front_len lexis (c ∷ cs)) (c ∷ cs))
      (tokens_within lexis n (at + byte_len (take (front_len lexis (c ∷ cs)) (c ∷ cs))) (drop (front_len lexis (c ∷ cs)) (c ∷ cs)))
      → AreTokens lexis at (c ∷ cs) (token_at lexis at (take (front_len lexis (c ∷ cs)) (c ∷ cs))
      ++ tokens_within lexis n (at + byte_len (take (front_len lexis (c ∷ cs)) (c ∷ cs))) (drop (front_len lexis (c ∷ cs)) (c ∷ cs)))
  go_on true at c n cs h are =
      let are = rw (front_len-blank c cs h) at are in
      rw (front_len-blank c cs h, token_at-blank at c [] h) (more_blanks at c cs (tokens_within lexis n (at + byte_len (c ∷ [])) cs) h are)
  go_on false at c n cs h are =
      let k = token_len lexis (class_of lexis c) c cs in
      let are = rw (front_len-suc c cs) at are in
      rw (front_len-suc c cs, token_at-token at c (take k cs) h) (more_tokens at c k cs (tokens_within lexis n (at + byte_len (c ∷ take k cs)) (drop k cs)) h refl are)

  meets_within : (n at : ℕ) (cs : List ℕ) → length cs ≤ n → AreTokens lexis at cs (tokens_within lexis n at cs)
  meets_within zero at [] h = tt
  meets_within zero at (c ∷ cs) h = absurd (omega arith)
  meets_within (suc n) at [] h = tt
  meets_within (suc n) at (c ∷ cs) h =
      go_on (is_blank c) at c n cs refl
      (meets_within n (at + byte_len (take (front_len lexis (c ∷ cs)) (c ∷ cs))) (drop (front_len lexis (c ∷ cs)) (c ∷ cs)) (shorter lexis c n cs (omega arith)))

  pub meets : (at : ℕ) (cs : List ℕ) → AreTokens lexis at cs (tokens_of lexis at cs)
  unfolding tokens_of
  meets at cs = meets_within (length cs) at cs (omega arith)

  pub meets_same : (cs : List ℕ) (ts : List Placed) → ts ≡ tokens_of lexis 0 cs → AreTokens lexis 0 cs ts
  meets_same cs ts e = rw e (meets 0 cs)
