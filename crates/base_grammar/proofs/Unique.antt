-- A text has one list of tokens.
use Rattle.std.proofs.Common.{◌≡◌, ℕ, ◌+◌, true, ◌⊎◌, inl, inr, List, [], ◌∷◌, ◌++◌, refl, sym, ◌∙◌, ap, ap₂, subst, append-nil}
use Rattle.base_grammar.specs.declared.classes.Class.{Class}
use Rattle.base_grammar.specs.declared.classes.Class.TheVariants.{Blank, Letters, Digits, Quote, Other}
use Rattle.base_grammar.specs.declared.token.Token.{Token}
use Rattle.base_grammar.specs.declared.token.Placed.{Placed}
use Rattle.base_grammar.specs.Tokens.{Lexis, Passes, is_blank, class_of, IsOfClass, IsToken, IsLongest, AreTokens, byte_len}
use Rattle.base_grammar.proofs.Fronts.{levi}
use Rattle.base_grammar.proofs.Longest.{class_of-blank}

module _ (lexis : Lexis) where
  one_of_class : (k : Class) (c : ℕ) (cs : List ℕ) (t u : Token) → IsOfClass lexis k c cs t → IsOfClass lexis k c cs u → t ≡ u
  one_of_class Blank c cs t u h g = absurd h
  one_of_class Letters c cs t u h g = h.1 ∙ sym g.1
  one_of_class Digits c cs t u h g = h.1 ∙ sym g.1
  one_of_class Quote c cs t u h g = h.1 ∙ sym g.1
  one_of_class Other c [] t u h g = h ∙ sym g
  one_of_class Other c (d ∷ []) t u h g = h.1 ∙ sym g.1
  one_of_class Other c (d ∷ e ∷ cs) t u h g = absurd h

  one_token : (x : List ℕ) (t u : Token) → IsToken lexis x t → IsToken lexis x u → t ≡ u
  one_token [] t u h g = absurd h
  one_token (c ∷ cs) t u h g = one_of_class (class_of lexis c) c cs t u h g

  -- the longest token at a place is one
  one_longest : (x r y s : List ℕ) (t u : Token) → x ++ r ≡ y ++ s → IsLongest lexis x r t → IsLongest lexis y s u → (x ≡ y) × (r ≡ s) × (t ≡ u)
  one_longest x r y s t u e h g = go (levi x r y s e)
    where
      same : (z w : List ℕ) → z ≡ w → IsToken lexis z u → IsToken lexis w u
      same z w q k = let P : List ℕ → Type 0 = λ v. IsToken lexis v u in subst P q k

      same_t : (z w : List ℕ) → z ≡ w → IsToken lexis z t → IsToken lexis w t
      same_t z w q k = let P : List ℕ → Type 0 = λ v. IsToken lexis v t in subst P q k

      go : ((m : List ℕ) × (y ≡ x ++ m) × (r ≡ m ++ s)) ⊎ ((m : List ℕ) × (x ≡ y ++ m) × (s ≡ m ++ r)) → (x ≡ y) × (r ≡ s) × (t ≡ u)
      go (inl k) =
          let none = h.longest k.0 s u k.2 (same y (x ++ k.0) k.1 g.is) in
          let xy : y ≡ x = k.1 ∙ ap (λ m. x ++ m) none ∙ append-nil x in
          (sym xy, k.2 ∙ ap (λ m. m ++ s) none, one_token x t u h.is (same y x xy g.is))
      go (inr k) =
          let none = g.longest k.0 r t k.2 (same_t x (y ++ k.0) k.1 h.is) in
          let xy : x ≡ y = k.1 ∙ ap (λ m. y ++ m) none ∙ append-nil y in
          (xy, sym (k.2 ∙ ap (λ m. m ++ r) none), one_token y t u (same_t x y xy h.is) g.is)

  -- a token begins with no blank
  begins_dark : (c : ℕ) (cs : List ℕ) (t : Token) → is_blank c ≡ true → IsToken lexis (c ∷ cs) t → ⊥
  begins_dark c cs t h g = rw (class_of-blank lexis c h) at g

  -- blanks before a token are all that there are
  one_blanks : (a b x r y s : List ℕ) (t u : Token) → a ++ (x ++ r) ≡ b ++ (y ++ s) → Passes is_blank a → Passes is_blank b → IsToken lexis x t → IsToken lexis y u → (a ≡ b) × (x ++ r ≡ y ++ s)
  one_blanks [] [] x r y s t u e p q h g = (refl, e)
  one_blanks [] (c ∷ b) [] r y s t u e p q h g = absurd h
  one_blanks [] (c ∷ b) (d ∷ x) r y s t u e p q h g =
      let same : d ≡ c = cc in let P : ℕ → Type 0 = λ z. IsToken lexis (z ∷ x) t in absurd (begins_dark c x t q.0 (subst P same h))
  one_blanks (c ∷ a) [] x r [] s t u e p q h g = absurd g
  one_blanks (c ∷ a) [] x r (d ∷ y) s t u e p q h g =
      let same : d ≡ c = cc in let P : ℕ → Type 0 = λ z. IsToken lexis (z ∷ y) u in absurd (begins_dark c y u p.0 (subst P same g))
  one_blanks (c ∷ a) (d ∷ b) x r y s t u e p q h g =
      let more : a ++ (x ++ r) ≡ b ++ (y ++ s) = cc in
      let rest = one_blanks a b x r y s t u more p.1 q.1 h g in
      let same : c ≡ d = cc in (ap₂ (λ z zs. z ∷ zs) same rest.0, rest.1)

  -- only blanks hold no token
  no_token : (cs a x r : List ℕ) (t : Token) → Passes is_blank cs → cs ≡ a ++ (x ++ r) → IsToken lexis x t → ⊥
  no_token cs [] [] r t p e h = h
  no_token cs [] (c ∷ x) r t p e h =
      let P : List ℕ → Type 0 = λ z. Passes is_blank z in begins_dark c x t (subst P e p).0 h
  no_token [] (c ∷ a) x r t p e h = absurd (cc)
  no_token (d ∷ cs) (c ∷ a) x r t p e h = let more : cs ≡ a ++ (x ++ r) = cc in no_token cs a x r t p.1 more h

  pub one_list : (at : ℕ) (cs : List ℕ) (ts us : List Placed) → AreTokens lexis at cs ts → AreTokens lexis at cs us → ts ≡ us
  one_list at cs [] [] h g = refl
  one_list at cs [] (u ∷ us) h g = absurd (no_token cs g.0 g.1 g.2 u.token h g.3 g.5.is)
  one_list at cs (t ∷ ts) [] h g = absurd (no_token cs h.0 h.1 h.2 t.token g h.3 h.5.is)
  one_list at cs (t ∷ ts) (u ∷ us) h g =
      let dark = one_blanks h.0 g.0 h.1 h.2 g.1 g.2 t.token u.token (sym h.3 ∙ g.3) h.4 g.4 h.5.is g.5.is in
      let long = one_longest h.1 h.2 g.1 g.2 t.token u.token dark.1 h.5 g.5 in
      let start : t.start ≡ u.start = h.6 ∙ ap (λ b. at + byte_len b) dark.0 ∙ sym g.6 in
      let P : List ℕ → List ℕ → List ℕ → Type 0 = λ b x r. AreTokens lexis (at + byte_len b + byte_len x) r us in
      let rest = one_list (at + byte_len h.0 + byte_len h.1) h.2 ts us h.7 (rw (dark.0, long.0, long.1) g.7) in
      ap₂ (λ z zs. z ∷ zs) (λ i. record { start = start i; token = long.2 i }) rest
