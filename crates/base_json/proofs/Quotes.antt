-- Reading of strings is exact.
use Rattle.std.proofs.Common.{◌≡◌, ◌≢◌, ℕ, zero, suc, ◌≤◌, ◌⊎◌, Bool, true, false, ◌==◌, nat_lt, List, [], ◌∷◌, ◌++◌, length, Option, Some, None, refl, sym, ◌∙◌, ap, subst, inl, inr, eqb-true, arith, ne_eqb as not_same}
use Rattle.std.proofs.lemmas.Bool.Decides.{nat_tests}
use Rattle.std.proofs.lemmas.Option.{cond_some as given}
use Rattle.base_json.specs.Characters.{Part, short_escape, code_unit, is_high, is_low, paired}
use Rattle.base_json.specs.Grammar.{Unit_escape, Escape, unescaped, short, unit, pair, CharacterAs, Character, Content, Quoted}
use Rattle.base_json.specs.Reading.{Turn, go_on, behind, unit_of, second_unit, low_unit, surrogate, escape, character_turn, collect, repeated, content, quoted}
use Rattle.base_json.proofs.Shrinks.{bind_some, chosen, behind_is, character_takes}
use Rattle.base_json.proofs.Repeats.{repeated-ends, repeated-goes}
use Rattle.base_json.proofs.Exact as e
use Rattle.base_json.proofs.Exact.{found_is, moved, behind_at, behind_whole}

-- four digits
abbrev Units : Part ℕ
Units cs u rest = (a : ℕ) × (b : ℕ) × (c : ℕ) × (d : ℕ) × (cs ≡ a ∷ b ∷ c ∷ d ∷ rest) × (code_unit a b c d ≡ Some u)

units_told : (cs : List ℕ) (u : ℕ) (rest : List ℕ) → unit_of cs ≡ Some (u, rest) → Units cs u rest
unfolding unit_of
units_told [] u rest h = absurd (cc)
units_told (p ∷ []) u rest h = absurd (cc)
units_told (p ∷ q ∷ []) u rest h = absurd (cc)
units_told (p ∷ q ∷ r ∷ []) u rest h = absurd (cc)
units_told (p ∷ q ∷ r ∷ s ∷ more) u rest h =
    let b = bind_some (code_unit p q r s) _ _ h in
    moved Units b.0 u (p ∷ q ∷ r ∷ s ∷ more) more rest b.2 (p, q, r, s, refl, b.1)

units_whole : (cs : List ℕ) (u : ℕ) (rest : List ℕ) → Units cs u rest → unit_of cs ≡ Some (u, rest)
unfolding unit_of
units_whole cs u rest h = rw (h.4, h.5) refl

-- behind a backslash and `u`
unit_escape : (cs : List ℕ) (u : ℕ) (rest : List ℕ) → Units cs u rest → Unit_escape (92 ∷ 117 ∷ cs) u rest
unit_escape cs u rest h = (h.0, h.1, h.2, h.3, ap (λ xs. 92 ∷ 117 ∷ xs) h.4, h.5)

second_told : (cs : List ℕ) (u : ℕ) (rest : List ℕ) → second_unit cs ≡ Some (u, rest) → Unit_escape cs u rest
unfolding second_unit
second_told cs u rest h =
    let b = bind_some (behind 92 cs) _ _ h in
    let d = bind_some (behind 117 b.0) _ _ b.2 in
    let is : cs ≡ 92 ∷ 117 ∷ d.0 = behind_is 92 cs b.0 b.1 ∙ ap (λ xs. 92 ∷ xs) (behind_is 117 b.0 d.0 d.1) in
    subst (λ (xs : List ℕ). Unit_escape xs u rest) (sym is) (unit_escape d.0 u rest (units_told d.0 u rest d.2))

second_whole : (cs : List ℕ) (u : ℕ) (rest : List ℕ) → Unit_escape cs u rest → second_unit cs ≡ Some (u, rest)
unfolding second_unit
second_whole cs u rest h =
    rw h.4 (units_whole (h.0 ∷ h.1 ∷ h.2 ∷ h.3 ∷ rest) u rest (h.0, h.1, h.2, h.3, refl, h.5))

-- what stands behind a backslash
abbrev Escaped : Part ℕ
Escaped cs u rest = Character (92 ∷ cs) u rest

unit_told : (cs : List ℕ) (unit_read : ℕ) (after : List ℕ) (u : ℕ) (rest : List ℕ) → unit_of cs ≡ Some (unit_read, after)
    → surrogate (unit_read, after) ≡ Some (u, rest) → Character (92 ∷ 117 ∷ cs) u rest
unfolding low_unit
unit_told cs v after u rest h s =
    let first = unit_escape cs v after (units_told cs v after h) in
    elim (chosen (is_high v) _ _ _ s) [
      | inl x ↦
          let l = bind_some (second_unit after) _ _ x.1 in
          let g = given (is_low l.0.0) _ _ l.2 in
          moved Character (paired v l.0.0) u (92 ∷ 117 ∷ cs) l.0.1 rest (ap Some g.1)
          (pair, (v, l.0.0, after, first, x.0, second_told after l.0.0 l.0.1 l.1, g.0, refl))
      | inr x ↦ elim (chosen (is_low v) _ _ _ x.1) [
        | inl y ↦ absurd (cc)
        | inr y ↦ moved Character v u (92 ∷ 117 ∷ cs) after rest y.1 (unit, (first, x.0, y.0))
      ]
    ]

escape_told : (cs : List ℕ) (u : ℕ) (rest : List ℕ) → escape cs ≡ Some (u, rest) → Escaped cs u rest
unfolding escape
escape_told [] u rest h = absurd (cc)
escape_told (c ∷ cs) u rest h =
    elim (chosen (c == 117) _ _ _ h) [
      | inl x ↦
          let b = bind_some (unit_of cs) surrogate _ x.1 in
          subst (λ (d : ℕ). Character (92 ∷ d ∷ cs) u rest) (sym (eqb-true c 117 x.0)) (unit_told cs b.0.0 b.0.1 u rest b.1 b.2)
      | inr x ↦
          let b = bind_some (short_escape c) _ _ x.1 in
          moved Escaped b.0 u (c ∷ cs) cs rest b.2 (short, (c, refl, b.1))
    ]

-- the two ways in which a turn goes
abbrev IsTurn : List ℕ → Turn ℕ → Type 0
IsTurn cs t = ((t.0 ≡ []) × (t.1 ≡ false) × (cs ≡ 34 ∷ t.2)) ⊎ ((u : ℕ) × (t.0 ≡ u ∷ []) × (t.1 ≡ true) × Character cs u t.2)

turn_is : (cs : List ℕ) (s t : Turn ℕ) → Some s ≡ Some t → IsTurn cs s → IsTurn cs t
turn_is cs s t h p = subst (IsTurn cs) (ap (turn_of s) h) p
  where
    turn_of : Turn ℕ → Option (Turn ℕ) → Turn ℕ
    turn_of d None = d
    turn_of d (Some x) = x

turn_told : (cs : List ℕ) (t : Turn ℕ) → character_turn cs ≡ Some t → IsTurn cs t
unfolding character_turn
turn_told [] t h = absurd (cc)
turn_told (c ∷ cs) t h =
    elim (chosen (c == 34) _ _ _ h) [
      | inl x ↦ turn_is (c ∷ cs) ([], false, cs) t x.1 (inl (refl, refl, ap (λ d. d ∷ cs) (eqb-true c 34 x.0)))
      | inr x ↦ elim (chosen (c == 92) _ _ _ x.1) [
        | inl y ↦
            let b = bind_some (escape cs) _ _ y.1 in
            let is = subst (λ (d : ℕ). Character (d ∷ cs) b.0.0 b.0.1) (sym (eqb-true c 92 y.0)) (escape_told cs b.0.0 b.0.1 b.1) in
            turn_is (c ∷ cs) (b.0.0 ∷ [], true, b.0.1) t b.2 (inr (b.0.0, refl, refl, is))
        | inr y ↦ elim (chosen (nat_lt c 32) _ _ _ y.1) [
          | inl z ↦ absurd (cc)
          | inr z ↦
              let low : 32 ≤ c = grind (arith, nat_tests, z.0) in
              let quote : c ≢ 34 = grind (arith, nat_tests, x.0) in
              let slash : c ≢ 92 = grind (arith, nat_tests, y.0) in
              turn_is (c ∷ cs) (c ∷ [], true, cs) t z.1 (inr (c, refl, refl, (unescaped, (refl, low, quote, slash))))
        ]
      ]
    ]

no_letter_u : (e u : ℕ) → short_escape e ≡ Some u → (e == 117) ≡ false
no_letter_u e u h = by_test (e == 117) refl
  where
    by_test : (b : Bool) → (e == 117) ≡ b → (e == 117) ≡ false
    by_test true q = let none : short_escape 117 ≡ Some u = ap short_escape (sym (eqb-true e 117 q)) ∙ h in absurd (cc)
    by_test false q = q

escape_whole : (kind : Escape) (cs : List ℕ) (u : ℕ) (rest : List ℕ) → CharacterAs kind cs u rest → character_turn cs ≡ Some (u ∷ [], true, rest)
unfolding character_turn escape low_unit
escape_whole unescaped cs u rest h =
    let low : nat_lt u 32 ≡ false = grind (arith, nat_tests, h.1) in
    rw (h.0, not_same u 34 h.2, not_same u 92 h.3, low) refl
escape_whole short cs u rest h = rw (h.1, no_letter_u h.0 u h.2, h.2) refl
escape_whole unit cs u rest h =
    rw (h.0.4, units_whole (h.0.0 ∷ h.0.1 ∷ h.0.2 ∷ h.0.3 ∷ rest) u rest (h.0.0, h.0.1, h.0.2, h.0.3, refl, h.0.5), h.1, h.2) refl
escape_whole pair cs u rest h =
    let f = h.3 in
    rw (f.4, units_whole (f.0 ∷ f.1 ∷ f.2 ∷ f.3 ∷ h.2) h.0 h.2 (f.0, f.1, f.2, f.3, refl, f.5), h.4, second_whole h.2 h.1 rest h.5, h.6, h.7) refl

turn_end : (rest : List ℕ) → character_turn (34 ∷ rest) ≡ Some ([], false, rest)
unfolding character_turn
turn_end rest = refl

told_by : (n : ℕ) → ((cs us rest : List ℕ) → collect character_turn n cs ≡ Some (us, rest) → Content cs us rest)
    → (cs us rest : List ℕ) (t : Turn ℕ) → IsTurn cs t → go_on (collect character_turn n) t ≡ Some (us, rest) → Content cs us rest
told_by n told cs us rest (xs, more, after) (inl is) g =
    moved Content xs us cs after rest (rw is.1 at g) (subst (λ (ys : List ℕ). Content cs ys after) (sym is.0) is.2)
told_by n told cs us rest (xs, more, after) (inr is) g =
    let b = bind_some (collect character_turn n after) _ _ (rw is.2 at g) in
    moved Content (xs ++ b.0.0) us cs b.0.1 rest b.2
    (subst (λ (ys : List ℕ). Content cs (ys ++ b.0.0) b.0.1) (sym is.1) (after, is.3, told after b.0.0 b.0.1 b.1))

collected_told : (n : ℕ) (cs us rest : List ℕ) → collect character_turn n cs ≡ Some (us, rest) → Content cs us rest
unfolding collect
collected_told zero cs us rest h = absurd (cc)
collected_told (suc n) cs us rest h =
    let t = bind_some (character_turn cs) _ _ h in
    told_by n (collected_told n) cs us rest t.0 (turn_told cs t.0 t.1) t.2

content_told : (cs us rest : List ℕ) → content cs ≡ Some (us, rest) → Content cs us rest
unfolding content repeated
content_told cs us rest h = collected_told (suc (length cs)) cs us rest h

content_whole : (cs us rest : List ℕ) → Content cs us rest → content cs ≡ Some (us, rest)
unfolding content
content_whole cs [] rest h = repeated-ends character_turn character_takes cs rest [] (ap character_turn h ∙ turn_end rest)
content_whole cs (u ∷ us) rest h =
    repeated-goes character_turn character_takes cs h.0 (u ∷ []) (escape_whole h.1.0 cs u h.0 h.1.1) ∙ rw (content_whole h.0 us rest h.2) refl

quoted_told : (cs us rest : List ℕ) → quoted cs ≡ Some (us, rest) → Quoted cs us rest
unfolding quoted
quoted_told cs us rest h =
    let b = bind_some (behind 34 cs) content _ h in
    (b.0, behind_is 34 cs b.0 b.1, content_told b.0 us rest b.2)

quoted_whole : (cs us rest : List ℕ) → Quoted cs us rest → quoted cs ≡ Some (us, rest)
unfolding quoted
quoted_whole cs us rest h = rw (behind_whole 34 cs h.0 h.1) (content_whole h.0 us rest h.2)

pub content_exact : e.Exact Content content
content_exact = record { told = content_told; whole = content_whole }

pub quoted_exact : e.Exact Quoted quoted
quoted_exact = record { told = quoted_told; whole = quoted_whole }
