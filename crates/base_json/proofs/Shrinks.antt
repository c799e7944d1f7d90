-- What is read takes characters.
use Rattle.std.proofs.Common.{◌≡◌, ℕ, ◌<◌, ◌≤◌, ◌⊎◌, Bool, true, false, cond, ◌==◌, nat_lt, List, [], ◌∷◌, length, Option, Some, None, refl, ap, inl, inr, eqb-true, arith}
use Rattle.std.proofs.lemmas.Option.{cond_some as given}
use Rattle.base_json.specs.Characters.{code_unit, is_high, is_low, paired, short_escape}
use Rattle.base_json.specs.Reading.{Found, Reader, Turn, ◌>>=◌, behind, unit_of, second_unit, low_unit, surrogate, escape, character_turn}
use Rattle.base_json.proofs.Repeats.{Takes}

pub bind_some : {X Y : Type 0} (o : Option X) (f : X → Option Y) (y : Y) → (o >>= f) ≡ Some y → (x : X) × (o ≡ Some x) × (f x ≡ Some y)
bind_some None f y h = absurd (cc)
bind_some (Some x) f y h = (x, refl, h)

pub chosen : {X : Type 0} (b : Bool) (x y z : X) → cond b x y ≡ z → ((b ≡ true) × (x ≡ z)) ⊎ ((b ≡ false) × (y ≡ z))
chosen true x y z h = inl (refl, h)
chosen false x y z h = inr (refl, h)

-- the rest of what was found
pub rest_is : {X : Type 0} (x a : X) (cs rest : List ℕ) → ◌≡◌ {A = Found X} (Some (x, cs)) (Some (a, rest)) → cs ≡ rest
rest_is {X} x a cs rest h = ap rest_of h
  where
    rest_of : Found X → List ℕ
    rest_of None = []
    rest_of (Some p) = p.1

pub behind_is : (c : ℕ) (cs rest : List ℕ) → behind c cs ≡ Some rest → cs ≡ c ∷ rest
behind_is c [] rest h = absurd (cc)
behind_is c (x ∷ xs) rest h = let g = given (x == c) xs rest h in rw (eqb-true x c g.0, g.1) refl

pub behind_shrinks : (c : ℕ) (cs rest : List ℕ) → behind c cs ≡ Some rest → length rest < length cs
behind_shrinks c cs rest h = omega (arith, ap length (behind_is c cs rest h))

-- a reader takes a character
abbrev pub Shrinks : {A : Type 0} → Reader A → Type 0
Shrinks {A} f = (cs : List ℕ) (a : A) (rest : List ℕ) → f cs ≡ Some (a, rest) → length rest < length cs

unit_shrinks : Shrinks unit_of
unfolding unit_of
unit_shrinks [] a rest h = absurd (cc)
unit_shrinks (p ∷ []) a rest h = absurd (cc)
unit_shrinks (p ∷ q ∷ []) a rest h = absurd (cc)
unit_shrinks (p ∷ q ∷ r ∷ []) a rest h = absurd (cc)
unit_shrinks (p ∷ q ∷ r ∷ s ∷ more) a rest h =
    let b = bind_some (code_unit p q r s) _ _ h in
    omega (arith, ap length (rest_is b.0 a more rest b.2))

second_shrinks : Shrinks second_unit
unfolding second_unit
second_shrinks cs a rest h =
    let b = bind_some (behind 92 cs) _ _ h in
    let d = bind_some (behind 117 b.0) _ _ b.2 in
    omega (arith, behind_shrinks 92 cs b.0 b.1, behind_shrinks 117 b.0 d.0 d.1, unit_shrinks d.0 a rest d.2)

low_shrinks : (high : ℕ) → Shrinks (low_unit high)
unfolding low_unit
low_shrinks high cs a rest h =
    let b = bind_some (second_unit cs) _ _ h in
    let g = given (is_low b.0.0) (paired high b.0.0, b.0.1) (a, rest) b.2 in
    let e : b.0.1 ≡ rest = ap (λ (x : ℕ × List ℕ). x.1) g.1 in
    omega (arith, second_shrinks cs b.0.0 b.0.1 b.1, ap length e)

surrogate_shrinks : (u : ℕ) (cs : List ℕ) (a : ℕ) (rest : List ℕ) → surrogate (u, cs) ≡ Some (a, rest) → length rest ≤ length cs
surrogate_shrinks u cs a rest h =
    elim (chosen (is_high u) _ _ _ h) [
      | inl x ↦ omega (arith, low_shrinks u cs a rest x.1)
      | inr x ↦ elim (chosen (is_low u) _ _ _ x.1) [
        | inl y ↦ absurd (cc)
        | inr y ↦ omega (arith, ap length (rest_is u a cs rest y.1))
      ]
    ]

escape_shrinks : Shrinks escape
unfolding escape
escape_shrinks [] a rest h = absurd (cc)
escape_shrinks (e ∷ cs) a rest h =
    elim (chosen (e == 117) _ _ _ h) [
      | inl x ↦
          let b = bind_some (unit_of cs) surrogate _ x.1 in
          omega (arith, unit_shrinks cs b.0.0 b.0.1 b.1, surrogate_shrinks b.0.0 b.0.1 a rest b.2)
      | inr x ↦
          let b = bind_some (short_escape e) _ _ x.1 in
          omega (arith, ap length (rest_is b.0 a cs rest b.2))
    ]

-- the rest of a turn
pub turn_rest : {A : Type 0} (s t : Turn A) → Some s ≡ Some t → s.2 ≡ t.2
turn_rest {A} s t h = ap rest_of h
  where
    rest_of : Option (Turn A) → List ℕ
    rest_of None = []
    rest_of (Some p) = p.2

pub character_takes : Takes character_turn
unfolding character_turn
character_takes [] t h = absurd (cc)
character_takes (c ∷ cs) t h =
    elim (chosen (c == 34) _ _ _ h) [
      | inl x ↦ omega (arith, ap length (turn_rest _ t x.1))
      | inr x ↦ elim (chosen (c == 92) _ _ _ x.1) [
        | inl y ↦
            let b = bind_some (escape cs) _ _ y.1 in
            omega (arith, escape_shrinks cs b.0.0 b.0.1 b.1, ap length (turn_rest _ t b.2))
        | inr y ↦ elim (chosen (nat_lt c 32) _ _ _ y.1) [
          | inl z ↦ absurd (cc)
          | inr z ↦ omega (arith, ap length (turn_rest _ t z.1))
        ]
      ]
    ]
