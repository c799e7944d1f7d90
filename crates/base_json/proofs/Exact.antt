-- Reading is exact for a part of the grammar: what it reads is spelled so, and what is spelled so is read.
use Rattle.std.proofs.Common.{◌≡◌, ℕ, Bool, true, false, ◌==◌, cond, List, [], ◌∷◌, Some, None, refl, ◌∙◌, ap, subst, eq-eqb}
use Rattle.base_json.specs.Characters.{Part}
use Rattle.base_json.specs.Numerals.{stands}
use Rattle.base_json.specs.Reading.{Found, Reader, behind}

pub record Exact {A : Type 0} (part : Part A) (read : Reader A) : Type 0 where
  pub told : (cs : List ℕ) (a : A) (rest : List ℕ) → read cs ≡ Some (a, rest) → part cs a rest
  pub whole : (cs : List ℕ) (a : A) (rest : List ℕ) → part cs a rest → read cs ≡ Some (a, rest)

-- the two halves of what was found
pub found_is : {A : Type 0} (x a : A) (cs rest : List ℕ) → ◌≡◌ {A = Found A} (Some (x, cs)) (Some (a, rest)) → (x ≡ a) × (cs ≡ rest)
found_is {A} x a cs rest h = (ap value_of h, ap rest_of h)
  where
    value_of : Found A → A
    value_of None = x
    value_of (Some p) = p.0

    rest_of : Found A → List ℕ
    rest_of None = cs
    rest_of (Some p) = p.1

pub behind_at : (c : ℕ) (rest : List ℕ) → behind c (c ∷ rest) ≡ Some rest
behind_at c rest = rw (eq-eqb c c refl) refl

pub behind_whole : (c : ℕ) (cs rest : List ℕ) → cs ≡ c ∷ rest → behind c cs ≡ Some rest
behind_whole c cs rest e = ap (behind c) e ∙ behind_at c rest

-- no such character stands there
pub behind_stands : (c : ℕ) (cs : List ℕ) → behind c cs ≡ None → stands (λ x. x == c) cs ≡ false
behind_stands c [] h = refl
behind_stands c (x ∷ xs) h = by_test (x == c) h
  where
    by_test : (b : Bool) → cond b (Some xs) None ≡ None → b ≡ false
    by_test true e = absurd (cc)
    by_test false e = refl

pub behind_none : (c : ℕ) (cs : List ℕ) → stands (λ x. x == c) cs ≡ false → behind c cs ≡ None
behind_none c [] h = refl
behind_none c (x ∷ xs) h = rw h refl

-- what is so of the halves is so of what was found
pub moved : {A : Type 0} (part : Part A) (x a : A) (cs u rest : List ℕ) → ◌≡◌ {A = Found A} (Some (x, u)) (Some (a, rest)) → part cs x u → part cs a rest
moved {A} part x a cs u rest h p =
    let f = found_is x a u rest h in
    subst (λ (r : List ℕ). part cs a r) f.1 (subst (λ (y : A). part cs y u) f.0 p)
