-- Moments, and what asking leaves of a clock.
use Rattle.std.specs.Prelude.{ℕ, ◌≡◌, ◌∷◌, [], List, Option, Some, None, ⊤}

-- 9999-12-31T23:59:59Z, in seconds from 1970-01-01T00:00:00Z
abbrev pub last_moment : ℕ
last_moment = 253402300799

-- the moments to come after one was asked for: the first is dropped where it isn't the only one
abbrev pub after_asking : List ℕ → List ℕ
after_asking [] = []
after_asking (moment ∷ []) = moment ∷ []
after_asking (moment ∷ next ∷ rest) = next ∷ rest

-- the clock was asked once
abbrev pub AskedOnce : Option (List ℕ) → Option (List ℕ) → Type 0
AskedOnce None new = ⊤
AskedOnce (Some moments) None = ⊥
AskedOnce (Some moments) (Some left) = left ≡ after_asking moments

-- the answer is the first of the moments to come, of which there always is one
abbrev pub IsFirstMoment : Option (List ℕ) → ℕ → Type 0
IsFirstMoment None moment = ⊤
IsFirstMoment (Some []) moment = ⊥
IsFirstMoment (Some (first ∷ rest)) moment = moment ≡ first

-- these moments, or the one moment 0 where there are none
abbrev pub or_first : List ℕ → List ℕ
or_first [] = 0 ∷ []
or_first (moment ∷ rest) = moment ∷ rest
