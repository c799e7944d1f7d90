-- Reading by a function is exact for a part of a grammar: what it reads is spelled, what is spelled is read, and where it is
-- stuck no longer beginning opens the part.
use Rattle.std.specs.Prelude.{◌≡◌, ℕ, ◌≤◌, Bool, true, false, List, [], ◌∷◌, ◌++◌, length, Ok, Err}
use Rattle.base_grammar.specs.Part.{Part}
use Rattle.base_grammar.specs.Reader.{Outcome, Reader, elem}

-- how many tokens are left
abbrev pub left : {K A : Type 0} → Outcome K A → ℕ
left (Ok got) = length got.1
left (Err n) = n

-- no token of these kinds comes next
abbrev pub Stops : {K : Type 0} → (K → ℕ) → List ℕ → List K → Type 0
Stops kind set [] = Unit {0}
Stops kind set (t ∷ ts) = elem (kind t) set ≡ false

-- what was read is spelled; where reading was stuck, the tokens before that place open the part
abbrev pub Told : {K A : Type 0} → Part K A → List K → Outcome K A → Type 0
Told {K = K} part ts (Ok got) = (x : List K) × (ts ≡ x ++ got.1) × part.spells x got.0
Told {K = K} part ts (Err n) = (x : List K) × (r : List K) × (ts ≡ x ++ r) × (length r ≡ n) × part.opens x

-- `first` are the kinds with which the part may begin, `goes_on` those with which what spells it may go on within it, and
-- `skips` is true where no token may spell it.
pub record Exact {K A : Type 0} (kind : K → ℕ) (part : Part K A) (read : Reader K A) (first goes_on : List ℕ) (skips : Bool) : Type 0 where
  pub told : (ts : List K) → Told part ts (read ts)
  pub whole : (x r : List K) (a : A) → part.spells x a → Stops kind goes_on r → read (x ++ r) ≡ Ok (a, r)
  pub far : (x r : List K) → part.opens x → left (read (x ++ r)) ≤ length r
  pub begins : (t : K) (x : List K) → part.opens (t ∷ x) → elem (kind t) first ≡ true
  pub takes : (a : A) → part.spells [] a → skips ≡ true
  pub spelled : (x : List K) (a : A) → part.spells x a → part.opens x
  pub start : part.opens []
