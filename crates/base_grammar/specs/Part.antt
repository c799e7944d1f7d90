-- Parts of a grammar over tokens. Each is two relations: which tokens spell which value, and which tokens open the part, that
-- is, are a beginning of some spelling by the cases below, none of which asks for a continuation.
-- Source of the forms: ISO/IEC 14977, "Extended BNF": terminal, sequence, choice, repetition.
use Rattle.std.specs.Prelude.{◌≡◌, ℕ, zero, suc, ◌⊎◌, ◌==◌, if◌then◌else◌, List, [], ◌∷◌, ◌++◌, Option, Some, None, fold}

pub record Part (K A : Type 0) : Type 1 where
  pub spells : List K → A → Type 0
  pub opens : List K → Type 0

-- ---- a single token, with the value that it has
abbrev pub SpellsOne : {K A : Type 0} → (K → Option A) → List K → A → Type 0
SpellsOne value [] a = ⊥
SpellsOne value (t ∷ []) a = value t ≡ Some a
SpellsOne value (t ∷ u ∷ ts) a = ⊥

abbrev pub OpensOne : {K A : Type 0} → (K → Option A) → List K → Type 0
OpensOne value [] = Unit {0}
OpensOne {A = A} value (t ∷ []) = (a : A) × (value t ≡ Some a)
OpensOne value (t ∷ u ∷ ts) = ⊥

abbrev pub one : {K A : Type 0} → (K → Option A) → Part K A
one value = record { spells = SpellsOne value; opens = OpensOne value }

-- ---- no token
abbrev pub empty : {K A : Type 0} → A → Part K A
empty x = record { spells = λ ts a. (ts ≡ []) × (a ≡ x); opens = λ ts. ts ≡ [] }

-- ---- what nothing spells, and only no token opens
abbrev pub never : {K A : Type 0} → Part K A
never = record { spells = λ ts a. ⊥; opens = λ ts. ts ≡ [] }

-- ---- a sequence of two parts, the second of which may depend on what the first spells
abbrev pub SpellsBoth : {K A B : Type 0} → Part K A → (A → Part K B) → List K → A → B → Type 0
SpellsBoth {K = K} p q ts a b = (x : List K) × (y : List K) × (ts ≡ x ++ y) × p.spells x a × (q a).spells y b

abbrev pub OpensBoth : {K A B : Type 0} → Part K A → (A → Part K B) → List K → Type 0
OpensBoth {K = K} {A = A} p q ts =
    (p.opens ts) ⊎ ((x : List K) × (y : List K) × (a : A) × (ts ≡ x ++ y) × p.spells x a × (q a).opens y)

abbrev pub both : {K A B : Type 0} → Part K A → (A → Part K B) → Part K (A × B)
both p q = record { spells = λ ts v. SpellsBoth p q ts v.0 v.1; opens = OpensBoth p q }

-- ---- a choice
abbrev pub either : {K A : Type 0} → Part K A → Part K A → Part K A
either p q = record { spells = λ ts a. p.spells ts a ⊎ q.spells ts a; opens = λ ts. p.opens ts ⊎ q.opens ts }

-- ---- a part with another value
abbrev pub as_value : {K A B : Type 0} → (A → B) → Part K A → Part K B
as_value {A = A} f p = record { spells = λ ts b. (a : A) × p.spells ts a × (b ≡ f a); opens = p.opens }

-- ---- a repetition. What may be repeated next depends on a state, which each repeat moves; all limits are this.
abbrev pub SpellsMany : {K A S : Type 0} → (S → Part K A) → (S → A → S) → S → List K → List A → Type 0
SpellsMany body step s ts [] = ts ≡ []
SpellsMany {K = K} body step s ts (a ∷ more) =
    (x : List K) × (y : List K) × (ts ≡ x ++ y) × (body s).spells x a × SpellsMany body step (step s a) y more

abbrev pub OpensMany : {K A S : Type 0} → (S → Part K A) → (S → A → S) → S → List K → Type 0
OpensMany {K = K} {A = A} body step s ts =
    (whole : List A) × (x : List K) × (y : List K) × (ts ≡ x ++ y) × SpellsMany body step s x whole × (body (fold step s whole)).opens y

abbrev pub many : {K A S : Type 0} → (S → Part K A) → (S → A → S) → S → Part K (List A)
many body step s = record { spells = SpellsMany body step s; opens = OpensMany body step s }

-- ---- parts made of these. Each token has a kind, which is a number.
-- a token of this kind has no value
abbrev pub of_kind : {K : Type 0} → (K → ℕ) → ℕ → K → Option (Unit {0})
of_kind kind n t = if kind t == n then Some tt else None

abbrev pub sign : {K : Type 0} → (K → ℕ) → ℕ → Part K (Unit {0})
sign kind n = one (of_kind kind n)

-- a part behind a token of this kind
abbrev pub after : {K A : Type 0} → (K → ℕ) → ℕ → Part K A → Part K A
after kind n p = as_value (λ v. v.1) (both (sign kind n) (λ _. p))

-- a part before a token of this kind
abbrev pub before : {K A : Type 0} → (K → ℕ) → Part K A → ℕ → Part K A
before kind p n = as_value (λ v. v.0) (both p (λ _. sign kind n))

-- a part as long as some are left
abbrev pub while_left : {K A : Type 0} → Part K A → ℕ → Part K A
while_left p zero = never
while_left p (suc n) = p

abbrev pub one_fewer : {A : Type 0} → ℕ → A → ℕ
one_fewer zero _ = zero
one_fewer (suc n) _ = n

-- a part at most so many times
abbrev pub repeated : {K A : Type 0} → ℕ → Part K A → Part K (List A)
repeated limit p = many (while_left p) one_fewer limit

-- a part, and up to so many of another
abbrev pub listed : {K A : Type 0} → ℕ → Part K A → Part K A → Part K (List A)
listed limit p more = as_value (λ v. v.0 ∷ v.1) (both p (λ _. repeated limit more))

-- a part any number of times
abbrev pub any_number : {K A : Type 0} → Part K A → Part K (List A)
any_number p = many {S = ℕ} (λ _. p) (λ n _. n) 0
