-- Reading of tokens by a function: the value and the tokens after it, or how many tokens were left where none could follow.
use Rattle.std.specs.Prelude.{◌≡◌, ℕ, zero, suc, Bool, false, ◌||◌, ◌==◌, if◌then◌else◌, List, [], ◌∷◌, ◌++◌, length, Option, Some, None, Result, Ok, Err}
use Rattle.base_grammar.specs.Part.{of_kind, one_fewer}
use Rattle.base_grammar.specs.declared.fail.Fail.{Fail}
use Rattle.base_grammar.specs.declared.fail.Fail.TheVariants.{Stuck, Memory}

abbrev pub Outcome : Type 0 → Type 0 → Type 0
Outcome K A = Result (A × List K) ℕ

abbrev pub Reader : Type 0 → Type 0 → Type 0
Reader K A = List K → Outcome K A

infixl 10 ◌>>=◌
abbrev pub ◌>>=◌ : {X Y : Type 0} → Result X ℕ → (X → Result Y ℕ) → Result Y ℕ
(Ok x) >>= f = f x
(Err n) >>= f = Err n

abbrev pub at_token : {K A : Type 0} → K → List K → Option A → Outcome K A
at_token t ts None = Err (suc (length ts))
at_token t ts (Some a) = Ok (a, ts)

-- what was made of the next token
abbrev pub taken : {K A : Type 0} → Option A → Reader K A
taken found [] = Err 0
taken found (t ∷ ts) = at_token t ts found

abbrev pub read_one : {K A : Type 0} → (K → Option A) → Reader K A
read_one value [] = Err 0
read_one value (t ∷ ts) = at_token t ts (value t)

abbrev pub read_empty : {K A : Type 0} → A → Reader K A
read_empty x ts = Ok (x, ts)

abbrev pub read_never : {K A : Type 0} → Reader K A
read_never ts = Err (length ts)

abbrev pub read_both : {K A B : Type 0} → Reader K A → (A → Reader K B) → Reader K (A × B)
read_both p q ts = p ts >>= λ first. q first.0 first.1 >>= λ second. Ok ((first.0, second.0), second.1)

abbrev pub read_as : {K A B : Type 0} → (A → B) → Reader K A → Reader K B
read_as f p ts = p ts >>= λ got. Ok (f got.0, got.1)

-- ---- the kinds with which a part begins
abbrev pub elem : ℕ → List ℕ → Bool
elem k [] = false
elem k (x ∷ xs) = k == x || elem k xs

abbrev pub begins_with : {K : Type 0} → (K → ℕ) → List ℕ → List K → Bool
begins_with kind set [] = false
begins_with kind set (t ∷ ts) = elem (kind t) set

abbrev pub read_either : {K A : Type 0} → (K → ℕ) → List ℕ → Reader K A → Reader K A → Reader K A
read_either kind set p q ts = if begins_with kind set ts then p ts else q ts

-- repeats while a token of these kinds comes next; the first number bounds the turns
unfoldable pub read_many : {K A S : Type 0} → (K → ℕ) → List ℕ → (S → Reader K A) → (S → A → S) → ℕ → S → Reader K (List A)
read_many kind set body step zero s ts = Ok ([], ts)
read_many kind set body step (suc n) s ts =
    if begins_with kind set ts
    then (body s ts >>= λ got. read_many kind set body step n (step s got.0) got.1 >>= λ rest. Ok (got.0 ∷ rest.0, rest.1))
    else Ok ([], ts)

-- with as many turns as there are tokens
unfoldable pub repeat : {K A S : Type 0} → (K → ℕ) → List ℕ → (S → Reader K A) → (S → A → S) → S → Reader K (List A)
repeat kind set body step s ts = read_many kind set body step (length ts) s ts

-- a list that was read, behind the items before it
abbrev pub with_front : {K A : Type 0} → List A → Outcome K (List A) → Outcome K (List A)
with_front front o = o >>= λ got. Ok (front ++ got.0, got.1)

-- ---- readers of the parts that are made of others
unfoldable pub sign : {K : Type 0} → (K → ℕ) → ℕ → Reader K (Unit {0})
sign kind n = read_one (of_kind kind n)

-- behind a token of this kind
abbrev pub after : {K A : Type 0} → (K → ℕ) → ℕ → Reader K A → Reader K A
after kind n p ts = sign kind n ts >>= λ got. p got.1

-- before a token of this kind
abbrev pub before : {K A : Type 0} → (K → ℕ) → Reader K A → ℕ → Reader K A
before kind p n ts = p ts >>= λ got. sign kind n got.1 >>= λ end. Ok (got.0, end.1)

-- as long as some are left
abbrev pub while_left : {K A : Type 0} → Reader K A → ℕ → Reader K A
while_left p zero = read_never
while_left p (suc n) = p

-- at most so many times, where a token of these kinds begins one
abbrev pub repeated : {K A : Type 0} → (K → ℕ) → List ℕ → ℕ → Reader K A → Reader K (List A)
repeated kind first limit p = repeat kind first (while_left p) one_fewer limit

-- any number of times
abbrev pub any_number : {K A : Type 0} → (K → ℕ) → List ℕ → Reader K A → Reader K (List A)
any_number kind first p = repeat {S = ℕ} kind first (λ _. p) (λ n _. n) 0

-- ---- what a function of the code returns is what reading gives, unless out of memory
abbrev pub Fails : {Y : Type 0} → Fail → Result Y ℕ → Type 0
Fails Memory read = Unit {0}
Fails (Stuck n) read = read ≡ Err n

abbrev pub Gives : {X Y : Type 0} → (X → Y) → Result X Fail → Result Y ℕ → Type 0
Gives view (Ok x) read = read ≡ Ok (view x)
Gives view (Err e) read = Fails e read
