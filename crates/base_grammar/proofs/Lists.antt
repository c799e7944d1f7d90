-- The turns of a loop that reads a list.
use Rattle.std.proofs.Common.{◌≡◌, ℕ, zero, suc, ◌-◌, ◌<◌, true, false, List, [], ◌∷◌, ◌++◌, length, Option, Some, None, Result, Ok, Err, refl, sym, ◌∙◌, ap, append-nil, length-append, arith}
use Rattle.base_grammar.specs.Part.{Part, one_fewer}
use Rattle.base_grammar.specs.Reader as spec
use Rattle.base_grammar.specs.Reader.{Outcome, Reader, ◌>>=◌, at_token, read_one, begins_with, with_front}
use Rattle.base_grammar.specs.Exact.{Exact, Told}
use Rattle.base_grammar.specs.declared.fail.Fail.{Fail}
use Rattle.base_grammar.specs.declared.fail.Fail.TheVariants.{Stuck, Memory}
use Rattle.base_grammar.proofs.Turns.{Shortens, repeat-ends, repeat-turn, repeat-stuck, with_front-append}

-- what is read takes a token
abbrev pub Takes : {K A : Type 0} → Reader K A → Type 0
Takes {K = K} {A = A} p = (ts rest : List K) (a : A) → p ts ≡ Ok (a, rest) → length rest < length ts

-- the tokens after what was read
abbrev rest_of : {K A : Type 0} → Outcome K A → List K
rest_of (Ok got) = got.1
rest_of (Err n) = []

pub one_takes : {K A : Type 0} (value : K → Option A) → Takes (read_one value)
one_takes value [] rest a e = absurd (cc)
one_takes {K = K} {A = A} value (t ∷ ts) rest a e = go (value t) e
  where
    go : (o : Option A) → at_token t ts o ≡ Ok (a, rest) → length rest < suc (length ts)
    go None h = absurd (cc)
    go (Some b) h = let same = ap rest_of h in omega (arith, ap length same)

pub fails_by : {Y : Type 0} (e : Fail) (a b : Result Y ℕ) → a ≡ b → spec.Fails e a → spec.Fails e b
fails_by Memory a b s f = tt
fails_by (Stuck m) a b s f = sym s ∙ f

left_shortens : {K A : Type 0} (p : Reader K A) → Takes p → Shortens (spec.while_left p)
left_shortens {K = K} {A = A} p all = record { by = each }
  where
    each : (s : ℕ) (ts rest : List K) (a : A) → spec.while_left p s ts ≡ Ok (a, rest) → length rest < length ts
    each zero ts rest a e = absurd (cc)
    each (suc n) ts rest a e = all ts rest a e

module _ {K A : Type 0} (kind : K → ℕ) (first : List ℕ) (p : Reader K A) (takes : Takes p) where
  pub list-ends : (n : ℕ) (xs : List A) (ts : List K) → begins_with kind first ts ≡ false → with_front xs (spec.repeated kind first n p ts) ≡ Ok (xs, ts)
  list-ends n xs ts e =
      let h = repeat-ends kind first (spec.while_left p) one_fewer (left_shortens p takes) n ts e in
      rw (h, append-nil xs) refl

  pub list-full : (xs : List A) (ts : List K) → begins_with kind first ts ≡ true → with_front xs (spec.repeated kind first 0 p ts) ≡ Err (length ts)
  list-full xs ts e =
      let h = repeat-stuck kind first (spec.while_left p) one_fewer (left_shortens p takes) 0 ts (length ts) e refl in
      rw h refl

  pub list-stuck : (n : ℕ) (xs : List A) (ts : List K) (m : ℕ) → begins_with kind first ts ≡ true → 0 < n → p ts ≡ Err m
      → with_front xs (spec.repeated kind first n p ts) ≡ Err m
  list-stuck zero xs ts m e pos f = absurd (omega arith)
  list-stuck (suc n) xs ts m e pos f =
      let h = repeat-stuck kind first (spec.while_left p) one_fewer (left_shortens p takes) (suc n) ts m e f in
      rw h refl

  pub list-turn : (n : ℕ) (xs : List A) (ts rest : List K) (a : A) → begins_with kind first ts ≡ true → 0 < n → p ts ≡ Ok (a, rest)
      → with_front xs (spec.repeated kind first n p ts) ≡ with_front (xs ++ a ∷ []) (spec.repeated kind first (n - 1) p rest)
  list-turn zero xs ts rest a e pos f = absurd (omega arith)
  list-turn (suc n) xs ts rest a e pos f =
      let h = repeat-turn kind first (spec.while_left p) one_fewer (left_shortens p takes) (suc n) ts rest a e f in
      let less : suc n - 1 ≡ n = omega arith in
      rw (h, with_front-append xs (a ∷ []) (spec.repeated kind first n p rest), less) refl

  -- a failure of an item is one of the list
  pub list_fails : (n : ℕ) (xs : List A) (ts : List K) (e : Fail)
      → begins_with kind first ts ≡ true → 0 < n → spec.Fails e (p ts) → spec.Fails e (with_front xs (spec.repeated kind first n p ts))
  list_fails n xs ts Memory b pos f = tt
  list_fails n xs ts (Stuck m) b pos f = list-stuck n xs ts m b pos f

-- what is exact for a part that isn't spelled by no token takes a token
pub exact_takes : {K A : Type 0} (kind : K → ℕ) (part : Part K A) (p : Reader K A) (first goes : List ℕ) → Exact kind part p first goes false → Takes p
exact_takes {K = K} {A = A} kind part p first goes e ts rest a h = go (p ts) h (e.told ts)
  where
    shorter : (x r : List K) (b : A) → ts ≡ x ++ r → part.spells x b → length r < length ts
    shorter [] r b f sp = let k = e.takes b sp in absurd (cc)
    shorter (t ∷ x) r b f sp = omega (arith, ap length f, length-append x r)

    go : (o : Outcome K A) → o ≡ Ok (a, rest) → Told part ts o → length rest < length ts
    go (Ok got) f told = let same = ap rest_of f in let s : got.1 ≡ rest = same in rw (← s) (shorter told.0 got.1 got.0 told.1 told.2)
    go (Err n) f told = absurd (cc)

-- ---- the turns of a list without a limit
module _ {K A : Type 0} (kind : K → ℕ) (first : List ℕ) (p : Reader K A) (takes : Takes p) where
  any_shortens : Shortens {S = ℕ} (λ _. p)
  any_shortens = record { by = λ s ts rest a e. takes ts rest a e }

  pub any-ends : (xs : List A) (ts : List K) → begins_with kind first ts ≡ false → with_front xs (spec.any_number kind first p ts) ≡ Ok (xs, ts)
  any-ends xs ts e =
      let h = repeat-ends {S = ℕ} kind first (λ _. p) (λ n _. n) any_shortens 0 ts e in
      rw (h, append-nil xs) refl

  any-stuck : (xs : List A) (ts : List K) (m : ℕ) → begins_with kind first ts ≡ true → p ts ≡ Err m → with_front xs (spec.any_number kind first p ts) ≡ Err m
  any-stuck xs ts m e f =
      let h = repeat-stuck {S = ℕ} kind first (λ _. p) (λ n _. n) any_shortens 0 ts m e f in
      rw h refl

  pub any-turn : (xs : List A) (ts rest : List K) (a : A) → begins_with kind first ts ≡ true → p ts ≡ Ok (a, rest)
      → with_front xs (spec.any_number kind first p ts) ≡ with_front (xs ++ a ∷ []) (spec.any_number kind first p rest)
  any-turn xs ts rest a e f =
      let h = repeat-turn {S = ℕ} kind first (λ _. p) (λ n _. n) any_shortens 0 ts rest a e f in
      rw (h, with_front-append xs (a ∷ []) (spec.any_number kind first p rest)) refl

  pub any_fails : (xs : List A) (ts : List K) (e : Fail) → begins_with kind first ts ≡ true → spec.Fails e (p ts) → spec.Fails e (with_front xs (spec.any_number kind first p ts))
  any_fails xs ts Memory b f = tt
  any_fails xs ts (Stuck m) b f = any-stuck xs ts m b f
