-- What a loop of the code owes for a repetition.
use Rattle.std.proofs.Common.{◌≡◌, ℕ, zero, suc, ◌≤◌, ◌<◌, true, false, if◌then◌else◌, List, [], ◌∷◌, ◌++◌, length, Ok, Err, refl, ap, append_assoc, arith}
use Rattle.base_grammar.specs.Reader.{Outcome, Reader, ◌>>=◌, begins_with, read_many, repeat, with_front}

-- what is read takes a token
pub record Shortens {K A S : Type 0} (reads : S → Reader K A) : Type 0 where
  pub by : (s : S) (ts rest : List K) (a : A) → reads s ts ≡ Ok (a, rest) → length rest < length ts

module _ {K A S : Type 0} (kind : K → ℕ) (first : List ℕ) (reads : S → Reader K A) (step : S → A → S) (shortens : Shortens reads) where
  -- what the turns after the first make of the first
  after : ℕ → S → Outcome K A → Outcome K (List A)
  after n s o = o >>= λ got. read_many kind first reads step n (step s got.0) got.1 >>= λ rest. Ok (got.0 ∷ rest.0, rest.1)

  after_same : (n m : ℕ) (s : S) (ts : List K) (o : Outcome K A) → reads s ts ≡ o
      → ((a : A) (rest : List K) → reads s ts ≡ Ok (a, rest) → read_many kind first reads step n (step s a) rest ≡ read_many kind first reads step m (step s a) rest)
      → after n s o ≡ after m s o
  unfolding after
  after_same n m s ts (Ok got) e all = rw (all got.0 got.1 e) refl
  after_same n m s ts (Err k) e all = refl

  -- more turns than tokens make no difference
  enough : (n m : ℕ) (s : S) (ts : List K) → length ts ≤ n → length ts ≤ m → read_many kind first reads step n s ts ≡ read_many kind first reads step m s ts
  unfolding read_many after
  enough zero zero s ts h g = refl
  enough zero (suc m) s [] h g = refl
  enough zero (suc m) s (t ∷ ts) h g = absurd (omega arith)
  enough (suc n) zero s [] h g = refl
  enough (suc n) zero s (t ∷ ts) h g = absurd (omega arith)
  enough (suc n) (suc m) s ts h g =
      let P : Outcome K (List A) → Outcome K (List A) = λ o. if begins_with kind first ts then o else Ok ([], ts) in
      ap P (after_same n m s ts (reads s ts) refl
      (λ a rest e. let less = shortens.by s ts rest a e in enough n m (step s a) rest (omega arith) (omega arith)))

  pub repeat-ends : (s : S) (ts : List K) → begins_with kind first ts ≡ false → repeat kind first reads step s ts ≡ Ok ([], ts)
  unfolding read_many repeat
  repeat-ends s [] e = refl
  repeat-ends s (t ∷ ts) e = rw e refl

  pub repeat-turn : (s : S) (ts rest : List K) (a : A) → begins_with kind first ts ≡ true → reads s ts ≡ Ok (a, rest)
      → repeat kind first reads step s ts ≡ with_front (a ∷ []) (repeat kind first reads step (step s a) rest)
  unfolding read_many repeat
  repeat-turn s [] rest a b e = absurd (cc)
  repeat-turn s (t ∷ ts) rest a b e =
      let less = shortens.by s (t ∷ ts) rest a e in
      let same = enough (length ts) (length rest) (step s a) rest (omega arith) (omega arith) in
      rw (b, e, same) refl

  pub repeat-stuck : (s : S) (ts : List K) (n : ℕ) → begins_with kind first ts ≡ true → reads s ts ≡ Err n
      → repeat kind first reads step s ts ≡ Err n
  unfolding read_many repeat
  repeat-stuck s [] n b e = absurd (cc)
  repeat-stuck s (t ∷ ts) n b e = rw (b, e) refl

pub with_front-append : {K A : Type 0} (x y : List A) (o : Outcome K (List A)) → with_front x (with_front y o) ≡ with_front (x ++ y) o
with_front-append x y (Ok got) = let e = append_assoc x y got.0 in rw e refl
with_front-append x y (Err n) = refl
