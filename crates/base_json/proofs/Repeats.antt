-- Repetition: more turns than there are characters make no difference.
use Rattle.std.proofs.Common.{◌≡◌, ℕ, zero, suc, ◌<◌, true, false, List, [], ◌++◌, length, Option, Some, None, refl, sym, ◌∙◌, ap, append_assoc, arith}
use Rattle.base_json.specs.Reading.{Found, Turn, ◌>>=◌, go_on, collect, repeated, with_front}

-- each turn takes a character
abbrev pub Takes : {A : Type 0} → (List ℕ → Option (Turn A)) → Type 0
Takes {A} turn = (cs : List ℕ) (t : Turn A) → turn cs ≡ Some t → length t.2 < length cs

pub with_front-nil : {A : Type 0} (o : Found (List A)) → with_front [] o ≡ o
with_front-nil None = refl
with_front-nil (Some got) = refl

pub with_front-append : {A : Type 0} (xs ys : List A) (o : Found (List A)) → with_front xs (with_front ys o) ≡ with_front (xs ++ ys) o
with_front-append xs ys None = refl
with_front-append xs ys (Some got) = ap (λ zs. Some (zs, got.1)) (sym (append_assoc xs ys got.0))

module _ {A : Type 0} (turn : List ℕ → Option (Turn A)) (takes : Takes turn) where
  same_by : (n m : ℕ) → ((cs : List ℕ) → length cs < n → length cs < m → collect turn n cs ≡ collect turn m cs)
      → (cs : List ℕ) → length cs < suc n → length cs < suc m → (o : Option (Turn A)) → turn cs ≡ o
      → (o >>= go_on (collect turn n)) ≡ (o >>= go_on (collect turn m))
  same_by n m same cs p q None e = refl
  same_by n m same cs p q (Some (xs, false, rest)) e = refl
  same_by n m same cs p q (Some (xs, true, rest)) e =
      let less : length rest < length cs = takes cs (xs, true, rest) e in
      ap (λ o. o >>= λ got. Some (xs ++ got.0, got.1)) (same rest (omega arith) (omega arith))

  same_turns : (n m : ℕ) (cs : List ℕ) → length cs < n → length cs < m → collect turn n cs ≡ collect turn m cs
  unfolding collect
  same_turns zero m cs p q = absurd (omega arith)
  same_turns (suc n) zero cs p q = absurd (omega arith)
  same_turns (suc n) (suc m) cs p q = same_by n m (same_turns n m) cs p q (turn cs) refl

  enough : (n : ℕ) (cs : List ℕ) → length cs < n → collect turn n cs ≡ repeated turn cs
  unfolding repeated
  enough n cs h = same_turns n (suc (length cs)) cs h (omega arith)

  pub repeated-stops : (cs : List ℕ) → turn cs ≡ None → repeated turn cs ≡ None
  unfolding repeated collect
  repeated-stops cs e = rw e refl

  pub repeated-ends : (cs rest : List ℕ) (xs : List A) → turn cs ≡ Some (xs, false, rest) → repeated turn cs ≡ Some (xs, rest)
  unfolding repeated collect
  repeated-ends cs rest xs e = rw e refl

  opened : (cs rest : List ℕ) (xs : List A) → turn cs ≡ Some (xs, true, rest) → repeated turn cs ≡ with_front xs (collect turn (length cs) rest)
  unfolding repeated collect
  opened cs rest xs e = rw e refl

  pub repeated-goes : (cs rest : List ℕ) (xs : List A) → turn cs ≡ Some (xs, true, rest) → repeated turn cs ≡ with_front xs (repeated turn rest)
  repeated-goes cs rest xs e = opened cs rest xs e ∙ ap (with_front xs) (enough (length cs) rest (takes cs (xs, true, rest) e))

  -- ---- one turn of a loop that has front already, and gives target

  pub turn_fails : (front : List A) (cs : List ℕ) (target : Found (List A)) → turn cs ≡ None → with_front front (repeated turn cs) ≡ target → target ≡ None
  turn_fails front cs target e h = sym h ∙ ap (with_front front) (repeated-stops cs e)

  pub turn_ends : (front : List A) (cs rest : List ℕ) (xs : List A) (target : Found (List A)) → turn cs ≡ Some (xs, false, rest)
      → with_front front (repeated turn cs) ≡ target → target ≡ Some (front ++ xs, rest)
  turn_ends front cs rest xs target e h = sym h ∙ ap (with_front front) (repeated-ends cs rest xs e)

  pub turn_goes : (front : List A) (cs rest : List ℕ) (xs : List A) (target : Found (List A)) → turn cs ≡ Some (xs, true, rest)
      → with_front front (repeated turn cs) ≡ target → with_front (front ++ xs) (repeated turn rest) ≡ target
  turn_goes front cs rest xs target e h =
      sym (with_front-append front xs (repeated turn rest)) ∙ ap (with_front front) (sym (repeated-goes cs rest xs e)) ∙ h
