-- From exact reading of tokens to what a whole text spells, and to the place where it doesn't.
use Rattle.std.proofs.Common.{◌≡◌, ℕ, ◌+◌, ◌-◌, ◌≤◌, ◌≢◌, Bool, List, [], ◌∷◌, ◌++◌, length, take, drop, slice_index_or, Ok, Err, refl, sym, ◌∙◌, ap, subst, append-nil, length-append, length-drop, take-append-drop, arith}
use Rattle.base_grammar.specs.Part.{Part}
use Rattle.base_grammar.specs.Reader.{Outcome, Reader}
use Rattle.base_grammar.specs.Place.{IsPlace}
use Rattle.base_grammar.specs.Exact.{Exact, Told, left}
use Rattle.base_grammar.proofs.Exact.{told_shorter}

take_front : {K : Type 0} (x r : List K) → take (length x) (x ++ r) ≡ x
take_front [] [] = refl
take_front [] (t ∷ r) = refl
take_front (t ∷ x) r = ap (λ z. t ∷ z) (take_front x r)

module _ {K A : Type 0} (kind : K → ℕ) (part : Part K A) (read : Reader K A) (first goes : List ℕ) (skips : Bool) (e : Exact kind part read first goes skips) where
  pub spelled_whole : (ts : List K) (a : A) → part.spells ts a → read ts ≡ Ok (a, [])
  spelled_whole ts a sp = let end = append-nil ts in rw end at (e.whole ts [] a sp tt)

  -- of what was read to the end
  pub read_to_end : (ts r : List K) (a : A) → read ts ≡ Ok (a, r) → length r ≡ 0 → read ts ≡ Ok (a, [])
  read_to_end ts [] a f none = f
  read_to_end ts (t ∷ r) a f none = absurd (omega arith)

  pub read_whole : (ts : List K) (a : A) → read ts ≡ Ok (a, []) → part.spells ts a
  read_whole ts a f = go (read ts) f (e.told ts)
    where
      go : (o : Outcome K A) → o ≡ Ok (a, []) → Told part ts o → part.spells ts a
      go (Ok got) h told =
          let P : A × List K → Type 0 = λ v. (x : List K) × (ts ≡ x ++ v.1) × part.spells x v.0 in
          let same = subst P (ap value_of h) told in
          let Q : List K → Type 0 = λ x. part.spells x a in
          subst Q (sym (same.1 ∙ append-nil same.0)) same.2
        where
          value_of : Outcome K A → A × List K
          value_of (Ok v) = v
          value_of (Err n) = got
      go (Err n) h told = absurd (cc)

  no_longer : (ts : List K) (n more : ℕ) → left (read ts) ≡ n → more ≤ length ts → part.opens (take more ts) → n + more ≤ length ts
  no_longer ts n more f within op =
      let all : take more ts ++ drop more ts ≡ ts = take-append-drop more ts in
      let far = rw all at (e.far (take more ts) (drop more ts) op) in
      omega (arith, length-drop more ts)

  place_after : (ts x r : List K) (n : ℕ) (starts : List ℕ) (end : ℕ) → ts ≡ x ++ r → length r ≡ n → left (read ts) ≡ n → part.opens x
      → IsPlace part ts starts end (slice_index_or starts (length ts - n) end)
  place_after ts x r n starts end f len l op =
      let sizes : length ts ≡ length x + length r = ap length f ∙ length-append x r in
      let count : length ts - n ≡ length x = omega arith in
      record {
        count = length ts - n;
        within = omega arith;
        opens = rw (count, f, take_front x r) op;
        greatest = λ more within h. let g = no_longer ts n more l within h in omega arith;
        at = refl;
      }

  pub place_stuck : (ts : List K) (n : ℕ) (starts : List ℕ) (end : ℕ) → read ts ≡ Err n → IsPlace part ts starts end (slice_index_or starts (length ts - n) end)
  place_stuck ts n starts end f = go (read ts) f (e.told ts)
    where
      go : (o : Outcome K A) → o ≡ Err n → Told part ts o → IsPlace part ts starts end (slice_index_or starts (length ts - n) end)
      go (Ok got) h told = absurd (cc)
      go (Err m) h told =
          let same : m ≡ n = cc in
          place_after ts told.0 told.1 n starts end told.2 (told.3 ∙ same) (ap left f) told.4

  pub place_rest : (ts r : List K) (a : A) (starts : List ℕ) (end : ℕ) → read ts ≡ Ok (a, r) → IsPlace part ts starts end (slice_index_or starts (length ts - length r) end)
  place_rest ts r a starts end f = go (read ts) f (e.told ts)
    where
      go : (o : Outcome K A) → o ≡ Ok (a, r) → Told part ts o → IsPlace part ts starts end (slice_index_or starts (length ts - length r) end)
      go (Ok got) h told =
          let same : length got.1 ≡ length r = ap left h in
          let rest : ts ≡ told.0 ++ got.1 = told.1 in
          place_after ts told.0 got.1 (length r) starts end rest same (ap left f) (e.spelled told.0 got.0 told.2)
      go (Err m) h told = absurd (cc)

  pub stuck_fewer : (ts : List K) (n : ℕ) → read ts ≡ Err n → n ≤ length ts
  stuck_fewer ts n f = go (read ts) f (e.told ts)
    where
      go : (o : Outcome K A) → o ≡ Err n → Told part ts o → n ≤ length ts
      go (Ok got) h told = absurd (cc)
      go (Err m) h told = let same : m ≡ n = cc in omega (arith, ap length told.2, length-append told.0 told.1, told.3)

  pub rest_fewer : (ts r : List K) (a : A) → read ts ≡ Ok (a, r) → length r ≤ length ts
  rest_fewer ts r a f = let h = told_shorter part ts (read ts) (e.told ts) in omega (arith, h, ap left f)

  pub one_spelling : (ts : List K) (a b : A) → part.spells ts a → read ts ≡ Ok (b, []) → b ≡ a
  one_spelling ts a b sp f = ap value_of (sym f ∙ spelled_whole ts a sp)
    where
      value_of : Outcome K A → A
      value_of (Ok v) = v.0
      value_of (Err n) = a

  pub none_stuck : (ts : List K) (a : A) (n : ℕ) → part.spells ts a → read ts ≡ Err n → ⊥
  none_stuck ts a n sp f = let same = sym f ∙ spelled_whole ts a sp in absurd (cc)

  pub none_rest : (ts r : List K) (a b : A) → part.spells ts a → read ts ≡ Ok (b, r) → length r ≢ 0 → ⊥
  none_rest ts r a b sp f some = let same = sym f ∙ spelled_whole ts a sp in some (ap left same)
