-- Encodings that keep an order whatever follows, and the order of keys.
use Rattle.std.proofs.Common.{◌≡◌, ℕ, ◌^◌, ◌<◌, IsTrue, List, [], ◌∷◌, ◌++◌, length, refl, sym, ◌∙◌, append_assoc, arith}
use Rattle.std.proofs.lemmas.Nat.{from_be_bytes-to_be_bytes_4}
use Rattle.std.specs.List.{AllByRecursion}
use Rattle.std.specs.Int.{w32, to_be_bytes}
use Rattle.std.specs.declared.cmp.Ordering.{Ordering}
use Rattle.std.specs.Ordering.{nat_cmp, ordering_then}
use Rattle.base_lemmas.proofs.Orders.{ordering_then-assoc as then_assoc}
use Rattle.base_value.specs.Digits.{digits_value}
use Rattle.base_value.specs.Id.{is_id}
use Rattle.store_kv.specs.Tables.{bytes_cmp}
use Rattle.store_codec.specs.Plain.{number32, same_bytes}
use Rattle.store_codec.specs.PartLaws.{KeepsOrder}
use Rattle.store_codec.proofs.PlainLaws.{id_length}

-- as many digits of one base are ordered as the numbers that they spell, which a law of `base_value` says
abbrev pub DigitsOrdered : Type 0
DigitsOrdered = (base : ℕ) (xs ys : List ℕ) → AllByRecursion (λ d. d < base) xs → AllByRecursion (λ d. d < base) ys → length xs ≡ length ys → bytes_cmp xs ys ≡ nat_cmp (digits_value base xs) (digits_value base ys)

-- ---- encodings that keep an order, whatever follows

cmp_append : (a b x y : List ℕ) → length a ≡ length b → bytes_cmp (a ++ x) (b ++ y) ≡ ordering_then (bytes_cmp a b) (bytes_cmp x y)
cmp_append [] [] x y e = refl
cmp_append [] (d ∷ b) x y e = absurd (omega arith)
cmp_append (c ∷ a) [] x y e = absurd (omega arith)
cmp_append (c ∷ a) (d ∷ b) x y e = let l : length a ≡ length b = omega arith in rw (cmp_append a b x y l) (sym (then_assoc (nat_cmp c d) (bytes_cmp a b) (bytes_cmp x y)))

-- two parts in turn
abbrev pub both_cmp : {A B : Type 0} → (A → A → Ordering) → (B → B → Ordering) → A × B → A × B → Ordering
both_cmp R S p q = ordering_then (R p.0 q.0) (S p.1 q.1)

pub both_keep : {A B : Type 0} (R : A → A → Ordering) (S : B → B → Ordering) (F : A → Type 0) (G : B → Type 0) (f : A → List ℕ) (g : B → List ℕ) → KeepsOrder R F f → KeepsOrder S G g → KeepsOrder (both_cmp R S) (λ p. F p.0 × G p.1) (λ p. f p.0 ++ g p.1)
both_keep R S F G f g k l p q x y hp hq =
    rw (append_assoc (f p.0) (g p.1) x, append_assoc (f q.0) (g q.1) y, k p.0 q.0 (g p.1 ++ x) (g q.1 ++ y) hp.0 hq.0, l p.1 q.1 x y hp.1 hq.1) (sym (then_assoc (R p.0 q.0) (S p.1 q.1) (bytes_cmp x y)))

pub id_keeps : KeepsOrder bytes_cmp (λ (i : List ℕ). IsTrue (is_id i)) same_bytes
id_keeps a b x y fa fb = cmp_append a b x y (id_length a fa ∙ sym (id_length b fb))

pub number32_low : (n : ℕ) → AllByRecursion (λ d. d < 256) (to_be_bytes w32 n)
number32_low n = (omega arith, (omega arith, (omega arith, (omega arith, tt))))

module _ (ordered : DigitsOrdered) where
  -- digits of one number of places
  pub digits_keep : {A : Type 0} (B k : ℕ) (num : A → ℕ) (Fits : A → Type 0) (spell : A → List ℕ) → ((a : A) → Fits a → AllByRecursion (λ d. d < B) (spell a)) → ((a : A) → Fits a → length (spell a) ≡ k) → ((a : A) → Fits a → digits_value B (spell a) ≡ num a) → KeepsOrder (λ a b. nat_cmp (num a) (num b)) Fits spell
  digits_keep B k num Fits spell low len is a b x y fa fb =
      let l : length (spell a) ≡ length (spell b) = len a fa ∙ sym (len b fb) in
      rw (cmp_append (spell a) (spell b) x y l, ordered B (spell a) (spell b) (low a fa) (low b fb) l, is a fa, is b fb) refl

  number32_value : (n : ℕ) → n < 2 ^ 32 → digits_value 256 (to_be_bytes w32 n) ≡ n
  number32_value n h = omega (arith, from_be_bytes-to_be_bytes_4 n h)

  pub number32_keeps : KeepsOrder nat_cmp (λ n. n < 2 ^ 32) number32
  unfolding number32
  number32_keeps = digits_keep 256 4 (λ n. n) (λ n. n < 2 ^ 32) (to_be_bytes w32) (λ n h. number32_low n) (λ n h. refl) number32_value
