-- Rows that are numbered from 0, as the objects of an organisation and the fields of an object are, in the order of their keys.
use Rattle.std.proofs.Common.{◌≡◌, ℕ, zero, suc, ◌+◌, ◌<◌, ◌≤◌, true, T, IsTrue, Option, Some, List, [], ◌∷◌, length, refl, sym, ap, subst, ◌∙◌, inl, inr, map, arith}
use Rattle.std.specs.Prelude.{slice_get}
use Rattle.std.specs.List.{enumerate_from}
use Rattle.std.specs.Ordering.{is_lt}
use Rattle.std.specs.FinMap.{is_sorted}
use Rattle.std.specs.FinMap.Entries.{below_all}
use Rattle.base_lemmas.proofs.Bools.{T-and_from as both_hold, T-and_from_true as both_so}
use Rattle.std.proofs.lemmas.Option.{same_Some as some_is}
use Rattle.store_codec.specs.Shapes.{Val, spelled}
use Rattle.store_kv.specs.Tables.{Has, bytes_cmp, is_between}
use Rattle.store_rows.specs.Forms.{FitsForm, Form, key_bytes, row_bytes}
use Rattle.store_rows.specs.Keys.{FitsKey, Key, spell}
use Rattle.store_rows.specs.Listings.{ListsBetween, with_key}

-- the rows of a list, made of their numbers and its elements
abbrev pub made_from : {U X : Type 0} → (ℕ → X → U) → ℕ → List X → List U
made_from {U = U} {X = X} make n xs = map (λ (p : ℕ × X). make p.0 p.1) (enumerate_from n xs)

-- the rows of an interval are those of a list, each at the key of its number
pub record AreNumbered {U X : Type 0} (f : Form U) (rows : Key → Option (List ℕ)) (from below : List ℕ) (key : ℕ → Val f.key) (make : ℕ → X → U) (xs : List X) : Type 0 where
  pub keyed : (i : ℕ) (x : X) → f.keyed (make i x) ≡ key i
  pub rises : (i j : ℕ) → i < j → j < length xs → is_lt (bytes_cmp (spelled f.key (key i)) (spelled f.key (key j))) ≡ true
  pub fits : (i : ℕ) (x : X) → slice_get xs i ≡ Some x → FitsForm f (make i x)
  pub inside : (i : ℕ) (x : X) → slice_get xs i ≡ Some x → is_between from below (spelled f.key (key i)) ≡ true
  pub there : (i : ℕ) (x : X) → slice_get xs i ≡ Some x → rows (f.named (key i)) ≡ Some (row_bytes f (make i x))
  pub only : (k : Key) (row : List ℕ) → FitsKey k → (spell k).0 ≡ f.table → IsTrue (is_between from below (spell k).1) → rows k ≡ Some row → (i : ℕ) × (x : X) × (slice_get xs i ≡ Some x) × (f.named (key i) ≡ k)

module _ {U X : Type 0} (f : Form U) (key : ℕ → Val f.key) (make : ℕ → X → U) where
  -- an element of the rows, and its number
  has_number : (n : ℕ) (xs : List X) (u : U) → Has (made_from make n xs) u → (i : ℕ) × (x : X) × (slice_get xs i ≡ Some x) × (u ≡ make (n + i) x)
  has_number n [] u h = absurd h
  has_number n (x ∷ xs) u (inl e) = (0, x, refl, e ∙ ap (λ (k : ℕ). make k x) (omega arith))
  has_number n (x ∷ xs) u (inr h) =
      let it = has_number (n + 1) xs u h in
      (suc it.0, it.1, it.2, it.3 ∙ ap (λ (k : ℕ). make k it.1) (omega arith))

  number_has : (n : ℕ) (xs : List X) (i : ℕ) (x : X) → slice_get xs i ≡ Some x → Has (made_from make n xs) (make (n + i) x)
  number_has n [] i x e = absurd cc
  number_has n (y ∷ ys) zero x e = inl (here (some_is y x e))
    where
      here : y ≡ x → make (n + 0) x ≡ make n y
      here same = ap (λ (k : ℕ). make k x) (omega arith) ∙ ap (make n) (sym same)
  number_has n (y ∷ ys) (suc i) x e =
      inr (subst (λ (k : ℕ). Has (made_from make (n + 1) ys) (make k x)) (omega arith) (number_has (n + 1) ys i x e))

  module _ (most : ℕ) (keyed : (i : ℕ) (x : X) → f.keyed (make i x) ≡ key i) (rises : (i j : ℕ) → i < j → j < most → is_lt (bytes_cmp (spelled f.key (key i)) (spelled f.key (key j))) ≡ true) where
    below_made : (i n : ℕ) (xs : List X) → i < n → n + length xs ≤ most → T (below_all bytes_cmp (spelled f.key (key i)) (map (with_key f) (made_from make n xs)))
    below_made i n [] lt h = tt
    below_made i n (x ∷ xs) lt h =
        both_so (is_lt (bytes_cmp (spelled f.key (key i)) (key_bytes f (make n x)))) (below_all bytes_cmp (spelled f.key (key i)) (map (with_key f) (made_from make (n + 1) xs)))
        (subst (λ (k : Val f.key). is_lt (bytes_cmp (spelled f.key (key i)) (spelled f.key k)) ≡ true) (sym (keyed n x)) (rises i n lt (omega (arith, h))))
        (below_made i (n + 1) xs (omega (arith, lt)) (omega (arith, h)))

    sorted_made : (n : ℕ) (xs : List X) → n + length xs ≤ most → T (is_sorted bytes_cmp (map (with_key f) (made_from make n xs)))
    sorted_made n [] h = tt
    sorted_made n (x ∷ xs) h =
        both_hold (below_all bytes_cmp (key_bytes f (make n x)) (map (with_key f) (made_from make (n + 1) xs))) (is_sorted bytes_cmp (map (with_key f) (made_from make (n + 1) xs)))
        (subst (λ (k : Val f.key). T (below_all bytes_cmp (spelled f.key k) (map (with_key f) (made_from make (n + 1) xs)))) (sym (keyed n x)) (below_made n (n + 1) xs (omega arith) (omega (arith, h))))
        (sorted_made (n + 1) xs (omega (arith, h)))

  -- so they are listed in their order
  pub numbered_lists : (rows : Key → Option (List ℕ)) (from below : List ℕ) (xs : List X) → AreNumbered f rows from below key make xs → ListsBetween f rows from below (made_from make 0 xs)
  numbered_lists rows from below xs h = record {
    rises = sorted_made (length xs) h.keyed h.rises 0 xs (omega arith);
    sound = λ u has.
        let it = has_number 0 xs u has in
        let i = it.0 in
        let x = it.1 in
        let is : u ≡ make i x = it.3 ∙ ap (λ (k : ℕ). make k x) (omega arith) in
        subst (λ (v : U). FitsForm f v × IsTrue (is_between from below (key_bytes f v)) × (rows (f.named (f.keyed v)) ≡ Some (row_bytes f v))) (sym is) (
          h.fits i x it.2,
          subst (λ (k : Val f.key). is_between from below (spelled f.key k) ≡ true) (sym (h.keyed i x)) (h.inside i x it.2),
          ap (λ (k : Val f.key). rows (f.named k)) (h.keyed i x) ∙ h.there i x it.2,
        );
    complete = λ k row fits table inside e.
        let it = h.only k row fits table inside e in
        let i = it.0 in
        let x = it.1 in
        let has : Has (made_from make 0 xs) (make i x) = subst (λ (n : ℕ). Has (made_from make 0 xs) (make n x)) (omega arith) (number_has 0 xs i x it.2) in
        (make i x, has, ap f.named (h.keyed i x) ∙ it.3);
  }
