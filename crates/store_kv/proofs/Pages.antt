-- How much of the rows and of the entries the first rows of a merge need.
use Rattle.std.proofs.Common.{◌≡◌, ℕ, zero, suc, ◌+◌, ◌≤◌, List, [], ◌∷◌, length, take, Option, Some, None, Ordering, Less, Equal, Greater, refl, sym, ap, ◌∙◌, arith}
use Rattle.std.specs.Ordering.{match_ordering}
use Rattle.store_kv.specs.declared.keeper.KeptRow.{KeptRow}
use Rattle.store_kv.specs.Tables.{bytes_cmp}
use Rattle.store_kv.specs.Laid.{Entry, gap}
use Rattle.store_kv.specs.inner.Merging.{shown_at, shown_first, shown_rows, beside, merged, front, left, gaps}

abbrev SameFront : ℕ → List KeptRow → List KeptRow → Type 0
SameFront n xs ys = take n xs ≡ take n ys

take_none : (xs : List KeptRow) → take 0 xs ≡ []
take_none [] = refl
take_none (x ∷ xs) = refl

-- the first n of two lists with one head, and where the tails' first n-1 are the same
headed : (n : ℕ) (x : KeptRow) (xs ys : List KeptRow) → ((m : ℕ) → n ≡ suc m → SameFront m xs ys) → SameFront n (x ∷ xs) (x ∷ ys)
headed zero x xs ys h = refl
headed (suc n) x xs ys h = ap (λ l. x ∷ l) (h n refl)

beside_cut : (k : KeptRow) (ks : List KeptRow) (m : ℕ) → ((n : ℕ) (es : List Entry) → n + gaps es ≤ m → SameFront n (merged (take m ks) es) (merged ks es)) → (n : ℕ) (es : List Entry) → n + gaps es ≤ m + 1
    → SameFront n (beside k (merged (take m ks)) es) (beside k (merged ks) es)
beside_cut k ks m cut n [] fits = headed n k (merged (take m ks) []) (merged ks []) (λ l is. cut l [] (omega (arith, is, fits)))
beside_cut k ks m cut n (e ∷ es) fits = go (bytes_cmp k.key e.0.1) (λ l. beside_cut k ks m cut l es)
  where
    go : (o : Ordering) → ((l : ℕ) → l + gaps es ≤ m + 1 → SameFront l (beside k (merged (take m ks)) es) (beside k (merged ks) es))
        → SameFront n (match_ordering o (k ∷ merged (take m ks) (e ∷ es)) (shown_first e (merged (take m ks) es)) (shown_first e (beside k (merged (take m ks)) es)))
        (match_ordering o (k ∷ merged ks (e ∷ es)) (shown_first e (merged ks es)) (shown_first e (beside k (merged ks) es)))
    go Less later = headed n k (merged (take m ks) (e ∷ es)) (merged ks (e ∷ es)) (λ l is. cut l (e ∷ es) (omega (arith, is, fits)))
    go Equal later = by e.1 refl
      where
        by : (r : Option (List ℕ)) → e.1 ≡ r → SameFront n (shown_at e.0.1 r (merged (take m ks) es)) (shown_at e.0.1 r (merged ks es))
        by (Some r) is = headed n _ (merged (take m ks) es) (merged ks es) (λ l eq. cut l es (let g = ap gap is in omega (arith, eq, fits, g)))
        by None is = cut n es (let g = ap gap is in omega (arith, fits, g))
    go Greater later = by e.1 refl
      where
        by : (r : Option (List ℕ)) → e.1 ≡ r → SameFront n (shown_at e.0.1 r (beside k (merged (take m ks)) es)) (shown_at e.0.1 r (beside k (merged ks) es))
        by (Some r) is = headed n _ (beside k (merged (take m ks)) es) (beside k (merged ks) es) (λ l eq. later l (let g = ap gap is in omega (arith, eq, fits, g)))
        by None is = later n (let g = ap gap is in omega (arith, fits, g))

-- of the rows, as many as are asked for and one more for each gap
pub merged_cut : (ks : List KeptRow) (m n : ℕ) (es : List Entry) → n + gaps es ≤ m → SameFront n (merged (take m ks) es) (merged ks es)
merged_cut [] zero n es fits = refl
merged_cut [] (suc m) n es fits = refl
merged_cut (k ∷ ks) zero n es fits = none n (omega (arith, fits))
  where
    none : (n : ℕ) → n ≡ 0 → SameFront n (shown_rows es) (beside k (merged ks) es)
    none zero is = take_none (shown_rows es) ∙ sym (take_none (beside k (merged ks) es))
    none (suc n) is = absurd (omega (arith, is))
merged_cut (k ∷ ks) (suc m) n es fits = beside_cut k ks m (merged_cut ks m) n es (omega (arith, fits))

beside_front : (k : KeptRow) (rest : List Entry → List KeptRow) → ((m n : ℕ) (es : List Entry) → n ≤ m → SameFront n (rest (front m es)) (rest es)) → (es : List Entry) (m n : ℕ) → n ≤ m → SameFront n (beside k rest (front m es)) (beside k rest es)
beside_front k rest same [] m n fits = refl
beside_front k rest same (e ∷ es) zero n fits = none n (omega (arith, fits))
  where
    none : (n : ℕ) → n ≡ 0 → SameFront n (k ∷ rest []) (beside k rest (e ∷ es))
    none zero is = sym (take_none (beside k rest (e ∷ es)))
    none (suc n) is = absurd (omega (arith, is))
beside_front k rest same (e ∷ es) (suc m) n fits = go (bytes_cmp k.key e.0.1) (beside_front k rest same es)
  where
    go : (o : Ordering) → ((m n : ℕ) → n ≤ m → SameFront n (beside k rest (front m es)) (beside k rest es))
        → SameFront n (match_ordering o (k ∷ rest (e ∷ front (left e.1 m) es)) (shown_first e (rest (front (left e.1 m) es))) (shown_first e (beside k rest (front (left e.1 m) es))))
        (match_ordering o (k ∷ rest (e ∷ es)) (shown_first e (rest es)) (shown_first e (beside k rest es)))
    go Less later = headed n k (rest (e ∷ front (left e.1 m) es)) (rest (e ∷ es)) (λ l is. same (suc m) l (e ∷ es) (omega (arith, is, fits)))
    go Equal later = by e.1
      where
        by : (r : Option (List ℕ)) → SameFront n (shown_at e.0.1 r (rest (front (left r m) es))) (shown_at e.0.1 r (rest es))
        by (Some r) = headed n _ (rest (front m es)) (rest es) (λ l eq. same m l es (omega (arith, eq, fits)))
        by None = same (suc m) n es fits
    go Greater later = by e.1
      where
        by : (r : Option (List ℕ)) → SameFront n (shown_at e.0.1 r (beside k rest (front (left r m) es))) (shown_at e.0.1 r (beside k rest es))
        by (Some r) = headed n _ (beside k rest (front m es)) (beside k rest es) (λ l eq. later m l (omega (arith, eq, fits)))
        by None = later (suc m) n fits

shown_front : (es : List Entry) (m n : ℕ) → n ≤ m → SameFront n (shown_rows (front m es)) (shown_rows es)
shown_front [] m n fits = refl
shown_front (e ∷ es) zero n fits = none n (omega (arith, fits))
  where
    none : (n : ℕ) → n ≡ 0 → SameFront n [] (shown_rows (e ∷ es))
    none zero is = sym (take_none (shown_rows (e ∷ es)))
    none (suc n) is = absurd (omega (arith, is))
shown_front (e ∷ es) (suc m) n fits = by e.1 (shown_front es)
  where
    by : (r : Option (List ℕ)) → ((m n : ℕ) → n ≤ m → SameFront n (shown_rows (front m es)) (shown_rows es)) → SameFront n (shown_at e.0.1 r (shown_rows (front (left r m) es))) (shown_at e.0.1 r (shown_rows es))
    by (Some r) later = headed n _ (shown_rows (front m es)) (shown_rows es) (λ l eq. later m l (omega (arith, eq, fits)))
    by None later = later (suc m) n fits

-- of the entries, those up to the last row that is asked for
pub merged_front : (ks : List KeptRow) (m n : ℕ) (es : List Entry) → n ≤ m → SameFront n (merged ks (front m es)) (merged ks es)
merged_front [] m n es fits = shown_front es m n fits
merged_front (k ∷ ks) m n es fits = beside_front k (merged ks) (merged_front ks) es m n fits

shown_length : (k : List ℕ) (row : Option (List ℕ)) (rows : List KeptRow) → length rows + 1 ≡ length (shown_at k row rows) + gap row
shown_length k (Some r) rows = omega arith
shown_length k None rows = refl

-- no row is lost but at a gap
pub merged_length : (ks : List KeptRow) (es : List Entry) → length ks ≤ length (merged ks es) + gaps es
merged_length [] es = omega arith
merged_length (k ∷ ks) es = omega (arith, beside_length k ks (merged_length ks) es)
  where
    beside_length : (k : KeptRow) (ks : List KeptRow) → ((es : List Entry) → length ks ≤ length (merged ks es) + gaps es) → (es : List Entry) → length ks + 1 ≤ length (beside k (merged ks) es) + gaps es
    beside_length k ks has [] = omega (arith, has [])
    beside_length k ks has (e ∷ es) = go (bytes_cmp k.key e.0.1) (beside_length k ks has es)
      where
        go : (o : Ordering) → length ks + 1 ≤ length (beside k (merged ks) es) + gaps es
            → length ks + 1 ≤ length (match_ordering o (k ∷ merged ks (e ∷ es)) (shown_first e (merged ks es)) (shown_first e (beside k (merged ks) es))) + (gap e.1 + gaps es)
        go Less later = omega (arith, has (e ∷ es))
        go Equal later = omega (arith, has es, shown_length e.0.1 e.1 (merged ks es))
        go Greater later = omega (arith, later, shown_length e.0.1 e.1 (beside k (merged ks) es))
