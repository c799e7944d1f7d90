-- A walk in pages.
use Rattle.std.proofs.Common.{◌≡◌, ℕ, zero, suc, ◌-◌, ◌<◌, List, [], ◌∷◌, ◌++◌, length, take, drop, Some, None, refl, sym, ap, ◌∙◌, append_assoc, arith}
use Rattle.std.specs.List.{slice_get}
use Rattle.std.proofs.lemmas.List.{take-append-drop}
use Rattle.store_kv.specs.declared.keeper.KeptRow.{KeptRow}
use Rattle.store_kv.specs.Tables.{Tables, rows_between}
use Rattle.store_kv.proofs.Walk.{page_rest}
use Rattle.store_kv.proofs.Ranges.{append_one}

split_last : (xs : List KeptRow) (x : KeptRow) → slice_get xs (length xs - 1) ≡ Some x → (front : List KeptRow) × (xs ≡ front ++ x ∷ [])
split_last [] x h = absurd cc
split_last (y ∷ []) x h = let same : y ≡ x = cc in ([], ap (λ z. z ∷ []) same)
split_last (y ∷ z ∷ xs) x h =
    let n : length (y ∷ z ∷ xs) - 1 ≡ suc (length (z ∷ xs) - 1) = omega arith in
    let later = split_last (z ∷ xs) x (ap (slice_get (y ∷ z ∷ xs)) (sym n) ∙ h) in
    (y ∷ later.0, ap (λ l. y ∷ l) later.1)

-- the rows of a page, and then those from the least key above its last
pub page_step : (m : Tables) (t : ℕ) (next below : List ℕ) (page : ℕ) (rows : List KeptRow) (last : KeptRow) → rows ≡ take page (rows_between m t next below) → slice_get rows (length rows - 1) ≡ Some last
    → rows ++ rows_between m t (last.key ++ 0 ∷ []) below ≡ rows_between m t next below
page_step m t next below page rows last is at =
    let parts = split_last rows last at in
    let all = rows_between m t next below in
    let joined : rows ++ drop page all ≡ all = ap (λ l. l ++ drop page all) is ∙ take-append-drop page all in
    let apart : all ≡ parts.0 ++ last ∷ drop page all = sym joined ∙ ap (λ l. l ++ drop page all) parts.1 ∙ append_one parts.0 last (drop page all) in
    ap (λ l. rows ++ l) (page_rest m t next below parts.0 last (drop page all) apart) ∙ joined

-- the rows that are read so far and those that are not are the same before a page and after it
pub page_on : (m : Tables) (t : ℕ) (next below : List ℕ) (page : ℕ) (rows : List KeptRow) (last : KeptRow) (all more whole : List KeptRow) → rows ≡ take page (rows_between m t next below) → slice_get rows (length rows - 1) ≡ Some last
    → more ≡ all ++ rows → all ++ rows_between m t next below ≡ whole → more ++ rows_between m t (last.key ++ 0 ∷ []) below ≡ whole
page_on m t next below page rows last all more whole is at joined before =
    let rest = rows_between m t (last.key ++ 0 ∷ []) below in
    ap (λ l. l ++ rest) joined ∙ append_assoc all rows rest ∙ ap (λ l. all ++ l) (page_step m t next below page rows last is at) ∙ before

-- an empty page is the end
pub page_end : (m : Tables) (t : ℕ) (next below : List ℕ) (page : ℕ) (rows : List KeptRow) → 0 < page → rows ≡ take page (rows_between m t next below) → slice_get rows (length rows - 1) ≡ None → rows_between m t next below ≡ []
page_end m t next below page rows some is at = go (rows_between m t next below) page some (ap (λ (l : List KeptRow). slice_get l (length l - 1)) (sym is) ∙ at)
  where
    full : (x : KeptRow) (xs : List KeptRow) → slice_get (x ∷ xs) (length (x ∷ xs) - 1) ≡ None → ⊥
    full x [] h = absurd cc
    full x (y ∷ xs) h = let n : length (x ∷ y ∷ xs) - 1 ≡ suc (length (y ∷ xs) - 1) = omega arith in full y xs (ap (slice_get (x ∷ y ∷ xs)) (sym n) ∙ h)

    go : (all : List KeptRow) (page : ℕ) → 0 < page → slice_get (take page all) (length (take page all) - 1) ≡ None → all ≡ []
    go [] page some h = refl
    go (x ∷ all) zero some h = absurd (omega (arith, some))
    go (x ∷ all) (suc page) some h = absurd (full x (take page all) h)
