-- Rows that are asked while a clock goes on.
use Rattle.std.proofs.Common.{◌≡◌, ◌∙◌, ℕ, zero, suc, ◌+◌, ◌≤◌, List, [], ◌∷◌, ◌++◌, drop, length, map, take, Option, Some, None, inl, inr, refl, sym, ap, arith, append-nil, append_assoc, take_all as short_taken}
use Rattle.std.proofs.lemmas.List.{drop_all, drop_more, length-append, length-map, map_push, drop_all as short_dropped}
use Rattle.std.proofs.lemmas.Option.{get_or_from_slice_get, slice_get_cases, slice_get_within}
use Rattle.std.specs.Prelude.{slice_get}
use Rattle.base_io.specs.Moments.{AskedOnce, IsFirstMoment, after_asking, or_first}
use Rattle.cmd_load.specs.Batches.{AskedInTurn, AskedRow, asked_rows, batch_rows}
use Rattle.cmd_load.specs.Inputs.{Cells}

-- a clock always tells a moment
no_less : (n : ℕ) (rows : List Cells) (moments : List ℕ) → asked_rows n rows (or_first moments) ≡ asked_rows n rows moments
unfolding asked_rows
no_less n [] moments = refl
no_less n (c ∷ rows) [] = ap (λ (rs : List AskedRow). record { number = n; cells = c; moment = 0 } ∷ rs) (no_less (n + 1) rows [])
no_less n (c ∷ rows) (m ∷ moments) = refl

behind_first : (now : ℕ) (later : List ℕ) → after_asking (now ∷ or_first later) ≡ or_first later
behind_first now [] = refl
behind_first now (m ∷ later) = refl

-- one row
pub one_asked : (old new : Option (List ℕ)) (n now : ℕ) (cells : Cells) → IsFirstMoment old now → AskedOnce old new → AskedInTurn old new n (record { number = n; cells = cells; moment = now } ∷ [])
unfolding asked_rows
one_asked None new n now cells first asked later may = (
  now ∷ or_first later,
  tt,
  λ rest. ap (λ (rs : List AskedRow). record { number = n; cells = cells; moment = now } ∷ rs)
      (ap (asked_rows (n + 1) rest) (behind_first now later) ∙ no_less (n + 1) rest later),
)
one_asked (Some []) new n now cells first asked later may = absurd first
one_asked (Some (m ∷ moments)) None n now cells first asked later may = absurd asked
one_asked (Some (m ∷ moments)) (Some left) n now cells first asked later may = (
  m ∷ moments,
  refl,
  λ rest. ap (λ (k : ℕ). record { number = n; cells = cells; moment = k } ∷ asked_rows (n + 1) rest (after_asking (m ∷ moments))) (sym first)
      ∙ ap (λ (ms : List ℕ). record { number = n; cells = cells; moment = now } ∷ asked_rows (n + 1) rest ms) (sym (may ∙ asked)),
)

-- none
pub none_asked : (told : Option (List ℕ)) (n : ℕ) → AskedInTurn told told n []
none_asked told n later may = (later, may, λ rest. let same : n ≡ n + 0 = omega arith in ap (λ (k : ℕ). asked_rows k rest later) same)

-- one more
pub asked_more : (a b c : Option (List ℕ)) (n m : ℕ) (rows : List AskedRow) (row : AskedRow) → m ≡ n + length rows → AskedInTurn a b n rows → AskedInTurn b c m (row ∷ []) → AskedInTurn a c n (rows ++ row ∷ [])
asked_more a b c n m rows row at first second later may =
    let after = second later may in
    let before = first after.0 after.1 in (
      before.0,
      before.1,
      λ rest.
          let long = length-append rows (row ∷ []) in
          let end : m + 1 ≡ n + length (rows ++ row ∷ []) = omega (arith, at, long) in
          ap (λ (cs : List Cells). asked_rows n cs before.0) (ap (λ (cs : List Cells). cs ++ rest) (map_push (λ (r : AskedRow). r.cells) rows row) ∙ append_assoc (map (λ (r : AskedRow). r.cells) rows) (row.cells ∷ []) rest)
          ∙ (before.2 (row.cells ∷ rest)
          ∙ (ap (λ (k : ℕ). rows ++ asked_rows k (row.cells ∷ rest) after.0) (sym at)
          ∙ (ap (λ (rs : List AskedRow). rows ++ rs) (after.2 rest)
          ∙ (ap (λ (k : ℕ). rows ++ row ∷ asked_rows k rest later) end
          ∙ sym (append_assoc rows (row ∷ []) (asked_rows (n + length (rows ++ row ∷ [])) rest later)))))),
    )

-- ---- a batch of them

-- the first so many, and those behind them
pub front_taken : {X : Type 0} (n : ℕ) (xs ys : List X) → length xs ≡ n → take n (xs ++ ys) ≡ xs
front_taken zero [] ys is = refl
front_taken zero (x ∷ xs) ys is = absurd (omega (arith, is))
front_taken (suc n) [] ys is = absurd (omega (arith, is))
front_taken (suc n) (x ∷ xs) ys is = ap (λ zs. x ∷ zs) (front_taken n xs ys (omega (arith, is)))

pub front_dropped : {X : Type 0} (n : ℕ) (xs ys : List X) → length xs ≡ n → drop n (xs ++ ys) ≡ ys
front_dropped zero [] ys is = refl
front_dropped zero (x ∷ xs) ys is = absurd (omega (arith, is))
front_dropped (suc n) [] ys is = absurd (omega (arith, is))
front_dropped (suc n) (x ∷ xs) ys is = front_dropped n xs ys (omega (arith, is))

-- ---- the rows of a text

-- one is there, or none
pub one_there : (xs : List Cells) (i : ℕ) (x : Cells) → Some x ≡ slice_get xs i → drop i xs ≡ x ∷ drop (i + 1) xs
one_there xs i x e = drop_more xs i x (slice_get_within xs i x (sym e)) ∙ ap (λ (y : Cells). y ∷ drop (i + 1) xs) (get_or_from_slice_get xs i x x (sym e))

pub none_there : (xs : List Cells) (i : ℕ) → None ≡ slice_get xs i → drop i xs ≡ []
none_there xs i e = elim (slice_get_cases xs i).1 [ inl (x, lt, is, same) ↦ absurd (differ x (e ∙ is)) | inr (past, is) ↦ drop_all i xs past ]
  where
    differ : (x : Cells) → ◌≡◌ {A = Option Cells} None (Some x) → ⊥
    differ x e = cc

-- all are read, within a batch
pub last_cells : (rows : List AskedRow) (left all : List Cells) → map (λ (r : AskedRow). r.cells) rows ++ left ≡ all → left ≡ [] → length rows ≤ batch_rows → map (λ (r : AskedRow). r.cells) rows ≡ take batch_rows all
last_cells rows left all are none few =
    let long = length-map rows (λ (r : AskedRow). r.cells) in
    sym (short_taken batch_rows (map (λ (r : AskedRow). r.cells) rows) (omega (arith, long, few)))
    ∙ ap (take batch_rows) (sym (append-nil (map (λ (r : AskedRow). r.cells) rows)) ∙ (ap (λ (cs : List Cells). map (λ (r : AskedRow). r.cells) rows ++ cs) (sym none) ∙ are))

pub last_left : (rows : List AskedRow) (left all : List Cells) → map (λ (r : AskedRow). r.cells) rows ++ left ≡ all → left ≡ [] → length rows ≤ batch_rows → left ≡ drop batch_rows all
last_left rows left all are none few =
    let long = length-map rows (λ (r : AskedRow). r.cells) in
    none
    ∙ (sym (short_dropped batch_rows (map (λ (r : AskedRow). r.cells) rows) (omega (arith, long, few)))
    ∙ ap (drop batch_rows) (sym (append-nil (map (λ (r : AskedRow). r.cells) rows)) ∙ (ap (λ (cs : List Cells). map (λ (r : AskedRow). r.cells) rows ++ cs) (sym none) ∙ are)))

-- a whole batch
pub whole_cells : (rows : List AskedRow) (left all : List Cells) → map (λ (r : AskedRow). r.cells) rows ++ left ≡ all → length rows ≡ batch_rows → map (λ (r : AskedRow). r.cells) rows ≡ take batch_rows all
whole_cells rows left all are whole = sym (front_taken batch_rows (map (λ (r : AskedRow). r.cells) rows) left (length-map rows (λ (r : AskedRow). r.cells) ∙ whole)) ∙ ap (take batch_rows) are

pub whole_left : (rows : List AskedRow) (left all : List Cells) → map (λ (r : AskedRow). r.cells) rows ++ left ≡ all → length rows ≡ batch_rows → left ≡ drop batch_rows all
whole_left rows left all are whole = sym (front_dropped batch_rows (map (λ (r : AskedRow). r.cells) rows) left (length-map rows (λ (r : AskedRow). r.cells) ∙ whole)) ∙ ap (drop batch_rows) are

-- one row more
pub cells_more : (rows : List AskedRow) (row : AskedRow) (left rest all : List Cells) → map (λ (r : AskedRow). r.cells) rows ++ left ≡ all → left ≡ row.cells ∷ rest → map (λ (r : AskedRow). r.cells) (rows ++ row ∷ []) ++ rest ≡ all
cells_more rows row left rest all are is =
    ap (λ (cs : List Cells). cs ++ rest) (map_push (λ (r : AskedRow). r.cells) rows row)
    ∙ (append_assoc (map (λ (r : AskedRow). r.cells) rows) (row.cells ∷ []) rest ∙ (ap (λ (cs : List Cells). map (λ (r : AskedRow). r.cells) rows ++ cs) (sym is) ∙ are))
