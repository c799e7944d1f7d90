-- The text of cells that need no quotes.
use Rattle.std.proofs.Common.{◌≡◌, ◌∙◌, ◌==◌, Bool, false, List, [], ◌∷◌, ◌++◌, ℕ, ap, length, sym, refl, append-nil, append_assoc}
use Rattle.std.specs.Prelude.{if◌then◌else◌}
use Rattle.csv.specs.Writing.{default_writer, field_text, fields_text, is_blank, needs_quotes, quoted, row_body, row_text}

-- a cell that needs none is its own text
plain : (cell : List ℕ) → needs_quotes default_writer cell ≡ false → field_text default_writer cell ≡ cell
plain cell e = ap (λ (b : Bool). if b then quoted default_writer cell else cell) e

-- one cell more
pub one_more : (text cell : List ℕ) (rest : List (List ℕ)) → needs_quotes default_writer cell ≡ false → ((text ++ (44 ∷ [])) ++ cell) ++ fields_text default_writer rest ≡ text ++ fields_text default_writer (cell ∷ rest)
unfolding fields_text
one_more text cell rest e =
    append_assoc (text ++ (44 ∷ [])) cell (fields_text default_writer rest)
    ∙ (append_assoc text (44 ∷ []) (cell ++ fields_text default_writer rest)
    ∙ ap (λ (t : List ℕ). text ++ (44 ∷ (t ++ fields_text default_writer rest))) (sym (plain cell e)))

-- none is left
pub ended : (text : List ℕ) → text ++ fields_text default_writer [] ≡ text
unfolding fields_text
ended text = append-nil text

-- the end of a record of more cells than one
pub whole : (first : List ℕ) (rest : List (List ℕ)) → (length rest == 0) ≡ false → row_body default_writer (first ∷ rest) ++ (10 ∷ []) ≡ row_text default_writer (first ∷ rest)
unfolding is_blank
whole first [] e = absurd cc
whole first (next ∷ rest) e = refl
