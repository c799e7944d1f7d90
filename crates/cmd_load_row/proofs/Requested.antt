-- The request of a row, by its plan.
use Rattle.std.proofs.Common.{◌≡◌, ℕ, Bor, List, [], ◌∷◌, length, map, Option, Some, None, refl, sym, ap, ◌∙◌, arith}
use Rattle.std.specs.Str.{chars}
use Rattle.cmd_load_plan.specs.Rows.{given_row, row_request, upsert_row}
use Rattle.cmd_load_plan.specs.declared.plan.LoadColumn.{LoadColumn}
use Rattle.cmd_load_plan.specs.declared.plan.LoadPlan.{LoadPlan}
use Rattle.model.specs.Cases.{in_case}
use Rattle.model_requests.specs.Requests.{creates, upserts}

abbrev Cells : Type 0
Cells = List (Bor (List ℕ))

abbrev pub texts : Cells → List (List ℕ)
texts cells = map (λ c. c.now) cells

module _ (object key : List ℕ) where
  -- without a first cell
  pub without_columns : (columns : List LoadColumn) (cells : Cells) → length columns ≡ 0 → upserts object key None (given_row columns (texts cells)) ≡ upsert_row object key columns (texts cells)
  unfolding given_row
  without_columns [] [] e = refl
  without_columns [] (c ∷ cells) e = refl
  without_columns (c ∷ columns) cells e = absurd (omega arith)

  pub without_cells : (columns : List LoadColumn) (cells : Cells) → length cells ≡ 0 → upserts object key None (given_row columns (texts cells)) ≡ upsert_row object key columns (texts cells)
  unfolding given_row
  without_cells [] [] e = refl
  without_cells (c ∷ columns) [] e = refl
  without_cells columns (c ∷ cells) e = absurd (omega arith)

  -- by the first cell
  pub by_first : (columns others : List LoadColumn) (column : LoadColumn) (cells rest : Cells) (cell : Bor (List ℕ)) (text : List ℕ) → columns ≡ column ∷ others → cells ≡ cell ∷ rest → text ≡ chars cell.now
      → upserts object key (Some text) (given_row others (texts rest)) ≡ upsert_row object key columns (texts cells)
  by_first columns others column cells rest cell text split cut is =
      ap (λ (t : List ℕ). upserts object key (Some t) (given_row others (texts rest))) is
      ∙ sym (ap (λ (cs : List LoadColumn). upsert_row object key cs (texts cells)) split ∙ ap (λ (xs : Cells). upsert_row object key (column ∷ others) (texts xs)) cut)

module _ (p : LoadPlan) (cells : List (List ℕ)) where
  pub without_key : p.key ≡ None → creates p.object (given_row p.columns cells) ≡ row_request p cells
  without_key e = ap (λ (k : Option (List ℕ)). in_case k (creates p.object (given_row p.columns cells)) (λ key. upsert_row p.object key p.columns cells)) (sym e)

  pub with_key : (key : List ℕ) → p.key ≡ Some key → upsert_row p.object key p.columns cells ≡ row_request p cells
  with_key key e = ap (λ (k : Option (List ℕ)). in_case k (creates p.object (given_row p.columns cells)) (λ key. upsert_row p.object key p.columns cells)) (sym e)
