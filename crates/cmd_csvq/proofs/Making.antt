-- One verdict after the other.
use Rattle.std.proofs.Common.{◌≡◌, ◌∙◌, ◌<◌, ◌≤◌, ℕ, ◌+◌, Bool, true, false, cond, List, [], ◌∷◌, drop, get_or, length, map, Option, Some, None, Result, Ok, Err, IsTrue, refl, sym, ap, subst}
use Rattle.std.proofs.lemmas.Bool.{eqb-true}
use Rattle.std.proofs.lemmas.List.{at_drop_all, at_drop_more}
use Rattle.std.specs.Prelude.{◌==◌}
use Rattle.csv.specs.Records.{Row, fields_of}
use Rattle.store_kv.specs.Draft.{Held}
use Rattle.store_kv.specs.Memory.{InMemory}
use Rattle.std.specs.Str.{chars}
use Rattle.model.specs.Cases.{in_case}
use Rattle.model.specs.Creates.{create}
use Rattle.model.specs.NewFields.{add_field}
use Rattle.model.specs.Paths.{Asked}
use Rattle.model.specs.Verdict.{Verdict}
use Rattle.model.specs.declared.record_bodies.Assignment.{Assignment}
use Rattle.model.specs.declared.refusal.Refusal.{Refusal}
use Rattle.cmd_sandbox.specs.Making.{IsOwned}
use Rattle.cmd_sandbox.specs.Own.{past, refusal_of}
use Rattle.cmd_csvq.specs.Organisation.{given_of, is_name_cell, new_column, new_rows, object_name, with_columns, with_rows}
use Rattle.cmd_csvq.specs.inner.Making.{Goes}
use Rattle.model_invariant.specs.Fit.{is_fit_field, is_fit_object}

-- ---- what is asked for has its form

pub object_fits : IsTrue (is_fit_object new_rows)
unfolding chars
object_fits = refl

pub column_fits : (name : List ℕ) → IsTrue (is_fit_field (new_column name))
unfolding chars
column_fits name = refl

-- ---- columns

-- what a cell comes to, and those behind it
abbrev after_cell : (named name : Bool) → Asked → (cell : List ℕ) → Option Refusal → (cells : List (List ℕ)) → Result Asked (List ℕ)
after_cell named name a cell refused cells =
    cond name (cond named (Err (chars cell)) (with_columns true a cells))
    (in_case refused (with_columns named (past a (add_field a.tenant (new_column (chars cell)))) cells) (λ why. Err (chars cell)))

module _ (a : Asked) (cell : List ℕ) (cells : List (List ℕ)) where
  cell_comes : (named : Bool) → with_columns named a (cell ∷ cells) ≡ after_cell named (is_name_cell cell) a cell (refusal_of (add_field a.tenant (new_column (chars cell))).answer) cells
  unfolding with_columns
  cell_comes named = refl

  pub first_name : true ≡ is_name_cell cell → with_columns false a (cell ∷ cells) ≡ with_columns true a cells
  first_name is = cell_comes false ∙ ap (λ (b : Bool). after_cell false b a cell (refusal_of (add_field a.tenant (new_column (chars cell))).answer) cells) (sym is)

  pub second_name : true ≡ is_name_cell cell → with_columns true a (cell ∷ cells) ≡ Err (chars cell)
  second_name is = cell_comes true ∙ ap (λ (b : Bool). after_cell true b a cell (refusal_of (add_field a.tenant (new_column (chars cell))).answer) cells) (sym is)

  by_field : (named : Bool) (refused : Option Refusal) → false ≡ is_name_cell cell → refusal_of (add_field a.tenant (new_column (chars cell))).answer ≡ refused
      → with_columns named a (cell ∷ cells) ≡ in_case refused (with_columns named (past a (add_field a.tenant (new_column (chars cell)))) cells) (λ why. Err (chars cell))
  by_field named refused is e =
      cell_comes named ∙ ap (λ (b : Bool). after_cell named b a cell (refusal_of (add_field a.tenant (new_column (chars cell))).answer) cells) (sym is)
      ∙ ap (λ (x : Option Refusal). after_cell named false a cell x cells) e

  pub new_field_made : (named : Bool) → false ≡ is_name_cell cell → refusal_of (add_field a.tenant (new_column (chars cell))).answer ≡ None
      → with_columns named a (cell ∷ cells) ≡ with_columns named (past a (add_field a.tenant (new_column (chars cell)))) cells
  new_field_made named is e = by_field named None is e

  pub no_column : (named : Bool) (why : Refusal) → false ≡ is_name_cell cell → refusal_of (add_field a.tenant (new_column (chars cell))).answer ≡ Some why
      → with_columns named a (cell ∷ cells) ≡ Err (chars cell)
  no_column named why is e = by_field named (Some why) is e

-- ---- rows

module _ (heading : List (List ℕ)) (number : ℕ) (a : Asked) (row : List (List ℕ)) (rows : List (List (List ℕ))) where
  pub row_comes : (refused : Option Refusal) → refusal_of (create a object_name (given_of heading row)).answer ≡ refused
      → with_rows heading number a (row ∷ rows) ≡ in_case refused (with_rows heading (number + 1) (past a (create a object_name (given_of heading row))) rows) (λ why. Err (number, why))
  unfolding with_rows
  row_comes refused e =
      ap (λ (x : Option Refusal). in_case x (with_rows heading (number + 1) (past a (create a object_name (given_of heading row))) rows) (λ why. Err (number, why))) e

-- ---- at the end of a heading and of rows

pub columns_end : (now : ℕ) (m : Held InMemory) (a b : Asked) (cells : List (List ℕ)) (n : ℕ) (named : Bool) → length cells ≤ n
    → with_columns named b (drop n cells) ≡ with_columns false a cells → IsOwned now m b → Goes now m (with_columns false a cells) (Ok None)
unfolding with_columns
columns_end now m a b cells n named le e made =
    subst (λ (r : Result Asked (List ℕ)). Goes now m r (Ok None)) (sym (at_drop_all (λ (rest : List (List ℕ)). with_columns named b rest) cells n le) ∙ e) made

pub columns_stop : (now : ℕ) (m : Held InMemory) (a b : Asked) (cells : List (List ℕ)) (n : ℕ) (named : Bool) (cell text : List ℕ)
    → drop n cells ≡ cell ∷ drop (n + 1) cells → ((rest : List (List ℕ)) → with_columns named b (cell ∷ rest) ≡ Err (chars cell))
    → with_columns named b (drop n cells) ≡ with_columns false a cells → text ≡ chars cell → Goes now m (with_columns false a cells) (Ok (Some text))
columns_stop now m a b cells n named cell text split none e is =
    subst (λ (r : Result Asked (List ℕ)). Goes now m r (Ok (Some text))) (sym (none (drop (n + 1) cells)) ∙ ap (with_columns named b) (sym split) ∙ e) is

abbrev RowsMade : Type 0
RowsMade = Result Asked (ℕ × Refusal)

pub rows_end : (now : ℕ) (m : Held InMemory) (heading : List (List ℕ)) (a b : Asked) (rows : List Row) (n : ℕ) → length rows ≤ n
    → with_rows heading (n + 1) b (map fields_of (drop n rows)) ≡ with_rows heading 1 a (map fields_of rows) → IsOwned now m b
    → Goes now m (with_rows heading 1 a (map fields_of rows)) (Ok None)
unfolding with_rows
rows_end now m heading a b rows n le e made =
    subst (λ (r : RowsMade). Goes now m r (Ok None)) (sym (at_drop_all (λ (rest : List Row). with_rows heading (n + 1) b (map fields_of rest)) rows n le) ∙ e) made

module _ (now : ℕ) (heading : List (List ℕ)) (a b : Asked) (rows : List Row) (n : ℕ) (row : Row) (lt : n < length rows) (at : row ≡ get_or rows n row)
    (e : with_rows heading (n + 1) b (map fields_of (drop n rows)) ≡ with_rows heading 1 a (map fields_of rows)) where
  abbrev pub its_verdict : Verdict
  its_verdict = create b object_name (given_of heading (fields_of row))

  split : with_rows heading (n + 1) b (map fields_of (drop n rows)) ≡ with_rows heading (n + 1) b (fields_of row ∷ map fields_of (drop (n + 1) rows))
  split =
      at_drop_more (λ (rest : List Row). with_rows heading (n + 1) b (map fields_of rest)) rows n row lt
      ∙ ap (λ (r : Row). with_rows heading (n + 1) b (fields_of r ∷ map fields_of (drop (n + 1) rows))) (sym at)

  pub rows_on : refusal_of its_verdict.answer ≡ None → with_rows heading ((n + 1) + 1) (past b its_verdict) (map fields_of (drop (n + 1) rows)) ≡ with_rows heading 1 a (map fields_of rows)
  rows_on none = sym (row_comes heading (n + 1) b (fields_of row) (map fields_of (drop (n + 1) rows)) None none) ∙ sym split ∙ e

  pub rows_stop : (m : Held InMemory) (why : Refusal) (number : ℕ) → number ≡ n + 1 → refusal_of its_verdict.answer ≡ Some why
      → Goes now m (with_rows heading 1 a (map fields_of rows)) (Ok (Some (number, why)))
  rows_stop m why number is refused =
      subst (λ (r : RowsMade). Goes now m r (Ok (Some (number, why))))
      (sym (row_comes heading (n + 1) b (fields_of row) (map fields_of (drop (n + 1) rows)) (Some why) refused) ∙ sym split ∙ e)
      (ap (λ (k : ℕ). (k, why)) is)

-- ---- no rows, and rows of an object that isn't there

pub no_rows : (now : ℕ) (m : Held InMemory) (heading : List (List ℕ)) (a : Asked) (rows : List Row) → (length rows == 0) ≡ true → IsOwned now m a
    → Goes now m (with_rows heading 1 a (map fields_of rows)) (Ok None)
unfolding with_rows
no_rows now m heading a [] none made = made
no_rows now m heading a (row ∷ rows) none made = let e : length (row ∷ rows) ≡ 0 = eqb-true (length (row ∷ rows)) 0 none in absurd cc

pub first_refused : (now : ℕ) (m : Held InMemory) (heading : List (List ℕ)) (a : Asked) (rows : List Row) (why : Refusal) → (length rows == 0) ≡ false
    → ((given : List Assignment) → refusal_of (create a object_name given).answer ≡ Some why) → Goes now m (with_rows heading 1 a (map fields_of rows)) (Ok (Some (1, why)))
first_refused now m heading a [] why some refused = absurd cc
first_refused now m heading a (row ∷ rows) why some refused =
    subst (λ (r : RowsMade). Goes now m r (Ok (Some (1, why)))) (sym (row_comes heading 1 a (fields_of row) (map fields_of rows) (Some why) (refused (given_of heading (fields_of row))))) refl
