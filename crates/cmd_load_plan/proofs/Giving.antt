-- What the columns and the cells from a place on give.
use Rattle.std.proofs.Common.{◌≡◌, ◌∙◌, ℕ, ◌+◌, ◌<◌, ◌≤◌, Bool, true, false, ◌&&◌, ltb, Bor, List, [], ◌∷◌, ◌++◌, map, drop, length, get_or, min, refl, sym, ap, arith, append_assoc, append-nil}
use Rattle.std.proofs.lemmas.List.{at_drop_all}
use Rattle.std.proofs.lemmas.List.Folds.{list_all-append}
use Rattle.std.specs.List.{list_all}
use Rattle.std.proofs.lemmas.Bool.{ltb-false, ltb-true}
use Rattle.base_lemmas.proofs.Lists.{drop-cons_read as rest_is}
use Rattle.model.specs.declared.record_bodies.Assignment.{Assignment}
use Rattle.cmd_load_plan.specs.declared.plan.LoadColumn.{LoadColumn}
use Rattle.cmd_load_plan.specs.Rows.{given_in, given_row, has_characters}

abbrev pub rest_given : List LoadColumn → List (Bor (List ℕ)) → ℕ → List Assignment
rest_given columns cells n = given_row (drop n columns) (map (λ c. c.now) (drop n cells))

no_cells : (columns : List LoadColumn) → given_row columns [] ≡ []
unfolding given_row
no_cells [] = refl
no_cells (c ∷ columns) = refl

no_columns : (cells : List (List ℕ)) → given_row [] cells ≡ []
unfolding given_row
no_columns cells = refl

first_given : (c : LoadColumn) (columns : List LoadColumn) (cell : List ℕ) (cells : List (List ℕ))
    → given_row (c ∷ columns) (cell ∷ cells) ≡ record { field = c.field; given = given_in c cell } ∷ given_row columns cells
unfolding given_row
first_given c columns cell cells = refl

module _ (columns : List LoadColumn) (cells : List (Bor (List ℕ))) (n : ℕ) where
  pub one_given : (c : LoadColumn) (cell : Bor (List ℕ)) → n < length columns → n < length cells → c ≡ get_or columns n c → cell ≡ get_or cells n cell
      → rest_given columns cells n ≡ record { field = c.field; given = given_in c cell.now } ∷ rest_given columns cells (n + 1)
  one_given c cell lt within is there =
      ap (λ (ds : List LoadColumn). given_row ds (map (λ (x : Bor (List ℕ)). x.now) (drop n cells))) (rest_is columns n c lt is)
      ∙ ap (λ (xs : List (Bor (List ℕ))). given_row (c ∷ drop (n + 1) columns) (map (λ (x : Bor (List ℕ)). x.now) xs)) (rest_is cells n cell within there)
      ∙ first_given c (drop (n + 1) columns) cell.now (map (λ (x : Bor (List ℕ)). x.now) (drop (n + 1) cells))

  pub none_left : n ≡ min (length columns) (length cells) → rest_given columns cells n ≡ []
  none_left e = by (ltb n (length columns)) refl
    where
      by : (b : Bool) → ltb n (length columns) ≡ b → rest_given columns cells n ≡ []
      by true is =
          let lt : n < length columns = ltb-true n (length columns) is in
          at_drop_all (λ (xs : List (Bor (List ℕ))). given_row (drop n columns) (map (λ (x : Bor (List ℕ)). x.now) xs)) cells n (omega (arith, lt, e)) ∙ no_cells (drop n columns)
      by false is =
          let le : length columns ≤ n = ltb-false n (length columns) is in
          at_drop_all (λ (ds : List LoadColumn). given_row ds (map (λ (x : Bor (List ℕ)). x.now) (drop n cells))) columns n le
          ∙ no_columns (map (λ (x : Bor (List ℕ)). x.now) (drop n cells))

pub given_end : (items rest all : List Assignment) → items ++ rest ≡ all → rest ≡ [] → items ≡ all
given_end items rest all e none = sym (append-nil items) ∙ ap (λ (r : List Assignment). items ++ r) (sym none) ∙ e

pub given_more : (items more rest next all : List Assignment) (x y : Assignment) → items ++ rest ≡ all → rest ≡ x ∷ next → y ≡ x → more ≡ items ++ y ∷ []
    → more ++ next ≡ all
given_more items more rest next all x y e split is pushed =
    ap (λ (g : List Assignment). g ++ next) (pushed ∙ ap (λ (z : Assignment). items ++ z ∷ []) is) ∙ append_assoc items (x ∷ []) next
    ∙ ap (λ (r : List Assignment). items ++ r) (sym split) ∙ e

-- one more, of characters
pub more_spelled : (given : List Assignment) (x : Assignment) → list_all (λ y. has_characters y.given) given ≡ true → has_characters x.given ≡ true
    → list_all (λ y. has_characters y.given) (given ++ x ∷ []) ≡ true
more_spelled given x h k =
    list_all-append (λ (y : Assignment). has_characters y.given) given (x ∷ [])
    ∙ ap (λ (b : Bool). b && (has_characters x.given && true)) h ∙ ap (λ (b : Bool). b && true) k
