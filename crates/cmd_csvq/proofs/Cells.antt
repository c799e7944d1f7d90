-- The cells of a record, one after the other.
use Rattle.std.proofs.Common.{◌≡◌, ◌∙◌, ◌<◌, ℕ, zero, suc, ◌+◌, Bool, true, ◌&&◌, List, [], ◌∷◌, ◌++◌, drop, length, get_or, Some, None, refl, sym, ap, append_assoc, append-nil, ◌≤◌}
use Rattle.std.proofs.lemmas.List.{at_drop_all, at_drop_more}
use Rattle.std.proofs.lemmas.List.Folds.{list_all-append}
use Rattle.std.specs.List.{list_all}
use Rattle.std.specs.Option.{unwrap_or}
use Rattle.csv.specs.Records.{field_at}
use Rattle.model.specs.declared.record_bodies.Assignment.{Assignment}
use Rattle.record_input.specs.Given.{IsInJson}
use Rattle.model_invariant.specs.Fit.{is_spelled}
use Rattle.cmd_csvq.specs.Organisation.{assignment, given_of}

cell_is : (cells : List (List ℕ)) (i : ℕ) → unwrap_or (field_at cells i) [] ≡ get_or cells i []
unfolding field_at
cell_is [] zero = refl
cell_is [] (suc i) = refl
cell_is (c ∷ cs) zero = refl
cell_is (c ∷ cs) (suc i) = cell_is cs i

-- the cell at a place, and those behind it
pub split_at : (cells : List (List ℕ)) (i : ℕ) (cell : List ℕ) → i < length cells → cell ≡ unwrap_or (field_at cells i) [] → drop i cells ≡ cell ∷ drop (i + 1) cells
split_at cells i cell lt is =
    at_drop_more (λ (xs : List (List ℕ)). xs) cells i [] lt ∙ ap (λ (c : List ℕ). c ∷ drop (i + 1) cells) (sym (is ∙ cell_is cells i))

some_at : (cells : List (List ℕ)) (i : ℕ) (cell : List ℕ) → Some cell ≡ field_at cells i → drop i cells ≡ cell ∷ drop (suc i) cells
unfolding field_at
some_at [] zero cell e = absurd cc
some_at [] (suc i) cell e = absurd cc
some_at (c ∷ cs) zero cell e = let same : c ≡ cell = cc in ap (λ (x : List ℕ). x ∷ cs) same
some_at (c ∷ cs) (suc i) cell e = some_at cs i cell e

none_at : (cells : List (List ℕ)) (i : ℕ) → None ≡ field_at cells i → drop i cells ≡ []
unfolding field_at
none_at [] zero e = refl
none_at [] (suc i) e = refl
none_at (c ∷ cs) zero e = absurd cc
none_at (c ∷ cs) (suc i) e = none_at cs i e

none_given : (heading : List (List ℕ)) → given_of heading [] ≡ []
unfolding given_of
none_given [] = refl
none_given (name ∷ heading) = refl

-- what the places from here on give
abbrev pub rest_given : (heading cells : List (List ℕ)) → ℕ → List Assignment
rest_given heading cells n = given_of (drop n heading) (drop n cells)

module _ (heading cells : List (List ℕ)) (i : ℕ) where
  pub no_name : None ≡ field_at heading i → rest_given heading cells i ≡ []
  unfolding given_of
  no_name e = ap (λ (hs : List (List ℕ)). given_of hs (drop i cells)) (none_at heading i e)

  pub no_cell : None ≡ field_at cells i → rest_given heading cells i ≡ []
  no_cell e = ap (λ (cs : List (List ℕ)). given_of (drop i heading) cs) (none_at cells i e) ∙ none_given (drop i heading)

  pub one_given : (name cell : List ℕ) (next : ℕ) → next ≡ suc i → Some name ≡ field_at heading i → Some cell ≡ field_at cells i → rest_given heading cells i ≡ assignment name cell ∷ rest_given heading cells next
  unfolding given_of
  one_given name cell next is e f =
      ap (λ (hs : List (List ℕ)). given_of hs (drop i cells)) (some_at heading i name e)
      ∙ ap (λ (cs : List (List ℕ)). given_of (name ∷ drop (suc i) heading) cs) (some_at cells i cell f)
      ∙ ap (λ (n : ℕ). assignment name cell ∷ rest_given heading cells n) (sym is)

-- at the end of the heading nothing more is given
pub none_left : (heading cells : List (List ℕ)) (i : ℕ) → length heading ≤ i → rest_given heading cells i ≡ []
unfolding given_of
none_left heading cells i le = at_drop_all (λ (hs : List (List ℕ)). given_of hs (drop i cells)) heading i le

pub given_end : (items rest all : List Assignment) → items ++ rest ≡ all → rest ≡ [] → items ≡ all
given_end items rest all e none = sym (append-nil items) ∙ ap (λ (r : List Assignment). items ++ r) (sym none) ∙ e

pub given_more : (items more rest next all : List Assignment) (x y : Assignment) → items ++ rest ≡ all → rest ≡ x ∷ next → y ≡ x → more ≡ items ++ y ∷ []
    → more ++ next ≡ all
given_more items more rest next all x y e split is pushed =
    ap (λ (g : List Assignment). g ++ next) (pushed ∙ ap (λ (z : Assignment). items ++ z ∷ []) is) ∙ append_assoc items (x ∷ []) next
    ∙ ap (λ (r : List Assignment). items ++ r) (sym split) ∙ e

-- one more that is spelled
pub spelled_more : (given : List Assignment) (x : Assignment) → list_all (λ y. is_spelled y.given) given ≡ true → is_spelled x.given ≡ true → list_all (λ y. is_spelled y.given) (given ++ x ∷ []) ≡ true
spelled_more given x h k =
    list_all-append (λ (y : Assignment). is_spelled y.given) given (x ∷ []) ∙ ap (λ (b : Bool). b && (is_spelled x.given && true)) h ∙ ap (λ (b : Bool). b && true) k

-- all that a row gives is in JSON
pub all_json : (heading cells : List (List ℕ)) → IsInJson (given_of heading cells)
unfolding given_of
all_json [] cells = refl
all_json (name ∷ heading) [] = refl
all_json (name ∷ heading) (cell ∷ cells) = all_json heading cells
