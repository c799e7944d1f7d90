-- The cells of a record, one after the other.
use Rattle.std.proofs.Common.{◌≡◌, ◌∙◌, ℕ, zero, suc, ◌+◌, ◌<◌, ◌≤◌, List, [], ◌∷◌, ◌++◌, drop, length, get_or, refl, sym, ap, append-nil, append_assoc}
use Rattle.std.proofs.lemmas.List.{at_drop_more, drop_all}
use Rattle.std.specs.Option.{unwrap_or}
use Rattle.csv.specs.Records.{field_at}

cell_is : (cells : List (List ℕ)) (i : ℕ) → unwrap_or (field_at cells i) [] ≡ get_or cells i []
unfolding field_at
cell_is [] zero = refl
cell_is [] (suc i) = refl
cell_is (c ∷ cs) zero = refl
cell_is (c ∷ cs) (suc i) = cell_is cs i

-- one cell more is taken
pub one_more : (taken cells : List (List ℕ)) (i : ℕ) (cell : List ℕ) → i < length cells → cell ≡ unwrap_or (field_at cells i) [] → taken ++ drop i cells ≡ cells → (taken ++ cell ∷ []) ++ drop (i + 1) cells ≡ cells
one_more taken cells i cell lt is all =
    append_assoc taken (cell ∷ []) (drop (i + 1) cells)
    ∙ (ap (λ (c : List ℕ). taken ++ c ∷ drop (i + 1) cells) (is ∙ cell_is cells i)
    ∙ (ap (λ (cs : List (List ℕ)). taken ++ cs) (sym (at_drop_more (λ (xs : List (List ℕ)). xs) cells i [] lt)) ∙ all))

-- all are taken
pub all_taken : (taken cells : List (List ℕ)) (i : ℕ) → length cells ≤ i → taken ++ drop i cells ≡ cells → taken ≡ cells
all_taken taken cells i past all = sym (append-nil taken) ∙ (ap (λ (cs : List (List ℕ)). taken ++ cs) (sym (drop_all i cells past)) ∙ all)
