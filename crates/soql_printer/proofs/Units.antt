-- The conditions within another, as a `Row_of-Cond` and as a list.
use Rattle.std.proofs.Common.{◌≡◌, ℕ, ◌+◌, ◌≤◌, false, List, [], ◌∷◌, ◌++◌, map, refl, ap, ◌∙◌, append-nil, codes, arith}
use Rattle.std.specs.List.{AllByRecursion, join_by}
use Rattle.std.proofs.lemmas.List.Folds.{flat_map-map}
use mathlib.Core.Former.{Count}
use denote.Hole.Carrier.{hidden}
use Rattle.soql.specs.declared.query.Cond.{Cond, Not, And, Or, And', Or', Row_of-Cond, end_of-Cond, more_of-Cond, items-the_row-Cond, items_hidden-the_row-Cond-1}
use Rattle.soql.specs.declared.query.Cond.TheBlock.{hidden-the_row-Cond-0}
use Rattle.soql_printer.specs.Printing.{as_unit, is_simple, printed_condition, printed_units}
use Rattle.soql_printer.specs.Nesting.{greatest, levels, levels_within, unit_levels}
use Rattle.soql_printer.specs.inner.Units.{unit_text}

-- the levels of a condition within another
abbrev pub levels_of_unit : Cond → ℕ
levels_of_unit c = unit_levels (is_simple c) (levels c)

abbrev row_of : Cond → (n : Count) × Row_of-Cond n
row_of (And' _ row) = (_, row)
row_of (Or' _ row) = (_, row)
row_of _ = (_, end_of-Cond)

units_in_row : (n : _) (row : Row_of-Cond n) → printed_units row ≡ map unit_text (items-the_row-Cond n row)
unfolding unit_text
units_in_row n end_of-Cond = refl
units_in_row n (more_of-Cond first rest) = ap (λ us. as_unit (is_simple first) (printed_condition first) ∷ us) (units_in_row _ rest)

levels_in_row : (n : _) (row : Row_of-Cond n) → levels_within row ≡ map levels_of_unit (items-the_row-Cond n row)
levels_in_row n end_of-Cond = refl
levels_in_row n (more_of-Cond first rest) = ap (λ ns. levels_of_unit first ∷ ns) (levels_in_row _ rest)

joined_map : {A : Type 0} (f : A → List ℕ) (between : List ℕ) (xs : List A) → join_by (λ (u : List ℕ). u) between (map f xs) ≡ join_by f between xs
joined_map f between [] = refl
joined_map f between (x ∷ xs) = ap (λ z. f x ++ z) (flat_map-map (λ y. between ++ y) f xs)

pub printed_not : (c : Cond) → printed_condition (Not c) ≡ codes "NOT " ++ unit_text c
unfolding hidden-the_row-Cond-0 hidden unit_text
printed_not c = ap (λ z. codes "NOT " ++ z) (append-nil (as_unit (is_simple c) (printed_condition c)))

joined_row : (between : List ℕ) (n : _) (row : Row_of-Cond n) (cs : List Cond) → items-the_row-Cond n row ≡ cs
    → join_by (λ (u : List ℕ). u) between (printed_units row) ≡ join_by unit_text between cs
joined_row between n row cs e =
    ap (join_by (λ (u : List ℕ). u) between) (units_in_row n row) ∙ joined_map unit_text between (items-the_row-Cond n row) ∙ ap (join_by unit_text between) e

pub printed_and : (cs : List Cond) → printed_condition (And cs) ≡ join_by unit_text (codes " AND ") cs
printed_and cs = let row = row_of (And cs) in joined_row (codes " AND ") row.0 row.1 cs (items_hidden-the_row-Cond-1 cs)

pub printed_or : (cs : List Cond) → printed_condition (Or cs) ≡ join_by unit_text (codes " OR ") cs
printed_or cs = let row = row_of (Or cs) in joined_row (codes " OR ") row.0 row.1 cs (items_hidden-the_row-Cond-1 cs)

pub levels_not : (c : Cond) → levels (Not c) ≡ 1 + levels_of_unit c
unfolding hidden-the_row-Cond-0 hidden
levels_not c = omega arith

pub levels_and : (cs : List Cond) → levels (And cs) ≡ greatest (map levels_of_unit cs)
levels_and cs =
    let row = row_of (And cs) in
    ap greatest (levels_in_row row.0 row.1) ∙ ap (λ xs. greatest (map levels_of_unit xs)) (items_hidden-the_row-Cond-1 cs)

pub levels_or : (cs : List Cond) → levels (Or cs) ≡ greatest (map levels_of_unit cs)
levels_or cs =
    let row = row_of (Or cs) in
    ap greatest (levels_in_row row.0 row.1) ∙ ap (λ xs. greatest (map levels_of_unit xs)) (items_hidden-the_row-Cond-1 cs)

pub not_is_not_simple : (c : Cond) → is_simple (Not c) ≡ false
unfolding hidden-the_row-Cond-0 hidden
not_is_not_simple c = refl

pub and_is_not_simple : (cs : List Cond) → is_simple (And cs) ≡ false
and_is_not_simple cs = refl

pub or_is_not_simple : (cs : List Cond) → is_simple (Or cs) ≡ false
or_is_not_simple cs = refl

-- what is greatest is no less than any
pub all_below : {A : Type 0} (f : A → ℕ) (m : ℕ) (xs : List A) → greatest (map f xs) ≤ m → AllByRecursion (λ x. f x ≤ m) xs
all_below f m [] h = tt
all_below f m (x ∷ xs) h = (omega arith, all_below f m xs (omega arith))
