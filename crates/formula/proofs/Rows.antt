-- The formulas within another, as a `Row_of-Formula` and as a list.
use Rattle.std.proofs.Common.{◌≡◌, not, ◌&&◌, ◌||◌, List, ◌++◌, Option, refl, ap, ◌∙◌, flat_map}
use Rattle.std.specs.List.{list_all, list_any}
use Rattle.std.proofs.lemmas.List.{append-nil as append_nil}
use Rattle.base_lemmas.proofs.Bools.{and-true as and_true}
use mathlib.Core.Former.{Count}
use denote.Hole.Carrier.{hidden}
use Rattle.base_value.specs.declared.value.Value.{Value}
use Rattle.formula.specs.Meaning.{holds, all_hold, some_hold}
use Rattle.formula.specs.Naming.{names, all_names}
use Rattle.formula.specs.declared.formula.Formula.{Formula, Not, And, Or, And', Or', Row_of-Formula, end_of-Formula, more_of-Formula, items-the_row-Formula, items_hidden-the_row-Formula-1}
use Rattle.formula.specs.declared.formula.Formula.TheBlock.{hidden-the_row-Formula-0}

-- those within a formula
abbrev row_of : Formula → (n : Count) × Row_of-Formula n
row_of (And' _ row) = (_, row)
row_of (Or' _ row) = (_, row)
row_of _ = (_, end_of-Formula)

module _ (new : List Value) (old : Option (List Value)) where
  all_in_row : (n : _) (row : Row_of-Formula n) → all_hold row new old ≡ list_all (λ f. holds f new old) (items-the_row-Formula n row)
  all_in_row n end_of-Formula = refl
  all_in_row n (more_of-Formula part rest) = ap (λ b. holds part new old && b) (all_in_row _ rest)

  some_in_row : (n : _) (row : Row_of-Formula n) → some_hold row new old ≡ list_any (λ f. holds f new old) (items-the_row-Formula n row)
  some_in_row n end_of-Formula = refl
  some_in_row n (more_of-Formula part rest) = ap (λ b. holds part new old || b) (some_in_row _ rest)

  pub holds_not : (f : Formula) → holds (Not f) new old ≡ not (holds f new old)
  unfolding hidden-the_row-Formula-0 hidden
  holds_not f = ap not (and_true (holds f new old))

  pub holds_and : (fs : List Formula) → holds (And fs) new old ≡ list_all (λ f. holds f new old) fs
  holds_and fs =
      let row = row_of (And fs) in
      all_in_row row.0 row.1 ∙ ap (list_all (λ f. holds f new old)) (items_hidden-the_row-Formula-1 fs)

  pub holds_or : (fs : List Formula) → holds (Or fs) new old ≡ list_any (λ f. holds f new old) fs
  holds_or fs =
      let row = row_of (Or fs) in
      some_in_row row.0 row.1 ∙ ap (list_any (λ f. holds f new old)) (items_hidden-the_row-Formula-1 fs)

names_in_row : (n : _) (row : Row_of-Formula n) → all_names row ≡ flat_map names (items-the_row-Formula n row)
names_in_row n end_of-Formula = refl
names_in_row n (more_of-Formula part rest) = ap (λ ps. names part ++ ps) (names_in_row _ rest)

pub names_not : (f : Formula) → names (Not f) ≡ names f
unfolding hidden-the_row-Formula-0 hidden
names_not f = append_nil (names f)

pub names_and : (fs : List Formula) → names (And fs) ≡ flat_map names fs
names_and fs =
    let row = row_of (And fs) in
    names_in_row row.0 row.1 ∙ ap (flat_map names) (items_hidden-the_row-Formula-1 fs)

pub names_or : (fs : List Formula) → names (Or fs) ≡ flat_map names fs
names_or fs =
    let row = row_of (Or fs) in
    names_in_row row.0 row.1 ∙ ap (flat_map names) (items_hidden-the_row-Formula-1 fs)
