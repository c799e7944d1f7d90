-- The conditions within another, as a `Row_of-Cond` and as a list.
use Rattle.std.proofs.Common.{◌≡◌, not, ◌&&◌, ◌||◌, List, refl, ap, ◌∙◌}
use Rattle.std.specs.List.{list_all, list_any}
use Rattle.base_lemmas.proofs.Bools.{and-true as and_true}
use mathlib.Core.Former.{Count}
use denote.Hole.Carrier.{hidden}
use Rattle.soql.specs.declared.query.Cond.{Cond, Not, And, Or, And', Or', Row_of-Cond, end_of-Cond, more_of-Cond, items-the_row-Cond, items_hidden-the_row-Cond-1}
use Rattle.soql.specs.declared.query.Cond.TheBlock.{hidden-the_row-Cond-0}
use Rattle.model.specs.declared.record.Record.{Record}
use Rattle.model.specs.Conditions.{all_hold, holds, some_hold}
use Rattle.model.specs.Paths.{Asked}

-- those within a condition
abbrev row_of : Cond → (n : Count) × Row_of-Cond n
row_of (And' _ row) = (_, row)
row_of (Or' _ row) = (_, row)
row_of _ = (_, end_of-Cond)

module _ (a : Asked) (r : Record) where
  all_in_row : (n : _) (row : Row_of-Cond n) → all_hold a r row ≡ list_all (holds a r) (items-the_row-Cond n row)
  all_in_row n end_of-Cond = refl
  all_in_row n (more_of-Cond part rest) = ap (λ b. holds a r part && b) (all_in_row _ rest)

  some_in_row : (n : _) (row : Row_of-Cond n) → some_hold a r row ≡ list_any (holds a r) (items-the_row-Cond n row)
  some_in_row n end_of-Cond = refl
  some_in_row n (more_of-Cond part rest) = ap (λ b. holds a r part || b) (some_in_row _ rest)

  pub holds_not : (c : Cond) → holds a r (Not c) ≡ not (holds a r c)
  unfolding hidden-the_row-Cond-0 hidden
  holds_not c = ap not (and_true (holds a r c))

  pub holds_and : (cs : List Cond) → holds a r (And cs) ≡ list_all (holds a r) cs
  holds_and cs =
      let row = row_of (And cs) in
      all_in_row row.0 row.1 ∙ ap (list_all (holds a r)) (items_hidden-the_row-Cond-1 cs)

  pub holds_or : (cs : List Cond) → holds a r (Or cs) ≡ list_any (holds a r) cs
  holds_or cs =
      let row = row_of (Or cs) in
      some_in_row row.0 row.1 ∙ ap (list_any (holds a r)) (items_hidden-the_row-Cond-1 cs)
