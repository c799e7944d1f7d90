-- How deep NOT and parentheses nest in the text of a query.
-- Source: none. That a condition has a number of levels is this product's own.
use Rattle.std.specs.Prelude.{ℕ, ◌+◌, Bool, max, if◌then◌else◌, List, [], ◌∷◌, map, Option, Some, None}
use Rattle.soql.specs.declared.query.Cond.{Cond, Test, Like, In, Not', And', Or', Row_of-Cond, end_of-Cond, more_of-Cond}
use Rattle.soql.specs.declared.query.Item.{Item}
use Rattle.soql.specs.declared.query.Item.TheVariants as item
use Rattle.soql.specs.declared.query.Query.{Query}
use Rattle.soql_printer.specs.Printing.{is_simple}

-- the greatest of some numbers
abbrev pub greatest : List ℕ → ℕ
greatest [] = 0
greatest (n ∷ ns) = max n (greatest ns)

-- parentheses round a condition are one level
abbrev pub unit_levels : (is_simple : Bool) → ℕ → ℕ
unit_levels is_simple levels = if is_simple then levels else 1 + levels

-- how deep NOT and parentheses nest in the text of a condition
abbrev mutual
  pub levels : Cond → ℕ
  levels (Test path op literal) = 0
  levels (Like path pattern) = 0
  levels (In path negated literals) = 0
  levels (Not' shape part) = 1 + greatest (levels_within part)
  levels (And' shape parts) = greatest (levels_within parts)
  levels (Or' shape parts) = greatest (levels_within parts)

  pub levels_within : {n : _} → Row_of-Cond n → List ℕ
  levels_within end_of-Cond = []
  levels_within (more_of-Cond first rest) = unit_levels (is_simple first) (levels first) ∷ levels_within rest

abbrev pub levels_if : Option Cond → ℕ
levels_if None = 0
levels_if (Some condition) = levels condition

abbrev pub item_levels : Item → ℕ
item_levels (item.Path path) = 0
item_levels (item.Child paths tail) = levels_if tail.condition

-- how deep NOT and parentheses nest in the conditions of the text of a query
abbrev pub nesting : Query → ℕ
nesting query = max (levels_if query.tail.condition) (greatest (map item_levels query.select))
