-- What a formula means on the values of a record, and on those that the record had before; a new record had none.
-- Source: Salesforce, "Formula Operators and Functions". That a comparison beside null is true or false too, and that texts are
-- compared by the numbers of their characters, with case, is this product's own.
use Rattle.std.specs.Prelude.{ℕ, ◌*◌, Bool, true, false, not, ◌&&◌, ◌||◌, List, [], length, slice_index_or, Option, Some, None, is_none, unwrap_or, pos}
use Rattle.std.specs.declared.cmp.Ordering.{Ordering}
use Rattle.std.specs.Ordering.{nat_cmp, partial_lt, partial_le, partial_gt, partial_ge}
use Rattle.std.specs.Cmp.Lexicographic.{slice_cmp}
use Rattle.base_value.specs.Printing.{scale}
use Rattle.base_value.specs.Values.{cmp, same_value}
use Rattle.base_value.specs.declared.value.Value.{Value}
use Rattle.base_value.specs.declared.value.Value.TheVariants as value
use Rattle.formula.specs.declared.formula.Formula.{Formula, Const, IsNew, Not', And', Or', IsBlank, IsChanged, IsPickval, Compare, Row_of-Formula, end_of-Formula, more_of-Formula}
use Rattle.formula.specs.declared.formula.Relation.{Relation}
use Rattle.formula.specs.declared.formula.Relation.TheVariants as relation
use Rattle.formula.specs.declared.formula.Term.{Term}
use Rattle.formula.specs.declared.formula.Term.TheVariants as term

-- ---- terms
-- the value at a position
abbrev pub value_at : List Value → ℕ → Value
value_at values position = slice_index_or values position value.Null

-- an empty text counts as null
abbrev pub text_value : List ℕ → Value
text_value [] = value.Null
text_value cs = value.Text cs

-- how many characters a text has; null has none
abbrev pub len : Value → ℕ
len (value.Text cs) = length cs
len _ = 0

-- the value of a term: of the record now but for PRIORVALUE, which is the same on a new record; numbers are counts of 10^-8
abbrev pub value_of : Term → List Value → Option (List Value) → Value
value_of (term.Field position) new old = value_at new position
value_of (term.Num count) new old = value.Num count
value_of (term.Text cs) new old = text_value cs
value_of (term.Len position) new old = value.Num (pos (len (value_at new position) * scale))
value_of (term.Prior position) new old = value_at (unwrap_or old new) position

-- ---- comparisons
-- how two values that are there compare: texts by the numbers of their characters, all else as values of fields do
abbrev pub compared : Value → Value → Option Ordering
compared value.Null b = None
compared a value.Null = None
compared (value.Text a) (value.Text b) = Some (slice_cmp nat_cmp a b)
compared a b = Some (cmp a b)

-- `=` holds of null and null and of values that are there and equal, `<>` where `=` doesn't, the others of no null
abbrev pub relates : Relation → Value → Value → Bool
relates relation.Equal a b = same_value a b
relates relation.NotEqual a b = not (same_value a b)
relates relation.Less a b = partial_lt compared a b
relates relation.LessEqual a b = partial_le compared a b
relates relation.Greater a b = partial_gt compared a b
relates relation.GreaterEqual a b = partial_ge compared a b

-- ---- formulas
-- the record was there before, and had another value at this position
abbrev pub has_changed : ℕ → List Value → Option (List Value) → Bool
has_changed position new None = false
has_changed position new (Some old) = not (same_value (value_at new position) (value_at old position))

-- whether a formula holds; those within another come as a `Row_of-Formula`, which NOT has too, with one formula
abbrev mutual
  pub holds : Formula → List Value → Option (List Value) → Bool
  holds (Const truth) new old = truth
  holds IsNew new old = is_none old
  holds (Not' shape part) new old = not (all_hold part new old)
  holds (And' shape parts) new old = all_hold parts new old
  holds (Or' shape parts) new old = some_hold parts new old
  holds (IsBlank position) new old = same_value (value_at new position) value.Null
  holds (IsChanged position) new old = has_changed position new old
  holds (IsPickval position cs) new old = same_value (value_at new position) (value.Text cs)
  holds (Compare left relation right) new old = relates relation (value_of left new old) (value_of right new old)

  -- whether all of them hold
  pub all_hold : {n : _} → Row_of-Formula n → List Value → Option (List Value) → Bool
  all_hold end_of-Formula new old = true
  all_hold (more_of-Formula part rest) new old = holds part new old && all_hold rest new old

  -- whether some of them hold
  pub some_hold : {n : _} → Row_of-Formula n → List Value → Option (List Value) → Bool
  some_hold end_of-Formula new old = false
  some_hold (more_of-Formula part rest) new old = holds part new old || some_hold rest new old
