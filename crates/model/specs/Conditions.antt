-- Whether a condition holds on a record, for a user at a moment.
-- Source: Salesforce, "SOQL and SOSL Reference", "Comparison Operators" and "Date Formats and Date Literals". That each
-- condition is true or false, and what it is where a side is null, is this product's own.
use Rattle.std.specs.Prelude.{ℕ, Bool, true, false, not, ◌&&◌, ◌||◌, if◌then◌else◌, List, Option, Some, None, ℤ, pos, negsuc, ◌+ℤ◌}
use Rattle.std.specs.List.{list_any}
use Rattle.std.specs.declared.cmp.Ordering.{Ordering}
use Rattle.std.specs.Ordering.{is_lt, is_le, is_gt, is_ge}
use Rattle.base_value.specs.Id.{id_in}
use Rattle.base_value.specs.Printing.{day_of_moment}
use Rattle.base_value.specs.Values.{cmp, equal}
use Rattle.base_value.specs.declared.value.Value.{Value}
use Rattle.base_value.specs.declared.value.Value.TheVariants as value
use Rattle.formula.specs.Meaning.{text_value}
use Rattle.soql.specs.Like.{like}
use Rattle.soql.specs.declared.query.Cond.{Cond, Test, Like, In, Not', And', Or', Row_of-Cond, end_of-Cond, more_of-Cond}
use Rattle.soql.specs.declared.query.LikePart.{LikePart}
use Rattle.soql.specs.declared.query.Literal.{Literal}
use Rattle.soql.specs.declared.query.Literal.TheVariants as literal
use Rattle.soql.specs.declared.query.Op.{Op}
use Rattle.soql.specs.declared.query.Op.TheVariants as op
use Rattle.model.specs.declared.record.Record.{Record}
use Rattle.model.specs.Fields.{as_ref, is_null}
use Rattle.model.specs.Paths.{Asked, path_value}

-- ---- literals

-- a text beside a value: the id that it spells beside an id, and else itself, where the empty text counts as null
abbrev pub text_beside : Value → List ℕ → Value
text_beside (value.Ref id) text = as_ref (id_in text)
text_beside v text = text_value text

-- the day so many days after that of a moment
abbrev pub day_after : ℤ → ℤ → Value
day_after days now = value.Day (day_of_moment now +ℤ days)

-- what a literal means beside a value, at a moment
abbrev pub meant : ℤ → Value → Literal → Value
meant now v literal.Null = value.Null
meant now v (literal.Text text) = text_beside v text
meant now v (literal.Num count) = value.Num count
meant now v (literal.Bool truth) = value.Bool truth
meant now v (literal.Day day) = value.Day day
meant now v (literal.Moment second) = value.Moment second
meant now v literal.Today = day_after (pos 0) now
meant now v literal.Yesterday = day_after (negsuc 0) now
meant now v literal.Tomorrow = day_after (pos 1) now

-- a day by the clock
abbrev pub is_by_clock : Literal → Bool
is_by_clock literal.Today = true
is_by_clock literal.Yesterday = true
is_by_clock literal.Tomorrow = true
is_by_clock _ = false

-- a moment's day in UTC
abbrev pub as_day : Value → Value
as_day (value.Moment second) = value.Day (day_of_moment second)
as_day v = v

-- a value beside a literal: beside a day by the clock a moment counts as its day
abbrev pub compared_as : Literal → Value → Value
compared_as l v = if is_by_clock l then as_day v else v

-- ---- tests

-- neither is null, and their order is so
abbrev pub both_there : (Ordering → Bool) → Value → Value → Bool
both_there is a b = not (is_null a || is_null b) && is (cmp a b)

-- two nulls are equal, and null is no value's equal
abbrev pub compares : Op → Value → Value → Bool
compares op.Equal a b = equal a b
compares op.NotEqual a b = not (equal a b)
compares op.Less a b = both_there is_lt a b
compares op.LessEqual a b = both_there is_le a b
compares op.Greater a b = both_there is_gt a b
compares op.GreaterEqual a b = both_there is_ge a b

-- a value compared with a literal, at a moment
abbrev pub passes : ℤ → Op → Value → Literal → Bool
passes now o v l = compares o (compared_as l v) (meant now v l)

-- a text like a pattern; null is like none
abbrev pub is_like : List LikePart → Value → Bool
is_like parts (value.Text text) = like parts text
is_like parts _ = false

-- a path's value equals one of the literals
abbrev pub is_among : Asked → Record → List (List ℕ) → List Literal → Bool
is_among a r names literals = list_any (passes a.now op.Equal (path_value a r names)) literals

-- ---- conditions

abbrev mutual
  -- whether a condition holds on a record; those within another come as a `Row_of-Cond`, which NOT has too, with one condition
  pub holds : Asked → Record → Cond → Bool
  holds a r (Test path o l) = passes a.now o (path_value a r path.names) l
  holds a r (Like path pattern) = is_like pattern.parts (path_value a r path.names)
  holds a r (In path negated literals) =
      if negated then not (is_among a r path.names literals) else is_among a r path.names literals
  holds a r (Not' shape part) = not (all_hold a r part)
  holds a r (And' shape parts) = all_hold a r parts
  holds a r (Or' shape parts) = some_hold a r parts

  -- whether all of them hold
  pub all_hold : {m : _} → Asked → Record → Row_of-Cond m → Bool
  all_hold a r end_of-Cond = true
  all_hold a r (more_of-Cond part rest) = holds a r part && all_hold a r rest

  -- whether some of them hold
  pub some_hold : {m : _} → Asked → Record → Row_of-Cond m → Bool
  some_hold a r end_of-Cond = false
  some_hold a r (more_of-Cond part rest) = holds a r part || some_hold a r rest

-- the condition holds, if there is one
abbrev pub satisfies : Asked → Option Cond → Record → Bool
satisfies a None r = true
satisfies a (Some condition) r = holds a r condition
