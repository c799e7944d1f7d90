-- The tests of a condition, and which operators and literals suit which fields.
-- Source: Salesforce, "SOQL and SOSL Reference", "Comparison Operators" and "Field Types". That truth values have no lists is this
-- product's own.
use Rattle.std.specs.Prelude.{ℕ, Bool, true, false, ◌&&◌, ◌||◌, List, [], ◌∷◌, ◌++◌, Option, Some, None}
use Rattle.std.specs.List.{list_all}
use Rattle.base_value.specs.Types.{is_reference}
use Rattle.base_value.specs.declared.value.FieldType.{FieldType}
use Rattle.base_value.specs.declared.value.FieldType.TheVariants as type
use Rattle.soql.specs.declared.query.Cond.{Cond, Test, Like, In, Not', And', Or', Row_of-Cond, end_of-Cond, more_of-Cond}
use Rattle.soql.specs.declared.query.Literal.{Literal}
use Rattle.soql.specs.declared.query.Literal.TheVariants as literal
use Rattle.soql.specs.declared.query.Op.{Op}
use Rattle.soql.specs.declared.query.Op.TheVariants as op
use Rattle.model.specs.Fields.{Content, of_type, of_ids}

-- ---- the tests of a condition, in the order of the text

-- how a path is tested: by an operator, by a pattern, or as one of some literals
pub data Way : Type 0 where
  by : Op → Literal → Way
  by_pattern : Way
  among : List Literal → Way

pub record Tested : Type 0 where
  pub names : List (List ℕ)
  pub way : Way

abbrev mutual
  pub tests_of : Cond → List Tested
  tests_of (Test path o l) = record { names = path.names; way = by o l } ∷ []
  tests_of (Like path pattern) = record { names = path.names; way = by_pattern } ∷ []
  tests_of (In path negated literals) = record { names = path.names; way = among literals } ∷ []
  tests_of (Not' shape part) = tests_of_all part
  tests_of (And' shape parts) = tests_of_all parts
  tests_of (Or' shape parts) = tests_of_all parts

  -- those of the conditions within another
  pub tests_of_all : {m : _} → Row_of-Cond m → List Tested
  tests_of_all end_of-Cond = []
  tests_of_all (more_of-Cond part rest) = tests_of part ++ tests_of_all rest

-- those of a condition, if there is one
abbrev pub tests : Option Cond → List Tested
tests None = []
tests (Some condition) = tests_of condition

-- ---- literals; null suits every field

abbrev pub text_or_null : Literal → Bool
text_or_null literal.Null = true
text_or_null (literal.Text text) = true
text_or_null _ = false

abbrev pub number_or_null : Literal → Bool
number_or_null literal.Null = true
number_or_null (literal.Num count) = true
number_or_null _ = false

abbrev pub truth_or_null : Literal → Bool
truth_or_null literal.Null = true
truth_or_null (literal.Bool truth) = true
truth_or_null _ = false

-- a day by the clock
abbrev pub clock_or_null : Literal → Bool
clock_or_null literal.Null = true
clock_or_null literal.Today = true
clock_or_null literal.Yesterday = true
clock_or_null literal.Tomorrow = true
clock_or_null _ = false

abbrev pub day_or_null : Literal → Bool
day_or_null (literal.Day day) = true
day_or_null l = clock_or_null l

abbrev pub moment_or_null : Literal → Bool
moment_or_null (literal.Moment second) = true
moment_or_null l = clock_or_null l

-- ---- the table

-- what a field may be compared with; and, beside `=` and `!=`, by which operators: `<`, `<=`, `>` and `>=`; LIKE; IN and NOT IN
pub record Suits : Type 0 where
  pub literal : Literal → Bool
  pub orders : Bool
  pub patterns : Bool
  pub lists : Bool

abbrev pub suits : (Literal → Bool) → (orders patterns lists : Bool) → Suits
suits literal orders patterns lists = record { literal = literal; orders = orders; patterns = patterns; lists = lists }

-- fields that hold ids
abbrev pub ids_suit : Suits
ids_suit = suits text_or_null false false true

abbrev pub suits_type : FieldType → Suits
suits_type (type.Text most) = suits text_or_null true true true
suits_type (type.Picklist values) = suits text_or_null true false true
suits_type (type.Number digits decimals) = suits number_or_null true false true
suits_type type.Day = suits day_or_null true false true
suits_type type.Moment = suits moment_or_null true false true
suits_type type.Checkbox = suits truth_or_null false false false
suits_type (type.Lookup object on_delete) = ids_suit
suits_type (type.Master object) = ids_suit

abbrev pub suits_of : Content → Suits
suits_of of_ids = ids_suit
suits_of (of_type kind) = suits_type kind

-- a field holds ids
abbrev pub holds_ids : Content → Bool
holds_ids of_ids = true
holds_ids (of_type kind) = is_reference kind

-- `=` and `!=`
abbrev pub is_equality : Op → Bool
is_equality op.Equal = true
is_equality op.NotEqual = true
is_equality _ = false

-- a field may be tested in this way
abbrev pub way_suits : Suits → Way → Bool
way_suits s (by o l) = (is_equality o || s.orders) && s.literal l
way_suits s by_pattern = s.patterns
way_suits s (among literals) = s.lists && list_all s.literal literals
