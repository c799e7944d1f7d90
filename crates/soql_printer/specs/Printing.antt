-- The text of a query: keywords in upper case, one blank between two tokens, but none round `.`, before `,` and inside parentheses.
-- Source of the words and marks: Salesforce, "SOQL and SOSL Reference", "SOQL SELECT Syntax". Which blanks and parentheses are
-- written is this product's own.
use Rattle.std.specs.Prelude.{ℕ, Bool, true, false, ◌||◌, ◌==◌, if◌then◌else◌, List, [], ◌∷◌, ◌++◌, Option, Some, None, codes}
use Rattle.std.specs.Fmt.{decimal}
use Rattle.std.specs.List.{flat_map, join_by}
use Rattle.base_value.specs.Printing.{is_printable, print_value}
use Rattle.base_value.specs.declared.value.Value.{Value}
use Rattle.base_value.specs.declared.value.Value.TheVariants as value
use Rattle.soql.specs.Lexis.{quote}
use Rattle.soql.specs.declared.query.Cond.{Cond, Test, Like, In, Not', And', Or', Row_of-Cond, end_of-Cond, more_of-Cond}
use Rattle.soql.specs.declared.query.Item.{Item}
use Rattle.soql.specs.declared.query.Item.TheVariants as item
use Rattle.soql.specs.declared.query.LikePart.{LikePart}
use Rattle.soql.specs.declared.query.LikePart.TheVariants as like
use Rattle.soql.specs.declared.query.Literal.{Literal}
use Rattle.soql.specs.declared.query.Literal.TheVariants as l
use Rattle.soql.specs.declared.query.Op.{Op}
use Rattle.soql.specs.declared.query.Op.TheVariants as op
use Rattle.soql.specs.declared.query.OrderKey.{OrderKey}
use Rattle.soql.specs.declared.query.Path.{Path}
use Rattle.soql.specs.declared.query.Query.{Query}
use Rattle.soql.specs.declared.query.Tail.{Tail}

-- ---- pieces of texts
-- the texts of some things, with commas between
abbrev pub listed : {A : Type 0} → (A → List ℕ) → List A → List ℕ
listed print all = join_by print (codes ", ") all

abbrev pub in_parentheses : List ℕ → List ℕ
in_parentheses text = codes "(" ++ text ++ codes ")"

-- a word, if it is to be written
abbrev pub only_if : Bool → List ℕ → List ℕ
only_if is word = if is then word else []

-- a word and what is behind it, if that is there
abbrev pub optional : {A : Type 0} → List ℕ → (A → List ℕ) → Option A → List ℕ
optional word print None = []
optional word print (Some x) = word ++ print x

-- ---- paths, texts and literals
abbrev pub printed_path : Path → List ℕ
printed_path path = join_by (λ name. name) (codes ".") path.names

-- `\`
abbrev pub backslash : ℕ
backslash = 92

-- behind a backslash, if that is needed
abbrev pub escaped_if : Bool → ℕ → List ℕ
escaped_if needed c = if needed then backslash ∷ c ∷ [] else c ∷ []

-- only the quote and the backslash need a backslash before them; all else stands for itself
abbrev pub is_special : ℕ → Bool
is_special c = (c == quote) || (c == backslash)

unfoldable pub printed_character : ℕ → List ℕ
printed_character c = escaped_if (is_special c) c

-- `%`
abbrev pub percent : ℕ
percent = 37

-- `_`
abbrev pub underscore : ℕ
underscore = 95

abbrev pub is_wildcard : ℕ → Bool
is_wildcard c = (c == percent) || (c == underscore)

-- in a pattern `%` and `_` that stand for themselves need a backslash too
unfoldable pub printed_part : LikePart → List ℕ
printed_part like.One = codes "_"
printed_part like.Many = codes "%"
printed_part (like.Exact c) = escaped_if (is_special c || is_wildcard c) c

abbrev pub quoted : List ℕ → List ℕ
quoted text = quote ∷ text ++ quote ∷ []

-- a day or a moment outside the years 0001 to 9999 has no text
abbrev pub printed_value : Value → List ℕ
printed_value v = if is_printable v then print_value v else []

abbrev pub printed_literal : Literal → List ℕ
printed_literal l.Null = codes "NULL"
printed_literal (l.Text cs) = quoted (flat_map printed_character cs)
printed_literal (l.Num count) = printed_value (value.Num count)
printed_literal (l.Bool true) = codes "TRUE"
printed_literal (l.Bool false) = codes "FALSE"
printed_literal (l.Day day) = printed_value (value.Day day)
printed_literal (l.Moment second) = printed_value (value.Moment second)
printed_literal l.Today = codes "TODAY"
printed_literal l.Yesterday = codes "YESTERDAY"
printed_literal l.Tomorrow = codes "TOMORROW"

-- ---- conditions
abbrev pub printed_op : Op → List ℕ
printed_op op.Equal = codes "="
printed_op op.NotEqual = codes "!="
printed_op op.Less = codes "<"
printed_op op.LessEqual = codes "<="
printed_op op.Greater = codes ">"
printed_op op.GreaterEqual = codes ">="

-- whether a condition needs no parentheses within another
abbrev pub is_simple : Cond → Bool
is_simple (Test path op literal) = true
is_simple (Like path pattern) = true
is_simple (In path negated literals) = true
is_simple (Not' shape part) = false
is_simple (And' shape parts) = false
is_simple (Or' shape parts) = false

-- the text of a condition within another
abbrev pub as_unit : (is_simple : Bool) → List ℕ → List ℕ
as_unit is_simple text = if is_simple then text else in_parentheses text

-- the conditions within another come as a `Row_of-Cond`, which NOT has too, with one condition
abbrev mutual
  pub printed_condition : Cond → List ℕ
  printed_condition (Test path op literal) = printed_path path ++ codes " " ++ printed_op op ++ codes " " ++ printed_literal literal
  printed_condition (Like path pattern) = printed_path path ++ codes " LIKE " ++ quoted (flat_map printed_part pattern.parts)
  printed_condition (In path negated literals) =
      printed_path path ++ only_if negated (codes " NOT") ++ codes " IN " ++ in_parentheses (listed printed_literal literals)
  printed_condition (Not' shape part) = codes "NOT " ++ join_by (λ unit. unit) [] (printed_units part)
  printed_condition (And' shape parts) = join_by (λ unit. unit) (codes " AND ") (printed_units parts)
  printed_condition (Or' shape parts) = join_by (λ unit. unit) (codes " OR ") (printed_units parts)

  pub printed_units : {n : _} → Row_of-Cond n → List (List ℕ)
  printed_units end_of-Cond = []
  printed_units (more_of-Cond first rest) = as_unit (is_simple first) (printed_condition first) ∷ printed_units rest

-- ---- clauses
abbrev pub printed_key : OrderKey → List ℕ
printed_key key = printed_path key.path ++ only_if key.descending (codes " DESC") ++ only_if key.nulls_last (codes " NULLS LAST")

abbrev pub printed_order : List OrderKey → List ℕ
printed_order [] = []
printed_order (first ∷ more) = codes " ORDER BY " ++ listed printed_key (first ∷ more)

abbrev pub printed_tail : Tail → List ℕ
printed_tail tail =
    codes " FROM " ++ tail.from ++ optional (codes " WHERE ") printed_condition tail.condition
    ++ printed_order tail.order ++ optional (codes " LIMIT ") decimal tail.limit

-- ---- queries
-- the rows of a child relationship
abbrev pub printed_child : List Path → Tail → List ℕ
printed_child paths tail = in_parentheses (codes "SELECT " ++ listed printed_path paths ++ printed_tail tail)

abbrev pub printed_item : Item → List ℕ
printed_item (item.Path path) = printed_path path
printed_item (item.Child paths tail) = printed_child paths tail

abbrev pub printed : Query → List ℕ
printed query = codes "SELECT " ++ listed printed_item query.select ++ printed_tail query.tail ++ optional (codes " OFFSET ") decimal query.offset
