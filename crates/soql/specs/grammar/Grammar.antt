-- The grammar of queries, over what it sees of tokens. The kinds of tokens are numbered by `kind`.
-- Source: Salesforce, "SOQL and SOSL Reference", "SOQL SELECT Syntax". The limits, and which clauses there are, are this
-- product's own.
use Rattle.std.specs.Prelude.{ℕ, zero, suc, ◌-◌, ◌==◌, nat_le, Bool, true, false, if◌then◌else◌, List, [], ◌∷◌, map, Option, Some, None}
use Rattle.base_grammar.specs.Counts.{plain_text}
use Rattle.base_grammar.specs.Part.{Part, one, empty, both, either, many, as_value}
use Rattle.base_grammar.specs.Part as part
use Rattle.base_grammar.specs.declared.token.Piece.{Piece}
use Rattle.base_grammar.specs.declared.token.Piece.TheVariants.{Plain, Escaped}
use Rattle.soql.specs.grammar.Signs.{kind}
use Rattle.soql.specs.declared.query.Cond.{Cond}
use Rattle.soql.specs.declared.query.Cond.TheVariants as c
use Rattle.soql.specs.declared.query.Item.{Item}
use Rattle.soql.specs.declared.query.Item.TheVariants as item
use Rattle.soql.specs.declared.query.LikePart.{LikePart}
use Rattle.soql.specs.declared.query.LikePart.TheVariants as like
use Rattle.soql.specs.declared.query.LikePattern.{LikePattern}
use Rattle.soql.specs.declared.query.Literal.{Literal}
use Rattle.soql.specs.declared.query.Literal.TheVariants as l
use Rattle.soql.specs.declared.query.Op.{Op}
use Rattle.soql.specs.declared.query.OrderKey.{OrderKey}
use Rattle.soql.specs.declared.query.Path.{Path}
use Rattle.soql.specs.declared.query.Query.{Query}
use Rattle.soql.specs.declared.query.Tail.{Tail}
use Rattle.soql.specs.declared.grammar.sign.Sign.{Sign}
use Rattle.soql.specs.declared.grammar.sign.Sign.TheVariants as sign

abbrev pub Signs : Type 0 → Type 1
Signs A = Part Sign A

-- ---- single tokens
abbrev pub name_in : Sign → Option (List ℕ)
name_in (sign.Name cs) = Some cs
name_in (sign.Today cs) = Some cs
name_in (sign.Yesterday cs) = Some cs
name_in (sign.Tomorrow cs) = Some cs
name_in _ = None

abbrev pub operator_in : Sign → Option Op
operator_in (sign.Op op) = Some op
operator_in _ = None

-- a text without `\%` and `\_`
abbrev pub text_literal : Option (List ℕ) → Option Literal
text_literal (Some cs) = Some (l.Text cs)
text_literal None = None

abbrev pub literal_in : Sign → Option Literal
literal_in sign.Null = Some l.Null
literal_in (sign.Truth truth) = Some (l.Bool truth)
literal_in (sign.Today cs) = Some l.Today
literal_in (sign.Yesterday cs) = Some l.Yesterday
literal_in (sign.Tomorrow cs) = Some l.Tomorrow
literal_in (sign.Number count whole) = Some (l.Num count)
literal_in (sign.Day day) = Some (l.Day day)
literal_in (sign.Moment second) = Some (l.Moment second)
literal_in (sign.Text pieces) = text_literal (plain_text pieces)
literal_in _ = None

-- `%` is any run and `_` one character; `\%`, `\_` and all others are themselves
unfoldable pub part_of : Piece → LikePart
part_of (Plain c) = if c == 37 then like.Many else (if c == 95 then like.One else like.Exact c)
part_of (Escaped c) = like.Exact c

abbrev pub parts_of : List Piece → List LikePart
parts_of pieces = map part_of pieces

abbrev pub pattern_in : Sign → Option LikePattern
pattern_in (sign.Text pieces) = Some (record { parts = parts_of pieces })
pattern_in _ = None

abbrev pub descending_in : Sign → Option Bool
descending_in (sign.Descending is) = Some is
descending_in _ = None

abbrev pub last_in : Sign → Option Bool
last_in (sign.Last is) = Some is
last_in _ = None

-- digits alone that spell at most this number
abbrev pub count_in : ℕ → Sign → Option ℕ
count_in most (sign.Number count (Some n)) = if nat_le n most then Some n else None
count_in most _ = None

-- ---- parts made of others
-- a part behind a token without a value, and one before it
abbrev pub after : {A : Type 0} → Sign → Signs A → Signs A
after token p = part.after kind (kind token) p

abbrev pub before : {A : Type 0} → Signs A → Sign → Signs A
before p token = part.before kind p (kind token)

abbrev pub in_parentheses : {A : Type 0} → Signs A → Signs A
in_parentheses p = after sign.Open (before p sign.Close)

-- one, and up to so many more, each behind such a token
abbrev pub separated : {A : Type 0} → Sign → ℕ → Signs A → Signs (List A)
separated token limit p = part.listed limit p (after token p)

-- one or more, with commas between
abbrev pub listed : {A : Type 0} → Signs A → Signs (List A)
listed p = as_value (λ v. v.0 ∷ v.1) (both p (λ _. part.any_number (after sign.Comma p)))

-- a part, or nothing
abbrev pub optional : {A : Type 0} → Signs A → A → Signs A
optional p otherwise = either p (empty otherwise)

-- ---- paths and literals
abbrev pub name : Signs (List ℕ)
name = one name_in

-- path = name {"." name}, at most 6 names
abbrev pub path : Signs Path
path = as_value (λ names. record { names = names }) (separated sign.Dot 5 name)

abbrev pub literal : Signs Literal
literal = one literal_in

-- "(" literal {"," literal} ")", at most 1,000
abbrev pub literals : Signs (List Literal)
literals = in_parentheses (separated sign.Comma 999 literal)

-- ---- conditions
-- op literal | LIKE text | IN literals | NOT IN literals, behind a path
abbrev pub ending : Path → Signs Cond
ending p =
    either (as_value (λ v. c.Test p v.0 v.1) (both (one operator_in) (λ _. literal)))
    (either (as_value (c.Like p) (after sign.Like (one pattern_in)))
    (either (as_value (c.In p false) (after sign.In literals))
    (as_value (c.In p true) (after sign.Not (after sign.In literals)))))

-- test = path ending
abbrev pub test : Signs Cond
test = as_value (λ v. v.1) (both path ending)

-- what makes a condition of a first unit: AND unit {AND unit} | OR unit {OR unit} | nothing
abbrev pub one_or_more : {A : Type 0} → Signs A → Signs (List A)
one_or_more p = as_value (λ v. v.0 ∷ v.1) (both p (λ _. part.any_number p))

abbrev pub chain : Signs Cond → Signs (Cond → Cond)
chain unit =
    either (as_value (λ more first. c.And (first ∷ more)) (one_or_more (after sign.And unit)))
    (either (as_value (λ more first. c.Or (first ∷ more)) (one_or_more (after sign.Or unit)))
    (empty (λ first. first)))

-- cond = unit | unit AND unit {AND unit} | unit OR unit {OR unit}
abbrev pub cond_of : Signs Cond → Signs Cond
cond_of unit = as_value (λ v. v.1 v.0) (both unit (λ _. chain unit))

-- unit = NOT unit | "(" cond ")" | test, in which NOT and parentheses nest at most so many levels
unfoldable pub unit : ℕ → Signs Cond
unit zero = test
unit (suc levels) = either (as_value c.Not (after sign.Not (unit levels))) (either (in_parentheses (cond_of (unit levels))) test)

unfoldable pub condition : Signs Cond
condition = cond_of (unit 32)

-- ---- clauses
-- key = path [ASC | DESC] [NULLS FIRST | NULLS LAST]
abbrev pub directed : Signs (Path × Bool)
directed = both path (λ _. optional (one descending_in) false)

abbrev pub key : Signs OrderKey
key =
    as_value (λ v. record { path = v.0.0; descending = v.0.1; nulls_last = v.1 })
    (both directed (λ _. optional (after sign.Nulls (one last_in)) false))

-- [ORDER BY key {"," key}], at most 32 keys
abbrev pub ordering : Signs (List OrderKey)
ordering = optional (after sign.Order (after sign.By (separated sign.Comma 31 key))) []

-- [WHERE cond]
abbrev pub filter : Signs (Option Cond)
filter = optional (as_value Some (after sign.Where condition)) None

-- [LIMIT n], at most 50,000, and [OFFSET n], at most 2,000
abbrev pub counted : Sign → ℕ → Signs (Option ℕ)
counted token most = optional (as_value Some (after token (one (count_in most)))) None

-- FROM name [WHERE cond], and the same with its order
abbrev pub sourced : Signs (List ℕ × Option Cond)
sourced = both (after sign.From name) (λ _. filter)

abbrev pub ordered : Signs ((List ℕ × Option Cond) × List OrderKey)
ordered = both sourced (λ _. ordering)

-- tail = FROM name [WHERE cond] [ORDER BY key {"," key}] [LIMIT n]
unfoldable pub tail : Signs Tail
tail =
    as_value (λ v. record { from = v.0.0.0; condition = v.0.0.1; order = v.0.1; limit = v.1 })
    (both ordered (λ _. counted sign.Limit 50000))

-- ---- items
-- "(" SELECT path {"," path} tail ")"
abbrev pub child : Signs Item
child = in_parentheses (as_value (λ v. item.Child v.0 v.1) (both (after sign.Select (listed path)) (λ _. tail)))

-- item = path | child, as long as some children are left
abbrev pub item_of : ℕ → Signs Item
item_of zero = as_value item.Path path
item_of (suc left) = either (as_value item.Path path) child

abbrev pub left_behind : ℕ → Item → ℕ
left_behind left (item.Path p) = left
left_behind left (item.Child paths rest) = left - 1

-- item {"," item}, with at most 20 children
abbrev pub items : Signs (List Item)
items =
    as_value (λ v. v.0 ∷ v.1)
    (both (item_of 20) (λ first. many (λ left. after sign.Comma (item_of left)) left_behind (left_behind 20 first)))

-- query = SELECT item {"," item} tail [OFFSET n]
unfoldable pub whole : Signs Query
whole =
    as_value (λ v. record { select = v.0.0; tail = v.0.1; offset = v.1 })
    (both (both (after sign.Select items) (λ _. tail)) (λ _. counted sign.Offset 2000))
