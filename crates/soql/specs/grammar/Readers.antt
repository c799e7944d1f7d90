-- Reading of queries, by a function on what the grammar sees of tokens, one for each part of the grammar.
use Rattle.std.specs.Prelude.{ℕ, zero, suc, Bool, true, false, List, [], ◌∷◌, Option, Some, None, Ok}
use Rattle.base_grammar.specs.Reader.{Reader, ◌>>=◌, read_one, read_empty, read_either, repeat, with_front}
use Rattle.base_grammar.specs.Reader as reader
use Rattle.soql.specs.grammar.Grammar.{name_in, operator_in, literal_in, pattern_in, descending_in, last_in, count_in, left_behind}
use Rattle.soql.specs.grammar.Signs.{kind}
use Rattle.soql.specs.declared.query.Cond.{Cond}
use Rattle.soql.specs.declared.query.Cond.TheVariants as c
use Rattle.soql.specs.declared.query.Item.{Item}
use Rattle.soql.specs.declared.query.Item.TheVariants as item
use Rattle.soql.specs.declared.query.LikePattern.{LikePattern}
use Rattle.soql.specs.declared.query.Literal.{Literal}
use Rattle.soql.specs.declared.query.Op.{Op}
use Rattle.soql.specs.declared.query.OrderKey.{OrderKey}
use Rattle.soql.specs.declared.query.Path.{Path}
use Rattle.soql.specs.declared.query.Query.{Query}
use Rattle.soql.specs.declared.query.Tail.{Tail}
use Rattle.soql.specs.declared.grammar.sign.Sign.{Sign}

abbrev pub Reads : Type 0 → Type 0
Reads A = Reader Sign A

-- ---- single tokens
unfoldable pub name : Reads (List ℕ)
name = read_one name_in

unfoldable pub literal : Reads Literal
literal = read_one literal_in

unfoldable pub operator : Reads Op
operator = read_one operator_in

unfoldable pub pattern : Reads LikePattern
pattern = read_one pattern_in

unfoldable pub descending : Reads Bool
descending = read_one descending_in

unfoldable pub last : Reads Bool
last = read_one last_in

unfoldable pub count : ℕ → Reads ℕ
count most = read_one (count_in most)

-- ---- parts made of others
-- so many more, each behind a token of this kind
abbrev pub more_of : {A : Type 0} → ℕ → ℕ → Reads A → Reads (List A)
more_of code limit p = reader.repeated kind (code ∷ []) limit (reader.after kind code p)

abbrev pub separated : {A : Type 0} → ℕ → ℕ → Reads A → Reads (List A)
separated code limit p ts = p ts >>= λ got. with_front (got.0 ∷ []) (more_of code limit p got.1)

abbrev pub in_parentheses : {A : Type 0} → Reads A → Reads A
in_parentheses p = reader.after kind 26 (reader.before kind p 27)

-- ---- paths and literals
unfoldable pub more_names : ℕ → Reads (List (List ℕ))
more_names limit = more_of 29 limit name

unfoldable pub names : Reads (List (List ℕ))
names ts = name ts >>= λ got. with_front (got.0 ∷ []) (more_names 5 got.1)

unfoldable pub path : Reads Path
path ts = names ts >>= λ got. Ok (record { names = got.0 }, got.1)

unfoldable pub more_literals : ℕ → Reads (List Literal)
more_literals limit = more_of 28 limit literal

unfoldable pub literal_list : Reads (List Literal)
literal_list ts = literal ts >>= λ got. with_front (got.0 ∷ []) (more_literals 999 got.1)

unfoldable pub literals : Reads (List Literal)
literals = in_parentheses literal_list

-- ---- conditions
unfoldable pub comparison : Path → Reads Cond
comparison p ts = operator ts >>= λ o. literal o.1 >>= λ l. Ok (c.Test p o.0 l.0, l.1)

unfoldable pub likeness : Path → Reads Cond
likeness p ts = reader.after kind 8 pattern ts >>= λ got. Ok (c.Like p got.0, got.1)

unfoldable pub membership : Path → Reads Cond
membership p ts = reader.after kind 7 literals ts >>= λ got. Ok (c.In p false got.0, got.1)

unfoldable pub exclusion : Path → Reads Cond
exclusion p ts = reader.after kind 6 (reader.after kind 7 literals) ts >>= λ got. Ok (c.In p true got.0, got.1)

unfoldable pub ending : Path → Reads Cond
ending p =
    read_either kind (25 ∷ []) (comparison p) (read_either kind (8 ∷ []) (likeness p) (read_either kind (7 ∷ []) (membership p) (exclusion p)))

unfoldable pub of_path : Reads Cond
of_path ts = path ts >>= λ p. ending p.0 p.1

module _ (unit : Reads Cond) where
  -- the units behind AND, by 4, or OR, by 5
  unfoldable pub more_units : ℕ → Reads (List Cond)
  more_units code = reader.any_number kind (code ∷ []) (reader.after kind code unit)

  -- behind the first
  unfoldable pub joined : ℕ → Cond → Reads (List Cond)
  joined code first ts = reader.after kind code unit ts >>= λ got. with_front (first ∷ got.0 ∷ []) (more_units code got.1)

  unfoldable pub conjunction : Cond → Reads Cond
  conjunction first ts = joined 4 first ts >>= λ all. Ok (c.And all.0, all.1)

  unfoldable pub disjunction : Cond → Reads Cond
  disjunction first ts = joined 5 first ts >>= λ all. Ok (c.Or all.0, all.1)

  unfoldable pub chain : Cond → Reads Cond
  chain first = read_either kind (4 ∷ []) (conjunction first) (read_either kind (5 ∷ []) (disjunction first) (read_empty first))

  unfoldable pub cond_of : Reads Cond
  cond_of ts = unit ts >>= λ first. chain first.0 first.1

  unfoldable pub negation : Reads Cond
  negation ts = reader.after kind 6 unit ts >>= λ got. Ok (c.Not got.0, got.1)

  unfoldable pub group : Reads Cond
  group = in_parentheses cond_of

  unfoldable pub inner : Reads Cond
  inner = read_either kind (6 ∷ []) negation (read_either kind (26 ∷ []) group of_path)

unfoldable pub unit : ℕ → Reads Cond
unit zero = of_path
unit (suc levels) = inner (unit levels)

unfoldable pub condition : Reads Cond
condition = cond_of (unit 32)

-- ---- clauses
unfoldable pub direction : Reads Bool
direction = read_either kind (16 ∷ []) descending (read_empty false)

unfoldable pub nulls : Reads Bool
nulls = read_either kind (17 ∷ []) (reader.after kind 17 last) (read_empty false)

unfoldable pub directed : Reads (Path × Bool)
directed ts = path ts >>= λ p. direction p.1 >>= λ d. Ok ((p.0, d.0), d.1)

unfoldable pub key : Reads OrderKey
key ts = directed ts >>= λ d. nulls d.1 >>= λ n. Ok (record { path = d.0.0; descending = d.0.1; nulls_last = n.0 }, n.1)

unfoldable pub more_keys : ℕ → Reads (List OrderKey)
more_keys limit = more_of 28 limit key

unfoldable pub keys : Reads (List OrderKey)
keys ts = key ts >>= λ got. with_front (got.0 ∷ []) (more_keys 31 got.1)

unfoldable pub ordering : Reads (List OrderKey)
ordering = read_either kind (14 ∷ []) (reader.after kind 14 (reader.after kind 15 keys)) (read_empty [])

unfoldable pub filtered : Reads (Option Cond)
filtered ts = reader.after kind 13 condition ts >>= λ got. Ok (Some got.0, got.1)

unfoldable pub filter : Reads (Option Cond)
filter = read_either kind (13 ∷ []) filtered (read_empty None)

unfoldable pub counted : ℕ → ℕ → Reads (Option ℕ)
counted code most ts = reader.after kind code (count most) ts >>= λ got. Ok (Some got.0, got.1)

unfoldable pub limit : Reads (Option ℕ)
limit = read_either kind (19 ∷ []) (counted 19 50000) (read_empty None)

unfoldable pub offset : Reads (Option ℕ)
offset = read_either kind (20 ∷ []) (counted 20 2000) (read_empty None)

unfoldable pub sourced : Reads (List ℕ × Option Cond)
sourced ts = reader.after kind 12 name ts >>= λ from. filter from.1 >>= λ f. Ok ((from.0, f.0), f.1)

unfoldable pub ordered : Reads ((List ℕ × Option Cond) × List OrderKey)
ordered ts = sourced ts >>= λ s. ordering s.1 >>= λ o. Ok ((s.0, o.0), o.1)

unfoldable pub tail : Reads Tail
tail ts = ordered ts >>= λ o. limit o.1 >>= λ n. Ok (record { from = o.0.0.0; condition = o.0.0.1; order = o.0.1; limit = n.0 }, n.1)

-- ---- items
unfoldable pub more_paths : Reads (List Path)
more_paths = reader.any_number kind (28 ∷ []) (reader.after kind 28 path)

unfoldable pub paths : Reads (List Path)
paths ts = path ts >>= λ got. with_front (got.0 ∷ []) (more_paths got.1)

unfoldable pub within_child : Reads Item
within_child ts = reader.after kind 11 paths ts >>= λ p. tail p.1 >>= λ t. Ok (item.Child p.0 t.0, t.1)

unfoldable pub child : Reads Item
child = in_parentheses within_child

unfoldable pub path_item : Reads Item
path_item ts = path ts >>= λ p. Ok (item.Path p.0, p.1)

unfoldable pub any_item : Reads Item
any_item = read_either kind (0 ∷ 1 ∷ 2 ∷ 3 ∷ []) path_item child

unfoldable pub item_of : ℕ → Reads Item
item_of zero = path_item
item_of (suc left) = any_item

unfoldable pub more_items : ℕ → Reads (List Item)
more_items left = repeat kind (28 ∷ []) (λ n. reader.after kind 28 (item_of n)) left_behind left

unfoldable pub items : Reads (List Item)
items ts = item_of 20 ts >>= λ got. with_front (got.0 ∷ []) (more_items (left_behind 20 got.0) got.1)

unfoldable pub selected : Reads (List Item × Tail)
selected ts = reader.after kind 11 items ts >>= λ got. tail got.1 >>= λ t. Ok ((got.0, t.0), t.1)

unfoldable pub whole : Reads Query
whole ts = selected ts >>= λ s. offset s.1 >>= λ n. Ok (record { select = s.0.0; tail = s.0.1; offset = n.0 }, n.1)
