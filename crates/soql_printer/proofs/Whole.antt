-- The text of a query spells it again.
use Rattle.std.proofs.Common.{◌≡◌, ℕ, zero, suc, ◌+◌, ◌≤◌, Bool, true, false, inl, inr, List, [], ◌∷◌, ◌++◌, Option, Some, None, refl, sym, ap, ◌∙◌, append-nil, subst, codes, arith}
use Rattle.std.specs.Fmt.{decimal}
use Rattle.std.specs.List.{AllByRecursion, flat_map}
use Rattle.base_grammar.specs.Lexing.{tokens_of}
use Rattle.base_grammar.specs.Part.{Part, one, both, as_value, many}
use Rattle.base_grammar.specs.Tokens.{byte_len}
use Rattle.base_grammar.proofs.Fronts.{Fails}
use Rattle.base_grammar.proofs.Meets.{meets}
use Rattle.base_grammar.proofs.Tokenizing.{tokens_of-nil}
use Rattle.soql.specs.grammar.Grammar as g
use Rattle.soql.specs.grammar.Grammar.{count_in, descending_in, last_in, left_behind}
use Rattle.soql.specs.Lexis.{lexis}
use Rattle.soql.specs.grammar.Signs.{signs}
use Rattle.soql.specs.grammar.Spelling.{Spells}
use Rattle.soql.specs.declared.query.Cond.{Cond}
use Rattle.soql.specs.declared.query.Item.{Item}
use Rattle.soql.specs.declared.query.Item.TheVariants as item
use Rattle.soql.specs.declared.query.OrderKey.{OrderKey}
use Rattle.soql.specs.declared.query.Path.{Path}
use Rattle.soql.specs.declared.query.Query.{Query}
use Rattle.soql.specs.declared.query.Tail.{Tail}
use Rattle.soql.specs.declared.grammar.sign.Sign.{Sign}
use Rattle.soql.specs.declared.grammar.sign.Sign.TheVariants as sign
use Rattle.soql_printer.specs.Printing.{listed, only_if, optional, printed, printed_condition, printed_item, printed_key, printed_order, printed_path, printed_tail}
use Rattle.soql_printer.specs.Nesting.{item_levels, levels_if, nesting}
use Rattle.soql_printer.proofs.Keywords.{goes_on, by_reads, comma_blank_reads, desc_reads, ends, from_reads, last_reads, limit_reads, nulls_reads, offset_reads, order_reads, select_reads, spaced, where_reads}
use Rattle.soql_printer.proofs.Leaves.{all_anything, anything, count_prints, name_ends, path_prints}
use Rattle.soql_printer.proofs.Lexed.{Reads, nothing}
use Rattle.soql_printer.proofs.Nested.{blank_before, condition_prints, grouped_in, keyword_before}
use Rattle.soql_printer.proofs.Prints.{Prints, behind, prints_absent, prints_after, prints_as, prints_both, prints_left, prints_listed, prints_many, prints_one, prints_right, prints_separated, prints_some, prints_value, within}
use Rattle.soql_printer.proofs.Units.{all_below}
use Rattle.soql_printer.proofs.Written.{AreWritten, signs_written, written_split}

-- ---- keys
direction_prints : (is : Bool) → Prints (g.optional (one descending_in) false) goes_on (only_if is (codes " DESC")) is
direction_prints true =
    prints_some (one descending_in) false goes_on (codes " DESC") true
    (blank_before (one descending_in) (codes "DESC") true (prints_one descending_in goes_on (codes "DESC") (sign.Descending true) true (ends (codes "DESC") (sign.Descending true) desc_reads) refl))
direction_prints false = prints_absent (one descending_in) false goes_on

nulls_print : (is : Bool) → Prints (g.optional (g.after sign.Nulls (one last_in)) false) goes_on (only_if is (codes " NULLS LAST")) is
nulls_print true =
    prints_some (g.after sign.Nulls (one last_in)) false goes_on (codes " NULLS LAST") true
    (keyword_before sign.Nulls (one last_in) (codes "NULLS ") (codes "LAST") true (spaced (codes "NULLS") sign.Nulls nulls_reads)
    (prints_one last_in goes_on (codes "LAST") (sign.Last true) true (ends (codes "LAST") (sign.Last true) last_reads) refl))
nulls_print false = prints_absent (g.after sign.Nulls (one last_in)) false goes_on

direction_apart : (is : Bool) → Fails goes_on (only_if is (codes " DESC"))
direction_apart true = refl
direction_apart false = tt

nulls_apart : (is : Bool) → Fails goes_on (only_if is (codes " NULLS LAST"))
nulls_apart true = refl
nulls_apart false = tt

key_prints : (y : List Sign) (key : OrderKey) → g.key.spells y key → AreWritten y → Prints g.key goes_on (printed_key key) key
key_prints y key h w =
    let b = h.1 in
    let split = written_split b.0 b.1 (subst AreWritten b.2 w) in
    let d = b.3 in
    let inner = written_split d.0 d.1 (subst AreWritten d.2 split.0) in
    let path = path_prints d.0 h.0.0.0 d.3 inner.0 in
    prints_value g.key goes_on printed_key (record { path = h.0.0.0; descending = h.0.0.1; nulls_last = h.0.1 }) key (sym h.2)
    (prints_as {A = (Path × Bool) × Bool} (λ v. record { path = v.0.0; descending = v.0.1; nulls_last = v.1 }) (both g.directed (λ _. g.optional (g.after sign.Nulls (one last_in)) false)) goes_on _ ((h.0.0.0, h.0.0.1), h.0.1)
    (prints_both g.directed (λ _. g.optional (g.after sign.Nulls (one last_in)) false) goes_on _ (only_if h.0.1 (codes " NULLS LAST")) (h.0.0.0, h.0.0.1) h.0.1 (nulls_apart h.0.1)
    (prints_both g.path (λ _. g.optional (one descending_in) false) goes_on (printed_path h.0.0.0) (only_if h.0.0.1 (codes " DESC")) h.0.0.0 h.0.0.1 (direction_apart h.0.0.1) path (direction_prints h.0.0.1))
    (nulls_print h.0.1)))

abbrev keys : Part Sign (List OrderKey)
keys = g.separated sign.Comma 31 g.key

keys_print : (y : List Sign) (all : List OrderKey) → keys.spells y all → AreWritten y → Prints g.ordering goes_on (printed_order all) all
keys_print y [] h w = absurd (let no = h.2 in cc)
keys_print y (key ∷ all) h w =
    prints_some (g.after sign.Order (g.after sign.By keys)) [] goes_on _ (key ∷ all)
    (keyword_before sign.Order (g.after sign.By keys) (codes "ORDER ") _ (key ∷ all) (spaced (codes "ORDER") sign.Order order_reads)
    (prints_after sign.By keys goes_on (codes "BY ") (listed printed_key (key ∷ all)) (key ∷ all) (spaced (codes "BY") sign.By by_reads)
    (prints_separated sign.Comma g.key g.key goes_on (codes ", ") printed_key anything comma_blank_reads (λ cs. refl) (λ z a k v q. key_prints z a k v) 31 y (key ∷ all) h w (all_anything (key ∷ all)))))

ordering_prints : (y : List Sign) (all : List OrderKey) → g.ordering.spells y all → AreWritten y → Prints g.ordering goes_on (printed_order all) all
ordering_prints y all (inl h) w =
    let order = behind sign.Order (g.after sign.By keys) y all h w in
    let by = behind sign.By keys order.0 all order.1 order.2 in
    keys_print by.0 all by.1 by.2
ordering_prints y all (inr h) w =
    prints_value g.ordering goes_on printed_order [] all (sym h.1) (prints_absent (g.after sign.Order (g.after sign.By keys)) [] goes_on)

-- ---- what may be absent
optional_apart : {A : Type 0} (word : List ℕ) (print : A → List ℕ) (o : Option A) → ((cs : List ℕ) → Fails goes_on (word ++ cs)) → Fails goes_on (optional word print o)
optional_apart word print None f = tt
optional_apart word print (Some a) f = f (print a)

order_apart : (all : List OrderKey) → Fails goes_on (printed_order all)
order_apart [] = tt
order_apart (key ∷ all) = refl

abbrev filtered : Part Sign (Option Cond)
filtered = as_value Some (g.after sign.Where g.condition)

filter_prints : (y : List Sign) (o : Option Cond) → g.filter.spells y o → AreWritten y → levels_if o ≤ 32 → Prints g.filter goes_on (optional (codes " WHERE ") printed_condition o) o
filter_prints y None h w few = prints_absent filtered None goes_on
filter_prints y (Some c) (inl h) w few =
    let same : h.0 ≡ c = cc (h.2) in
    let P : Cond → Type 0 = λ z. (g.after sign.Where g.condition).spells y z in
    let b = behind sign.Where g.condition y c (subst P same h.1) w in
    prints_some filtered None goes_on _ (Some c)
    (prints_as Some (g.after sign.Where g.condition) goes_on _ c
    (keyword_before sign.Where g.condition (codes "WHERE ") (printed_condition c) c (spaced (codes "WHERE") sign.Where where_reads) (condition_prints b.0 c b.1 b.2 few)))
filter_prints y (Some c) (inr h) w few = let no = h.1 in absurd (cc)

module _ (token : Sign) (word : List ℕ) (reads : Reads nothing word (token ∷ [])) (most : ℕ) (few : most ≤ 50000) where
  abbrev limited : Part Sign (Option ℕ)
  limited = as_value Some (g.after token (one (count_in most)))

  counted_prints : (y : List Sign) (o : Option ℕ) → (g.counted token most).spells y o → AreWritten y → Prints (g.counted token most) goes_on (optional (32 ∷ word) decimal o) o
  counted_prints y None h w = prints_absent limited None goes_on
  counted_prints y (Some n) (inl h) w =
      let same : h.0 ≡ n = cc (h.2) in
      let P : ℕ → Type 0 = λ z. (g.after token (one (count_in most))).spells y z in
      let b = behind token (one (count_in most)) y n (subst P same h.1) w in
      prints_some limited None goes_on _ (Some n)
      (prints_as Some (g.after token (one (count_in most))) goes_on _ n
      (keyword_before token (one (count_in most)) word (decimal n) n reads (count_prints most b.0 n few b.1)))
  counted_prints y (Some n) (inr h) w = let no = h.1 in absurd (cc)

-- ---- tails
abbrev limit : Part Sign (Option ℕ)
limit = g.counted sign.Limit 50000

tail_prints : (y : List Sign) (tail : Tail) → g.tail.spells y tail → AreWritten y → levels_if tail.condition ≤ 32 → Prints g.tail goes_on (printed_tail tail) tail
unfolding g.tail
tail_prints y tail h w few =
    let b = h.1 in
    let split = written_split b.0 b.1 (subst AreWritten b.2 w) in
    let o = b.3 in
    let ordered = written_split o.0 o.1 (subst AreWritten o.2 split.0) in
    let s = o.3 in
    let sourced = written_split s.0 s.1 (subst AreWritten s.2 ordered.0) in
    let from = h.0.0.0.0 in
    let condition = h.0.0.0.1 in
    let order = h.0.0.1 in
    let rows = h.0.1 in
    let small : levels_if condition ≤ 32 = subst (λ (t : Tail). levels_if t.condition ≤ 32) h.2 few in
    let name = behind sign.From g.name s.0 from s.3 sourced.0 in
    prints_value g.tail goes_on printed_tail (record { from = from; condition = condition; order = order; limit = rows }) tail (sym h.2)
    (prints_as {A = ((List ℕ × Option Cond) × List OrderKey) × Option ℕ} (λ v. record { from = v.0.0.0; condition = v.0.0.1; order = v.0.1; limit = v.1 }) (both g.ordered (λ _. limit)) goes_on _ (((from, condition), order), rows)
    (prints_both g.ordered (λ _. limit) goes_on _ (optional (codes " LIMIT ") decimal rows) ((from, condition), order) rows (optional_apart (codes " LIMIT ") decimal rows (λ cs. refl))
    (prints_both g.sourced (λ _. g.ordering) goes_on _ (printed_order order) (from, condition) order (order_apart order)
    (prints_both (g.after sign.From g.name) (λ _. g.filter) goes_on (codes " FROM " ++ from) (optional (codes " WHERE ") printed_condition condition) from condition (optional_apart (codes " WHERE ") printed_condition condition (λ cs. refl))
    (keyword_before sign.From g.name (codes "FROM ") from from (spaced (codes "FROM") sign.From from_reads) (name_ends name.0 from name.1 name.2))
    (filter_prints s.1 condition s.4 sourced.1 small))
    (ordering_prints o.1 order o.4 ordered.1))
    (counted_prints sign.Limit (codes "LIMIT ") (spaced (codes "LIMIT") sign.Limit limit_reads) 50000 (omega arith) b.1 rows b.4 split.1)))

-- ---- items
paths_print : (y : List Sign) (all : List Path) → (g.listed g.path).spells y all → AreWritten y → Prints (g.listed g.path) goes_on (listed printed_path all) all
paths_print y all h w =
    prints_listed sign.Comma g.path g.path goes_on (codes ", ") printed_path anything comma_blank_reads (λ cs. refl) (λ z a k v q. path_prints z a k v) y all h w (all_anything all)

abbrev rows : Part Sign Item
rows = as_value {A = List Path × Tail} (λ v. item.Child v.0 v.1) (both (g.after sign.Select (g.listed g.path)) (λ _. g.tail))

tail_apart : (tail : Tail) → Fails goes_on (printed_tail tail)
tail_apart tail = refl

child_prints : (y : List Sign) (child : Item) → g.child.spells y child → AreWritten y → item_levels child ≤ 32 → Prints g.child goes_on (printed_item child) child
child_prints y child h w few =
    let inner = within rows y child h w in
    let v = inner.1.0 in
    let b = inner.1.1 in
    let split = written_split b.0 b.1 (subst AreWritten b.2 inner.2) in
    let select = behind sign.Select (g.listed g.path) b.0 v.0 b.3 split.0 in
    let small : levels_if v.1.condition ≤ 32 = subst (λ (i : Item). item_levels i ≤ 32) inner.1.2 few in
    prints_value g.child goes_on printed_item (item.Child v.0 v.1) child (sym inner.1.2)
    (grouped_in rows (codes "SELECT " ++ listed printed_path v.0 ++ printed_tail v.1) (item.Child v.0 v.1)
    (prints_as {A = List Path × Tail} (λ v. item.Child v.0 v.1) (both (g.after sign.Select (g.listed g.path)) (λ _. g.tail)) goes_on _ (v.0, v.1)
    (prints_both (g.after sign.Select (g.listed g.path)) (λ _. g.tail) goes_on (codes "SELECT " ++ listed printed_path v.0) (printed_tail v.1) v.0 v.1 (tail_apart v.1)
    (prints_after sign.Select (g.listed g.path) goes_on (codes "SELECT ") (listed printed_path v.0) v.0 (spaced (codes "SELECT") sign.Select select_reads) (paths_print select.0 v.0 select.1 select.2))
    (tail_prints b.1 v.1 b.4 split.1 small))))

path_item_prints : (y : List Sign) (one : Item) → (as_value item.Path g.path).spells y one → AreWritten y → Prints (as_value item.Path g.path) goes_on (printed_item one) one
path_item_prints y one h w =
    prints_value (as_value item.Path g.path) goes_on printed_item (item.Path h.0) one (sym h.2)
    (prints_as item.Path g.path goes_on (printed_path h.0) h.0 (path_prints y h.0 h.1 w))

item_prints : (left : ℕ) (y : List Sign) (one : Item) → (g.item_of left).spells y one → AreWritten y → item_levels one ≤ 32 → Prints (g.item_of left) goes_on (printed_item one) one
item_prints zero y one h w few = path_item_prints y one h w
item_prints (suc left) y one (inl h) w few = prints_left (as_value item.Path g.path) g.child goes_on (printed_item one) one (path_item_prints y one h w)
item_prints (suc left) y one (inr h) w few = prints_right (as_value item.Path g.path) g.child goes_on (printed_item one) one (child_prints y one h w few)

abbrev IsShallow : Item → Type 0
IsShallow one = item_levels one ≤ 32

next_item_prints : (left : ℕ) (y : List Sign) (one : Item) → (g.after sign.Comma (g.item_of left)).spells y one → AreWritten y → IsShallow one
    → Prints (g.after sign.Comma (g.item_of left)) goes_on (codes ", " ++ printed_item one) one
next_item_prints left y one h w few =
    let b = behind sign.Comma (g.item_of left) y one h w in
    prints_after sign.Comma (g.item_of left) goes_on (codes ", ") (printed_item one) one comma_blank_reads (item_prints left b.0 one b.1 b.2 few)

abbrev more_items : Item → Part Sign (List Item)
more_items first = many (λ left. g.after sign.Comma (g.item_of left)) left_behind (left_behind 20 first)

more_apart : (all : List Item) → Fails goes_on (flat_map (λ one. codes ", " ++ printed_item one) all)
more_apart [] = tt
more_apart (one ∷ all) = refl

items_print : (y : List Sign) (all : List Item) → g.items.spells y all → AreWritten y → AllByRecursion IsShallow all → Prints g.items goes_on (listed printed_item all) all
items_print y all h w few =
    let b = h.1 in
    let split = written_split b.0 b.1 (subst AreWritten b.2 w) in
    let few = subst (AllByRecursion IsShallow) h.2 few in
    let first = item_prints 20 b.0 h.0.0 b.3 split.0 few.0 in
    let rest = prints_many (λ left. g.after sign.Comma (g.item_of left)) (λ left. g.after sign.Comma (g.item_of left)) left_behind goes_on (λ one. codes ", " ++ printed_item one) IsShallow (λ one. refl)
    next_item_prints (left_behind 20 h.0.0) h.0.1 b.1 b.4 split.1 few.1 in
    prints_value g.items goes_on (listed printed_item) (h.0.0 ∷ h.0.1) all (sym h.2)
    (prints_as {A = Item × List Item} (λ v. v.0 ∷ v.1) (both (g.item_of 20) more_items) goes_on _ (h.0.0, h.0.1)
    (prints_both (g.item_of 20) more_items goes_on (printed_item h.0.0) (flat_map (λ one. codes ", " ++ printed_item one) h.0.1) h.0.0 h.0.1 (more_apart h.0.1) first rest))

-- ---- queries
abbrev offset : Part Sign (Option ℕ)
offset = g.counted sign.Offset 2000

abbrev selected : Part Sign (List Item × Tail)
selected = both (g.after sign.Select g.items) (λ _. g.tail)

whole_prints : (y : List Sign) (query : Query) → g.whole.spells y query → AreWritten y → nesting query ≤ 32 → Prints g.whole goes_on (printed query) query
unfolding g.whole
whole_prints y query h w few =
    let b = h.1 in
    let split = written_split b.0 b.1 (subst AreWritten b.2 w) in
    let s = b.3 in
    let inner = written_split s.0 s.1 (subst AreWritten s.2 split.0) in
    let items = h.0.0.0 in
    let tail = h.0.0.1 in
    let first = h.0.1 in
    let small = subst (λ (q : Query). nesting q ≤ 32) h.2 few in
    let shallow = all_below item_levels 32 items (omega arith) in
    let within : levels_if tail.condition ≤ 32 = omega arith in
    let select = behind sign.Select g.items s.0 items s.3 inner.0 in
    prints_value g.whole goes_on printed (record { select = items; tail = tail; offset = first }) query (sym h.2)
    (prints_as {A = (List Item × Tail) × Option ℕ} (λ v. record { select = v.0.0; tail = v.0.1; offset = v.1 }) (both selected (λ _. offset)) goes_on _ ((items, tail), first)
    (prints_both selected (λ _. offset) goes_on _ (optional (codes " OFFSET ") decimal first) (items, tail) first (optional_apart (codes " OFFSET ") decimal first (λ cs. refl))
    (prints_both (g.after sign.Select g.items) (λ _. g.tail) goes_on (codes "SELECT " ++ listed printed_item items) (printed_tail tail) items tail (tail_apart tail)
    (prints_after sign.Select g.items goes_on (codes "SELECT ") (listed printed_item items) items (spaced (codes "SELECT") sign.Select select_reads) (items_print select.0 items select.1 select.2 shallow))
    (tail_prints s.1 tail s.4 inner.1 within))
    (counted_prints sign.Offset (codes "OFFSET ") (spaced (codes "OFFSET") sign.Offset offset_reads) 2000 (omega arith) b.1 first b.4 split.1)))

-- the tokens of what is printed are those that were read
pub spelled_again : (text : List ℕ) (query : Query) → Spells text query → nesting query ≤ 32 → Spells (printed query) query
spelled_again text query h few =
    let again = whole_prints (signs h.0) query h.2 (signs_written h.0 0 text h.1) few in
    let all = tokens_of lexis 0 (printed query) in
    let same : signs all ≡ again.ss =
    ap (λ cs. signs (tokens_of lexis 0 cs)) (sym (append-nil (printed query))) ∙ again.reads.are 0 [] tt
    ∙ ap (λ ts. again.ss ++ signs ts) (tokens_of-nil lexis (0 + byte_len (printed query))) ∙ append-nil again.ss in
    let P : List Sign → Type 0 = λ ss. g.whole.spells ss query in
    (all, meets lexis 0 (printed query), subst P (sym same) again.spells)
