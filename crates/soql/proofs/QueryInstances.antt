-- Each function that reads clauses and whole queries is exact for its part of the grammar.
use Rattle.std.proofs.Common.{◌≡◌, ℕ, zero, suc, Bool, true, false, List, [], ◌∷◌, Some, None, refl, ◌∙◌}
use Rattle.std.proofs.lemmas.Bool.{or_left}
use Rattle.base_grammar.specs.Part.{Part, one, empty, both, either, many, as_value}
use Rattle.base_grammar.specs.Part as part
use Rattle.base_grammar.specs.Reader.{Reader, read_empty, read_either, elem}
use Rattle.base_grammar.specs.Reader as reader
use Rattle.base_grammar.specs.Exact.{Exact}
use Rattle.base_grammar.proofs.Sets.{elem-append}
use Rattle.base_grammar.proofs.Exact.{one_exact, empty_exact, as_exact, both_exact, either_exact, many_exact}
use Rattle.base_grammar.proofs.Pairs.{after_exact, pair_exact, pair_exact_0, any_exact, wider_first}
use Rattle.soql.specs.grammar.Grammar as g
use Rattle.soql.specs.grammar.Grammar.{descending_in, last_in, count_in, left_behind}
use Rattle.soql.specs.grammar.Readers as spec
use Rattle.soql.specs.grammar.Signs.{kind}
use Rattle.soql.specs.declared.query.Item.TheVariants as item
use Rattle.soql.specs.declared.grammar.sign.Sign.{Sign}
use Rattle.soql.specs.declared.grammar.sign.Sign.TheVariants as sign
use Rattle.soql.proofs.Instances.{name_exact, path_exact, condition_exact, separated_exact, in_parentheses_exact, unit_firsts}

-- ---- single tokens
descending_exact : Exact kind (one descending_in) spec.descending (16 ∷ []) [] false
unfolding spec.descending
descending_exact = one_exact kind descending_in (16 ∷ []) all
  where
    all : (x : Sign) (a : Bool) → descending_in x ≡ Some a → elem (kind x) (16 ∷ []) ≡ true
    all (sign.Descending is) a h = refl
    all _ a h = absurd (cc)

last_exact : Exact kind (one last_in) spec.last (18 ∷ []) [] false
unfolding spec.last
last_exact = one_exact kind last_in (18 ∷ []) all
  where
    all : (x : Sign) (a : Bool) → last_in x ≡ Some a → elem (kind x) (18 ∷ []) ≡ true
    all (sign.Last is) a h = refl
    all _ a h = absurd (cc)

count_exact : (most : ℕ) → Exact kind (one (count_in most)) (spec.count most) (21 ∷ []) [] false
unfolding spec.count
count_exact most = one_exact kind (count_in most) (21 ∷ []) all
  where
    all : (x : Sign) (a : ℕ) → count_in most x ≡ Some a → elem (kind x) (21 ∷ []) ≡ true
    all (sign.Number count whole) a h = refl
    all _ a h = absurd (cc)

-- ---- keys
direction_exact : Exact kind (g.optional (one descending_in) false) spec.direction (16 ∷ []) (16 ∷ []) true
unfolding spec.direction
direction_exact = either_exact kind _ _ spec.descending (read_empty false) (16 ∷ []) [] [] [] true descending_exact (empty_exact kind false) refl

nulls_exact : Exact kind (g.optional (part.after kind 17 (one last_in)) false) spec.nulls (17 ∷ []) (17 ∷ []) true
unfolding spec.nulls
nulls_exact =
    either_exact kind _ _ (reader.after kind 17 spec.last) (read_empty false) (17 ∷ []) [] [] [] true
    (after_exact kind 17 (one last_in) spec.last (18 ∷ []) [] last_exact) (empty_exact kind false) refl

directed_exact : Exact kind g.directed spec.directed (0 ∷ 1 ∷ 2 ∷ 3 ∷ []) (16 ∷ 29 ∷ []) false
unfolding spec.directed
directed_exact =
    both_exact kind g.path spec.path (0 ∷ 1 ∷ 2 ∷ 3 ∷ []) (29 ∷ []) false (λ _. g.optional (one descending_in) false) (λ _. spec.direction) (16 ∷ []) (16 ∷ []) true
    path_exact (λ _. direction_exact) refl

pub key_exact : Exact kind g.key spec.key (0 ∷ 1 ∷ 2 ∷ 3 ∷ []) (17 ∷ 16 ∷ 29 ∷ []) false
unfolding spec.key
key_exact =
    pair_exact_0 kind (λ d n. record { path = d.0; descending = d.1; nulls_last = n }) g.directed spec.directed (0 ∷ 1 ∷ 2 ∷ 3 ∷ []) (16 ∷ 29 ∷ [])
    (λ _. g.optional (part.after kind 17 (one last_in)) false) (λ _. spec.nulls) (17 ∷ []) (17 ∷ []) directed_exact (λ _. nulls_exact) refl

keys_exact : Exact kind (g.separated sign.Comma 31 g.key) spec.keys (0 ∷ 1 ∷ 2 ∷ 3 ∷ []) (28 ∷ 17 ∷ 16 ∷ 29 ∷ 17 ∷ 16 ∷ 29 ∷ []) false
unfolding spec.keys spec.more_keys
keys_exact = separated_exact 28 31 g.key spec.key (0 ∷ 1 ∷ 2 ∷ 3 ∷ []) (17 ∷ 16 ∷ 29 ∷ []) key_exact refl

-- ---- clauses
abbrev key_goes : List ℕ
key_goes = 28 ∷ 17 ∷ 16 ∷ 29 ∷ 17 ∷ 16 ∷ 29 ∷ []

ordering_exact : Exact kind g.ordering spec.ordering (14 ∷ []) (28 ∷ 17 ∷ 16 ∷ 29 ∷ 17 ∷ 16 ∷ 29 ∷ 14 ∷ []) true
unfolding spec.ordering
ordering_exact =
    let behind_by = after_exact kind 15 (g.separated sign.Comma 31 g.key) spec.keys (0 ∷ 1 ∷ 2 ∷ 3 ∷ []) key_goes keys_exact in
    either_exact kind _ _ (reader.after kind 14 (reader.after kind 15 spec.keys)) (read_empty []) (14 ∷ []) key_goes [] [] true
    (after_exact kind 14 (part.after kind 15 (g.separated sign.Comma 31 g.key)) (reader.after kind 15 spec.keys) (15 ∷ []) key_goes behind_by) (empty_exact kind []) refl

filter_exact : Exact kind g.filter spec.filter (13 ∷ []) (4 ∷ 5 ∷ 5 ∷ 4 ∷ 13 ∷ []) true
unfolding spec.filter spec.filtered
filter_exact =
    either_exact kind _ _ spec.filtered (read_empty None) (13 ∷ []) (4 ∷ 5 ∷ 5 ∷ 4 ∷ []) [] [] true
    (as_exact kind Some (part.after kind 13 g.condition) (reader.after kind 13 spec.condition) (13 ∷ []) (4 ∷ 5 ∷ 5 ∷ 4 ∷ []) false
    (after_exact kind 13 g.condition spec.condition unit_firsts (4 ∷ 5 ∷ 5 ∷ 4 ∷ []) condition_exact)) (empty_exact kind None) refl

counted_exact : (code most : ℕ) → Exact kind (as_value Some (part.after kind code (one (count_in most)))) (spec.counted code most) (code ∷ []) [] false
unfolding spec.counted
counted_exact code most =
    as_exact kind Some (part.after kind code (one (count_in most))) (reader.after kind code (spec.count most)) (code ∷ []) [] false
    (after_exact kind code (one (count_in most)) (spec.count most) (21 ∷ []) [] (count_exact most))

limit_exact : Exact kind (g.counted sign.Limit 50000) spec.limit (19 ∷ []) (19 ∷ []) true
unfolding spec.limit
limit_exact = either_exact kind _ _ (spec.counted 19 50000) (read_empty None) (19 ∷ []) [] [] [] true (counted_exact 19 50000) (empty_exact kind None) refl

offset_exact : Exact kind (g.counted sign.Offset 2000) spec.offset (20 ∷ []) (20 ∷ []) true
unfolding spec.offset
offset_exact = either_exact kind _ _ (spec.counted 20 2000) (read_empty None) (20 ∷ []) [] [] [] true (counted_exact 20 2000) (empty_exact kind None) refl

sourced_exact : Exact kind g.sourced spec.sourced (12 ∷ []) (4 ∷ 5 ∷ 5 ∷ 4 ∷ 13 ∷ []) false
unfolding spec.sourced
sourced_exact =
    both_exact kind (part.after kind 12 g.name) (reader.after kind 12 spec.name) (12 ∷ []) [] false (λ _. g.filter) (λ _. spec.filter) (13 ∷ []) (4 ∷ 5 ∷ 5 ∷ 4 ∷ 13 ∷ []) true
    (after_exact kind 12 g.name spec.name (0 ∷ 1 ∷ 2 ∷ 3 ∷ []) [] name_exact) (λ _. filter_exact) refl

abbrev ordered_goes : List ℕ
ordered_goes = 28 ∷ 17 ∷ 16 ∷ 29 ∷ 17 ∷ 16 ∷ 29 ∷ 14 ∷ 4 ∷ 5 ∷ 5 ∷ 4 ∷ 13 ∷ []

ordered_exact : Exact kind g.ordered spec.ordered (12 ∷ []) ordered_goes false
unfolding spec.ordered
ordered_exact =
    both_exact kind g.sourced spec.sourced (12 ∷ []) (4 ∷ 5 ∷ 5 ∷ 4 ∷ 13 ∷ []) false (λ _. g.ordering) (λ _. spec.ordering) (14 ∷ []) (28 ∷ 17 ∷ 16 ∷ 29 ∷ 17 ∷ 16 ∷ 29 ∷ 14 ∷ []) true
    sourced_exact (λ _. ordering_exact) refl

abbrev pub tail_goes : List ℕ
tail_goes = 19 ∷ ordered_goes

tail_exact : Exact kind g.tail spec.tail (12 ∷ []) tail_goes false
unfolding g.tail spec.tail
tail_exact =
    pair_exact_0 kind (λ o n. record { from = o.0.0; condition = o.0.1; order = o.1; limit = n }) g.ordered spec.ordered (12 ∷ []) ordered_goes
    (λ _. g.counted sign.Limit 50000) (λ _. spec.limit) (19 ∷ []) (19 ∷ []) ordered_exact (λ _. limit_exact) refl

-- ---- items
paths_exact : Exact kind (g.listed g.path) spec.paths (0 ∷ 1 ∷ 2 ∷ 3 ∷ []) (28 ∷ 29 ∷ 29 ∷ []) false
unfolding spec.paths spec.more_paths
paths_exact =
    pair_exact_0 kind (λ x xs. x ∷ xs) g.path spec.path (0 ∷ 1 ∷ 2 ∷ 3 ∷ []) (29 ∷ []) (λ _. part.any_number (part.after kind 28 g.path)) (λ _. spec.more_paths) (28 ∷ []) (28 ∷ 29 ∷ []) path_exact
    (λ _. any_exact kind (part.after kind 28 g.path) (reader.after kind 28 spec.path) (28 ∷ []) (29 ∷ []) (after_exact kind 28 g.path spec.path (0 ∷ 1 ∷ 2 ∷ 3 ∷ []) (29 ∷ []) path_exact) refl) refl

within_exact : Exact kind (as_value (λ v. item.Child v.0 v.1) (both (part.after kind 11 (g.listed g.path)) (λ _. g.tail))) spec.within_child (11 ∷ []) tail_goes false
unfolding spec.within_child
within_exact =
    pair_exact kind item.Child (part.after kind 11 (g.listed g.path)) (reader.after kind 11 spec.paths) (11 ∷ []) (28 ∷ 29 ∷ 29 ∷ []) (λ _. g.tail) (λ _. spec.tail) (12 ∷ []) tail_goes
    (after_exact kind 11 (g.listed g.path) spec.paths (0 ∷ 1 ∷ 2 ∷ 3 ∷ []) (28 ∷ 29 ∷ 29 ∷ []) paths_exact) (λ _. tail_exact) refl

child_exact : Exact kind g.child spec.child (26 ∷ []) [] false
unfolding spec.child
child_exact =
    in_parentheses_exact (as_value (λ v. item.Child v.0 v.1) (both (part.after kind 11 (g.listed g.path)) (λ _. g.tail))) spec.within_child (11 ∷ []) tail_goes within_exact refl

path_item_exact : Exact kind (as_value item.Path g.path) spec.path_item (0 ∷ 1 ∷ 2 ∷ 3 ∷ []) (29 ∷ []) false
unfolding spec.path_item
path_item_exact = as_exact kind item.Path g.path spec.path (0 ∷ 1 ∷ 2 ∷ 3 ∷ []) (29 ∷ []) false path_exact

-- the kinds with which an item begins
abbrev pub item_firsts : List ℕ
item_firsts = 0 ∷ 1 ∷ 2 ∷ 3 ∷ 26 ∷ []

pub item_exact : (left : ℕ) → Exact kind (g.item_of left) (spec.item_of left) item_firsts (29 ∷ []) false
unfolding spec.item_of spec.any_item
item_exact zero =
    wider_first kind item_firsts (λ k h. elem-append k (0 ∷ 1 ∷ 2 ∷ 3 ∷ []) (26 ∷ []) ∙ or_left (elem k (0 ∷ 1 ∷ 2 ∷ 3 ∷ [])) (elem k (26 ∷ [])) h) path_item_exact
item_exact (suc left) =
    either_exact kind _ _ spec.path_item spec.child (0 ∷ 1 ∷ 2 ∷ 3 ∷ []) (29 ∷ []) (26 ∷ []) [] false path_item_exact child_exact refl

pub comma_item_exact : (left : ℕ) → Exact kind (part.after kind 28 (g.item_of left)) (reader.after kind 28 (spec.item_of left)) (28 ∷ []) (29 ∷ []) false
comma_item_exact left = after_exact kind 28 (g.item_of left) (spec.item_of left) item_firsts (29 ∷ []) (item_exact left)

items_exact : Exact kind g.items spec.items item_firsts (28 ∷ 29 ∷ 29 ∷ []) false
unfolding spec.items spec.more_items
items_exact =
    pair_exact_0 kind (λ x xs. x ∷ xs) (g.item_of 20) (spec.item_of 20) item_firsts (29 ∷ [])
    (λ first. many (λ left. part.after kind 28 (g.item_of left)) left_behind (left_behind 20 first)) (λ first. spec.more_items (left_behind 20 first)) (28 ∷ []) (28 ∷ 29 ∷ [])
    (item_exact 20)
    (λ first. many_exact kind (λ left. part.after kind 28 (g.item_of left)) (λ left. reader.after kind 28 (spec.item_of left)) left_behind (28 ∷ []) (29 ∷ []) comma_item_exact refl (left_behind 20 first)) refl

-- ---- queries
selected_exact : Exact kind (both (part.after kind 11 g.items) (λ _. g.tail)) spec.selected (11 ∷ []) tail_goes false
unfolding spec.selected
selected_exact =
    both_exact kind (part.after kind 11 g.items) (reader.after kind 11 spec.items) (11 ∷ []) (28 ∷ 29 ∷ 29 ∷ []) false (λ _. g.tail) (λ _. spec.tail) (12 ∷ []) tail_goes false
    (after_exact kind 11 g.items spec.items item_firsts (28 ∷ 29 ∷ 29 ∷ []) items_exact) (λ _. tail_exact) refl

abbrev pub whole_goes : List ℕ
whole_goes = 20 ∷ tail_goes

pub whole_exact : Exact kind g.whole spec.whole (11 ∷ []) whole_goes false
unfolding g.whole spec.whole
whole_exact =
    pair_exact_0 kind (λ s n. record { select = s.0; tail = s.1; offset = n }) (both (part.after kind 11 g.items) (λ _. g.tail)) spec.selected (11 ∷ []) tail_goes
    (λ _. g.counted sign.Offset 2000) (λ _. spec.offset) (20 ∷ []) (20 ∷ []) selected_exact (λ _. offset_exact) refl
