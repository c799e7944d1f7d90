-- A query is refused by layouts as by the model.
use Rattle.std.proofs.Common.{◌≡◌, ℕ, Bool, true, false, not, ◌||◌, cond, List, [], ◌∷◌, ◌++◌, map, Option, Some, None, is_none, refl, sym, ap, ◌∙◌, flat_map}
use Rattle.std.specs.List.{list_all, list_any}
use Rattle.std.specs.Option.{option_and_then, option_map}
use Rattle.std.proofs.Math.Bool.{or-false, or_comm}
use Rattle.std.proofs.lemmas.List.Folds.{list_any-append}
use Rattle.std.proofs.lemmas.Simd.{map-map as map_twice}
use Rattle.base_lemmas.proofs.Bools.{and_first as and_left, and_second as and_right}
use Rattle.soql.specs.declared.query.Item.{Item}
use Rattle.soql.specs.declared.query.Item.TheVariants as item
use Rattle.soql.specs.declared.query.Path.{Path}
use Rattle.soql.specs.declared.query.Query.{Query}
use Rattle.soql.specs.declared.query.Tail.{Tail}
use Rattle.base_value.specs.declared.value.FieldType.TheVariants as type
use Rattle.model.specs.declared.refusal.Refusal.TheVariants.{InvalidField, InvalidFilter}
use Rattle.model.specs.Asking.{all_tests, bad_child, bad_item, bad_path, bad_tail, bad_test, child_tests, item_name, literals_of, path_column, query_rules, spelled_path, test_no_id, text_no_id, unknown_path}
use Rattle.model.specs.Cases.{in_case, with_before}
use Rattle.model.specs.Fields as model
use Rattle.model.specs.Fields.{Content, column_named, of_ids, of_type, same_name}
use Rattle.model.specs.Rules.{Rule, first_of, first_refusal, refuse_if}
use Rattle.model.specs.Tenant.{Object, Tenant}
use Rattle.model.specs.Tests.{Tested, holds_ids, suits_of, tests, way_suits}
use Rattle.store_abstraction.specs.Layouts.{IsLayout}
use Rattle.store_abstraction.specs.Plan.{OrgPlan}
use Rattle.store_abstraction.specs.declared.layout.Layout.{Layout}
use Rattle.query_check.specs.declared.columns.Column.{Column}
use Rattle.query_check.specs.declared.rules.Rule as own
use Rattle.query_check.specs.declared.rules.Rule.TheVariants as rule
use Rattle.model.specs.Flat.{is_flat, is_flat_item, has_one_name}
use Rattle.query_check.specs.Columns.{column_in, family_of, placed}
use Rattle.query_check.specs.Rules.{all_tests_rule, child_tests_rule, each_rule, is_ids, item_rule, items_rule, key_rule, mentioned_in, no_field, no_id, no_suit, path_name, path_rule, paths_rule, query_rule, rule_in, suits_in, tail_rule}
use Rattle.query_check.specs.Ways.{path_column_in}
use Rattle.query_check.proofs.Flatness.{parts_of}
use Rattle.query_check.proofs.Joined.{column_is, object_there}
use Rattle.query_check.proofs.Tests.{first_later, first_there, one_rule}

-- ---- what suits

suits_same : (c : Content) → suits_in (family_of c) ≡ suits_of c
suits_same of_ids = refl
suits_same (of_type (type.Text most)) = refl
suits_same (of_type (type.Number digits decimals)) = refl
suits_same (of_type type.Checkbox) = refl
suits_same (of_type type.Day) = refl
suits_same (of_type type.Moment) = refl
suits_same (of_type (type.Picklist values)) = refl
suits_same (of_type (type.Lookup object on_delete)) = refl
suits_same (of_type (type.Master object)) = refl

ids_same : (c : Content) → is_ids (family_of c) ≡ holds_ids c
ids_same of_ids = refl
ids_same (of_type (type.Text most)) = refl
ids_same (of_type (type.Number digits decimals)) = refl
ids_same (of_type type.Checkbox) = refl
ids_same (of_type type.Day) = refl
ids_same (of_type type.Moment) = refl
ids_same (of_type (type.Picklist values)) = refl
ids_same (of_type (type.Lookup object on_delete)) = refl
ids_same (of_type (type.Master object)) = refl

-- ---- refusals

-- rules within rules
flattened : (r : Rule) (rs : List Rule) → first_refusal (r ∷ first_refusal rs ∷ []) ≡ first_refusal (r ∷ rs)
flattened (Some q) rs = refl
flattened None rs = one_rule (first_refusal rs)

none_same : (o : Option model.Column) → is_none (option_map placed o) ≡ is_none o
none_same None = refl
none_same (Some m) = refl

case_same : (o : Option model.Column) (g : Column → Rule) (h : model.Column → Rule) → ((m : model.Column) → g (placed m) ≡ h m) → in_case (option_map placed o) None g ≡ in_case o None h
case_same None g h e = refl
case_same (Some m) g h e = e m

-- two rules that agree on what passes a test
map_same : {X Y : Type 0} (f g : X → Y) (p : X → Bool) (xs : List X) → list_all p xs ≡ true → ((x : X) → p x ≡ true → f x ≡ g x) → map f xs ≡ map g xs
map_same f g p [] all e = refl
map_same f g p (x ∷ xs) all e =
    ap (λ y. y ∷ map f xs) (e x (and_left (p x) (list_all p xs) all)) ∙ ap (λ ys. g x ∷ ys) (map_same f g p xs (and_right (p x) (list_all p xs) all) e)

-- the field of one name
pub own_column : (p : OrgPlan) (t : Tenant) (l : Layout) (name : List ℕ) → IsLayout p t l → option_map placed (path_column t l.object (name ∷ [])) ≡ column_in l name
own_column p t l name e =
    let o = object_there p t l e in
    ap (λ (x : Option Object). option_map placed (option_and_then (λ o. column_named o name) x)) o.1 ∙ column_is p t l o.0 name o.2

-- ---- lists of rules

-- one list behind another
first_joined : {X : Type 0} (f : X → Rule) (xs ys : List X) → first_refusal (first_of f xs ∷ first_of f ys ∷ []) ≡ first_of f (xs ++ ys)
first_joined f xs ys = by (first_of f xs) refl
  where
    by : (o : Rule) → first_of f xs ≡ o → first_refusal (o ∷ first_of f ys ∷ []) ≡ first_of f (xs ++ ys)
    by None e = one_rule (first_of f ys) ∙ sym (first_later f xs ys e)
    by (Some r) e = sym (first_there f xs ys r e)

first_within : {X Y : Type 0} (f : Y → Rule) (h : X → List Y) (xs : List X) → first_of (λ x. first_of f (h x)) xs ≡ first_of f (flat_map h xs)
first_within f h [] = refl
first_within f h (x ∷ xs) =
    sym (flattened (first_of f (h x)) (map (λ x. first_of f (h x)) xs))
    ∙ ap (λ r. first_refusal (first_of f (h x) ∷ r ∷ [])) (first_within f h xs)
    ∙ first_joined f (h x) (flat_map h xs)

-- names, in their order, and what has them, the nearest first
module _ {X : Type 0} (name : X → List ℕ) where
  abbrev pub Mentions : List (List ℕ) → List X → Type 0
  Mentions before nearest = (n : List ℕ) → list_any (λ x. same_name x n) before ≡ list_any (λ x. same_name (name x) n) nearest

  more_mentions : (before : List (List ℕ)) (nearest : List X) (x : X) → Mentions before nearest → Mentions (before ++ name x ∷ []) (x ∷ nearest)
  more_mentions before nearest x same n =
      list_any-append (λ x. same_name x n) before (name x ∷ [])
      ∙ ap (λ b. b || (same_name (name x) n || false)) (same n)
      ∙ or_comm (list_any (λ x. same_name (name x) n) nearest) (same_name (name x) n || false)
      ∙ ap (λ b. b || list_any (λ x. same_name (name x) n) nearest) (or-false (same_name (name x) n))

  each_same : (ok : X → Bool) (rule : List (List ℕ) → X → Rule) (model : List X → X → Rule)
      → ((before : List (List ℕ)) (nearest : List X) (x : X) → ok x ≡ true → Mentions before nearest → rule before x ≡ model nearest x)
      → (before : List (List ℕ)) (nearest xs : List X) → list_all ok xs ≡ true → Mentions before nearest
      → each_rule name rule before xs ≡ first_of (λ x. model x.before x.it) (with_before nearest xs)
  unfolding each_rule
  each_same ok rule model one before nearest [] all same = refl
  each_same ok rule model one before nearest (x ∷ xs) all same =
      ap (λ r. first_refusal (r ∷ each_rule name rule (before ++ name x ∷ []) xs ∷ [])) (one before nearest x (and_left (ok x) (list_all ok xs) all) same)
      ∙ ap (λ r. first_refusal (model nearest x ∷ r ∷ []))
      (each_same ok rule model one (before ++ name x ∷ []) (x ∷ nearest) xs (and_right (ok x) (list_all ok xs) all) (more_mentions before nearest x same))
      ∙ flattened (model nearest x) (map (λ x. model x.before x.it) (with_before (x ∷ nearest) xs))

paths_named : (n : List ℕ) (paths : List Path) → list_any (λ p. same_name (path_name p) n) paths ≡ list_any (λ x. same_name (item_name x) n) (map item.Path paths)
paths_named n [] = refl
paths_named n (p ∷ paths) = ap (λ b. same_name (path_name p) n || b) (paths_named n paths)

-- the model's rule of tests
abbrev pub test_rule : Tenant → own.Rule → ℕ × Tested → Rule
test_rule t rule.Name x = unknown_path t x.0 x.1.names
test_rule t rule.Suits x = bad_test t x
test_rule t rule.Id x = test_no_id t x

-- ---- by a layout that finds the fields of these paths

module _ (t : Tenant) (n : ℕ) (ls : List Layout) (l : Layout) (p : List (List ℕ) → Bool) (is : (ns : List (List ℕ)) → p ns ≡ true → option_map placed (path_column t n ns) ≡ path_column_in ls l ns) where
  unknown_same : (ns : List (List ℕ)) → p ns ≡ true → no_field ls l ns ≡ unknown_path t n ns
  unknown_same ns e =
      ap (λ o. refuse_if (is_none o) (InvalidField (spelled_path ns))) (sym (is ns e))
      ∙ ap (λ b. refuse_if b (InvalidField (spelled_path ns))) (none_same (path_column t n ns))

  test_same : (r : own.Rule) (x : Tested) → p x.names ≡ true → rule_in ls l r x ≡ test_rule t r (n, x)
  test_same rule.Name x e = unknown_same x.names e
  test_same rule.Suits x e =
      let g = λ (c : Column). no_suit c.family x.names x.way in
      ap (λ o. in_case o None g) (sym (is x.names e))
      ∙ case_same (path_column t n x.names) g (λ (m : model.Column). refuse_if (not (way_suits (suits_of m.content) x.way)) (InvalidFilter (spelled_path x.names)))
      (λ m. ap (λ s. refuse_if (not (way_suits s x.way)) (InvalidFilter (spelled_path x.names))) (suits_same m.content))
  test_same rule.Id x e =
      let g = λ (c : Column). no_id c.family x.way in
      ap (λ o. in_case o None g) (sym (is x.names e))
      ∙ case_same (path_column t n x.names) g (λ (m : model.Column). cond (holds_ids m.content) (first_of text_no_id (literals_of x.way)) None)
      (λ m. ap (λ b. cond b (first_of text_no_id (literals_of x.way)) None) (ids_same m.content))

  pub tests_same : (r : own.Rule) (xs : List Tested) → list_all (λ x. p x.names) xs ≡ true → first_of (rule_in ls l r) xs ≡ first_of (test_rule t r) (map (λ (x : Tested). (n, x)) xs)
  tests_same r xs all =
      ap first_refusal (map_same (rule_in ls l r) (λ x. test_rule t r (n, x)) (λ x. p x.names) xs all (λ x e. test_same r x e))
      ∙ ap first_refusal (sym (map_twice (test_rule t r) (λ (x : Tested). (n, x)) xs))

  pub tail_same : (tail : Tail) → list_all (λ x. p x.names) (tests tail.condition) ≡ true → list_all (λ k. p k.path.names) tail.order ≡ true → tail_rule ls l tail ≡ bad_tail t n tail
  tail_same tail tested keys =
      ap (λ r. first_refusal (r ∷ first_of (key_rule ls l) tail.order ∷ []))
      (ap first_refusal (map_same (rule_in ls l rule.Name) (λ x. unknown_path t n x.names) (λ x. p x.names) (tests tail.condition) tested (λ x e. unknown_same x.names e)))
      ∙ ap (λ r. first_refusal (first_of (λ (x : Tested). unknown_path t n x.names) (tests tail.condition) ∷ r ∷ []))
      (ap first_refusal (map_same (key_rule ls l) (λ k. unknown_path t n k.path.names) (λ k. p k.path.names) tail.order keys (λ k e. unknown_same k.path.names e)))

  pub path_same : (before : List (List ℕ)) (nearest : List Item) (x : Path) → p x.names ≡ true → Mentions item_name before nearest → path_rule ls l before x ≡ bad_path t n nearest x
  path_same before nearest x e same =
      ap (λ r. first_refusal (r ∷ mentioned_in before (spelled_path x.names) ∷ [])) (unknown_same x.names e)
      ∙ ap (λ b. first_refusal (unknown_path t n x.names ∷ refuse_if b (InvalidField (spelled_path x.names)) ∷ [])) (same (spelled_path x.names))

  pub paths_same : (paths : List Path) → list_all (λ x. p x.names) paths ≡ true → paths_rule ls l [] paths ≡ first_of (λ x. bad_path t n (map item.Path x.before) x.it) (with_before [] paths)
  paths_same paths all =
      each_same path_name (λ x. p x.names) (path_rule ls l) (λ nearest x. bad_path t n (map item.Path nearest) x)
      (λ before nearest x e same. path_same before (map item.Path nearest) x e (λ name. same name ∙ paths_named name nearest))
      [] [] paths all (λ name. refl)

  -- ---- a query whose items are such

  module _ (fine : Item → Bool) (path_fine : (x : Path) → fine (item.Path x) ≡ true → p x.names ≡ true)
      (child_same : (before : List (List ℕ)) (nearest : List Item) (paths : List Path) (tail : Tail) → fine (item.Child paths tail) ≡ true → Mentions item_name before nearest
      → item_rule ls l before (item.Child paths tail) ≡ bad_child t n nearest paths tail)
      (child_tests_same : (r : own.Rule) (paths : List Path) (tail : Tail) → fine (item.Child paths tail) ≡ true
      → child_tests_rule ls l r (item.Child paths tail) ≡ first_of (test_rule t r) (child_tests t n (item.Child paths tail))) where
    item_same : (before : List (List ℕ)) (nearest : List Item) (x : Item) → fine x ≡ true → Mentions item_name before nearest → item_rule ls l before x ≡ bad_item t n nearest x
    item_same before nearest (item.Path x) e same = path_same before nearest x (path_fine x e) same
    item_same before nearest (item.Child paths tail) e same = child_same before nearest paths tail e same

    item_tests_same : (r : own.Rule) (x : Item) → fine x ≡ true → child_tests_rule ls l r x ≡ first_of (test_rule t r) (child_tests t n x)
    item_tests_same r (item.Path x) e = refl
    item_tests_same r (item.Child paths tail) e = child_tests_same r paths tail e

    all_same : (r : own.Rule) (q : Query) → list_all fine q.select ≡ true → list_all (λ x. p x.names) (tests q.tail.condition) ≡ true → all_tests_rule ls l r q ≡ first_of (test_rule t r) (all_tests t n q)
    all_same r q items tested =
        ap (λ o. first_refusal (o ∷ first_of (rule_in ls l r) (tests q.tail.condition) ∷ []))
        (ap first_refusal (map_same (child_tests_rule ls l r) (λ x. first_of (test_rule t r) (child_tests t n x)) fine q.select items (λ x e. item_tests_same r x e))
        ∙ first_within (test_rule t r) (child_tests t n) q.select)
        ∙ ap (λ o. first_refusal (first_of (test_rule t r) (flat_map (child_tests t n) q.select) ∷ o ∷ [])) (tests_same r (tests q.tail.condition) tested)
        ∙ first_joined (test_rule t r) (flat_map (child_tests t n) q.select) (map (λ (x : Tested). (n, x)) (tests q.tail.condition))

    pub judged : (q : Query) → list_all fine q.select ≡ true → list_all (λ x. p x.names) (tests q.tail.condition) ≡ true → list_all (λ k. p k.path.names) q.tail.order ≡ true
        → query_rule ls l q ≡ first_refusal (query_rules t n q)
    judged q items tested keys =
        let selected : items_rule ls l [] q.select ≡ first_of (λ x. bad_item t n x.before x.it) (with_before [] q.select) =
        each_same item_name fine (item_rule ls l) (bad_item t n) item_same [] [] q.select items (λ name. refl) in
        ap (λ r. first_refusal (first_refusal (r ∷ tail_rule ls l q.tail ∷ []) ∷ all_tests_rule ls l rule.Suits q ∷ all_tests_rule ls l rule.Id q ∷ [])) selected
        ∙ ap (λ r. first_refusal (first_refusal (first_of (λ x. bad_item t n x.before x.it) (with_before [] q.select) ∷ r ∷ []) ∷ all_tests_rule ls l rule.Suits q ∷ all_tests_rule ls l rule.Id q ∷ []))
        (tail_same q.tail tested keys)
        ∙ ap (λ r. first_refusal (first_refusal (first_of (λ x. bad_item t n x.before x.it) (with_before [] q.select) ∷ bad_tail t n q.tail ∷ []) ∷ r ∷ all_tests_rule ls l rule.Id q ∷ []))
        (all_same rule.Suits q items tested)
        ∙ ap (λ r. first_refusal (first_refusal (first_of (λ x. bad_item t n x.before x.it) (with_before [] q.select) ∷ bad_tail t n q.tail ∷ []) ∷ first_of (bad_test t) (all_tests t n q) ∷ r ∷ []))
        (all_same rule.Id q items tested)

-- ---- flat queries

-- of each tenant whose layout it is, whatever the others are
pub flat_alike : (p : OrgPlan) (t : Tenant) (ls : List Layout) (l : Layout) (q : Query) → is_flat q ≡ true → IsLayout p t l → query_rule ls l q ≡ first_refusal (query_rules t l.object q)
flat_alike p t ls l q flat e =
    let parts = parts_of q flat in
    judged t l.object ls l has_one_name one is_flat_item (λ x h. h) (λ before nearest paths tail h same. absurd cc) (λ r paths tail h. absurd cc) q parts.items parts.tested parts.keys
  where
    one : (ns : List (List ℕ)) → has_one_name ns ≡ true → option_map placed (path_column t l.object ns) ≡ path_column_in ls l ns
    one [] h = absurd cc
    one (name ∷ []) h = own_column p t l name e
    one (name ∷ next ∷ names) h = absurd cc
