-- What no rule refuses leads to fields, by the layouts.
use Rattle.std.proofs.Common.{◌≡◌, ◌⊎◌, ℕ, true, List, [], ◌∷◌, ◌++◌, map, Option, Some, None, refl, inl, inr}
use Rattle.std.specs.List.{AllByRecursion, list_all}
use Rattle.base_lemmas.proofs.Bools.{and_first as and_left, and_second as and_right}
use Rattle.soql.specs.declared.query.Item.{Item}
use Rattle.soql.specs.declared.query.Item.TheVariants as item
use Rattle.soql.specs.declared.query.Path.{Path}
use Rattle.soql.specs.declared.query.Query.{Query}
use Rattle.soql.specs.declared.query.Tail.{Tail}
use Rattle.model.specs.declared.refusal.Refusal.TheVariants.{InvalidField}
use Rattle.model.specs.Asking.{item_name, spelled_path}
use Rattle.model.specs.Cases.{in_case}
use Rattle.model.specs.Rules.{first_of}
use Rattle.model.specs.Tests.{tests}
use Rattle.model.specs.Flat.{is_flat_item}
use Rattle.store_abstraction.specs.Layouts.{own_layouts}
use Rattle.store_abstraction.specs.declared.layout.Layout.{Layout}
use Rattle.query_check.specs.Reaching.{Reaches}
use Rattle.query_check.specs.declared.rules.Rule.TheVariants as rule
use Rattle.query_bind.specs.inner.Members.{IsLed}
use Rattle.query_check.specs.Rules.{all_tests_rule, child_rule, child_tests_rule, each_rule, item_rule, items_rule, mentioned_in, names_rule, no_field, path_name, path_rule, paths_rule, query_rule, rule_in, tail_rule}
use Rattle.query_bind.specs.inner.Selecting.{ItemServes}
use Rattle.query_bind.specs.inner.Spots.{Serve, Setting}
use Rattle.query_bind.specs.inner.Tails.{TailServes}
use Rattle.query_check.specs.Ways.{child_layout, path_column_in}
use Rattle.query_check.proofs.Clean.{first_none, not_refused, rest_none, some_column}
use Rattle.query_check.proofs.Flatness.{parts_of}
use Rattle.query_bind.proofs.Tailed.{IsFlatTail, tail_serves}

module _ (s : Setting) (ls : List Layout) where
  -- these layouts are those of all objects
  abbrev AreAll : Type 0
  AreAll = ls ≡ own_layouts s.org s.plan (Some s.asked.tenant)

  -- ---- paths

  pub path_led : (l : Layout) (before : List (List ℕ)) (p : Path) → Serve s ls p.names → path_rule ls l before p ≡ None → IsLed s ls l p
  path_led l before p serve none =
      let c = some_column (path_column_in ls l p.names) (not_refused _ _ (first_none (no_field ls l p.names) (mentioned_in before (spelled_path p.names) ∷ []) none)) in
      record { serve = serve; column = c.0; there = c.1 }

  pub paths_led : AreAll → (l : Layout) (before : List (List ℕ)) (ps : List Path) → paths_rule ls l before ps ≡ None → AllByRecursion (IsLed s ls l) ps
  unfolding each_rule
  paths_led all l before [] none = tt
  paths_led all l before (p ∷ ps) none =
      let behind = paths_rule ls l (before ++ path_name p ∷ []) ps in (
        path_led l before p (inr all) (first_none (path_rule ls l before p) (behind ∷ []) none),
        paths_led all l (before ++ path_name p ∷ []) ps (first_none behind [] (rest_none (path_rule ls l before p) (behind ∷ []) none)),
      )

  module _ (l : Layout) where
    -- ---- child subqueries

    pub child_serves : AreAll → (before : List (List ℕ)) (paths : List Path) (tail : Tail) → item_rule ls l before (item.Child paths tail) ≡ None
        → child_tests_rule ls l rule.Id (item.Child paths tail) ≡ None → ItemServes s ls l (item.Child paths tail)
    child_serves all before paths tail names ids = by (child_layout ls l tail.from) refl names ids
      where
        by : (o : Option Layout) → child_layout ls l tail.from ≡ o → in_case o (Some (InvalidField tail.from)) (λ c. child_rule ls c before paths tail) ≡ None
            → in_case o None (λ c. first_of (rule_in ls c rule.Id) (tests tail.condition)) ≡ None → ItemServes s ls l (item.Child paths tail)
        by None is names ids = absurd cc
        by (Some c) is names ids =
            let own = paths_rule ls c [] paths in
            let again = mentioned_in before tail.from in
            let rest = tail_rule ls c tail in
            let no_rest = first_none rest [] (rest_none again (rest ∷ []) (rest_none own (again ∷ rest ∷ []) names)) in (
              all,
              record { layout = c; there = is; led = paths_led all c [] paths (first_none own (again ∷ rest ∷ []) names); chosen = tail_serves s ls c tail (inr all) no_rest ids },
            )

    -- ---- what is selected

    abbrev Served : List Item → Type 0
    Served xs = (list_all is_flat_item xs ≡ true) ⊎ AreAll

    item_serves : (before : List (List ℕ)) (x : Item) → (is_flat_item x ≡ true) ⊎ AreAll → item_rule ls l before x ≡ None
        → child_tests_rule ls l rule.Id x ≡ None → ItemServes s ls l x
    item_serves before (item.Path p) serve names ids = path_led l before p serve names
    item_serves before (item.Child paths tail) (inl flat) names ids = absurd cc
    item_serves before (item.Child paths tail) (inr all) names ids = child_serves all before paths tail names ids

    front : (x : Item) (xs : List Item) → Served (x ∷ xs) → (is_flat_item x ≡ true) ⊎ AreAll
    front x xs (inl flat) = inl (and_left (is_flat_item x) (list_all is_flat_item xs) flat)
    front x xs (inr all) = inr all

    behind : (x : Item) (xs : List Item) → Served (x ∷ xs) → Served xs
    behind x xs (inl flat) = inl (and_right (is_flat_item x) (list_all is_flat_item xs) flat)
    behind x xs (inr all) = inr all

    pub items_serve : (before : List (List ℕ)) (xs : List Item) → Served xs → items_rule ls l before xs ≡ None → first_of (child_tests_rule ls l rule.Id) xs ≡ None
        → AllByRecursion (ItemServes s ls l) xs
    unfolding each_rule
    items_serve before [] serve names ids = tt
    items_serve before (x ∷ xs) serve names ids =
        let later = items_rule ls l (before ++ item_name x ∷ []) xs in (
          item_serves before x (front x xs serve) (first_none (item_rule ls l before x) (later ∷ []) names)
              (first_none (child_tests_rule ls l rule.Id x) (map (child_tests_rule ls l rule.Id) xs) ids),
          items_serve (before ++ item_name x ∷ []) xs (behind x xs serve) (first_none later [] (rest_none (item_rule ls l before x) (later ∷ []) names))
              (rest_none (child_tests_rule ls l rule.Id x) (map (child_tests_rule ls l rule.Id) xs) ids),
        )

    -- ---- a query

    pub record QueryServes (q : Query) : Type 0 where
      pub items : AllByRecursion (ItemServes s ls l) q.select
      pub tail : TailServes s ls l q.tail

    served : (q : Query) → Reaches s.org s.plan s.asked.tenant ls q → Served q.select
    served q (inl flat) = inl (parts_of q flat).items
    served q (inr all) = inr all.1

    tail_served : (q : Query) → Reaches s.org s.plan s.asked.tenant ls q → IsFlatTail q.tail ⊎ AreAll
    tail_served q (inl flat) = let parts = parts_of q flat in inl (record { tests = parts.tested; keys = parts.keys })
    tail_served q (inr all) = inr all.1

    pub query_serves : (q : Query) → Reaches s.org s.plan s.asked.tenant ls q → query_rule ls l q ≡ None → QueryServes q
    query_serves q reach none =
        let items = items_rule ls l [] q.select in
        let rest = tail_rule ls l q.tail in
        let names = names_rule ls l q in
        let suited = all_tests_rule ls l rule.Suits q in
        let spelled = all_tests_rule ls l rule.Id q in
        let of_items = first_of (child_tests_rule ls l rule.Id) q.select in
        let of_tail = first_of (rule_in ls l rule.Id) (tests q.tail.condition) in
        let no_names = first_none names (suited ∷ spelled ∷ []) none in
        let no_ids = first_none spelled [] (rest_none suited (spelled ∷ []) (rest_none names (suited ∷ spelled ∷ []) none)) in
        record {
          items = items_serve [] q.select (served q reach) (first_none items (rest ∷ []) no_names) (first_none of_items (of_tail ∷ []) no_ids);
          tail = tail_serves s ls l q.tail (tail_served q reach) (first_none rest [] (rest_none items (rest ∷ []) no_names))
              (first_none of_tail [] (rest_none of_items (of_tail ∷ []) no_ids));
        }
