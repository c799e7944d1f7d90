-- A query is refused by the layouts of all objects as by the model.
use Rattle.std.proofs.Common.{◌≡◌, ℕ, Bool, true, false, cond, eqb, List, [], ◌∷◌, map, Option, Some, None, refl, sym, ap, ◌∙◌, inl, inr}
use Rattle.std.specs.Prelude.{position}
use Rattle.std.specs.List.{list_all}
use Rattle.std.specs.Option.{option_and_then, option_map, option_or}
use Rattle.base_lemmas.proofs.Numbers.{eqb-self as eqb_same}
use Rattle.std.proofs.lemmas.Option.{same_Some as some_is}
use Rattle.soql.specs.declared.query.Item.{Item}
use Rattle.soql.specs.declared.query.Item.TheVariants as item
use Rattle.soql.specs.declared.query.Path.{Path}
use Rattle.soql.specs.declared.query.Query.{Query}
use Rattle.soql.specs.declared.query.Tail.{Tail}
use Rattle.model.specs.declared.refusal.Refusal.TheVariants.{InvalidField}
use Rattle.model.specs.Asking.{bad_path, bad_tail, item_name, mentioned, path_column, query_rules}
use Rattle.model.specs.Cases.{in_case, with_before}
use Rattle.model.specs.Relationships.{Reference, child_named, parent_named}
use Rattle.model.specs.Rules.{first_of, first_refusal, refuse_if}
use Rattle.model.specs.Sound.{IsSound}
use Rattle.model.specs.Tenant.{Tenant}
use Rattle.model.specs.Tests.{Tested, tests}
use Rattle.store_abstraction.specs.declared.layout.Layout.{Layout}
use Rattle.store_abstraction.specs.Layouts.{IsLayout, own_layout, own_layouts}
use Rattle.store_abstraction.specs.Plan.{OrgPlan}
use Rattle.query_plan.specs.declared.paths.children.ChildStep.{ChildStep}
use Rattle.query_plan.specs.declared.paths.parents.ParentStep.{ParentStep}
use Rattle.query_plan.specs.paths.ByLayout.{child_by, child_of, is_child}
use Rattle.query_plan.specs.paths.Ways.{child_step, parent_step}
use Rattle.query_plan.proofs.ByLayout.{child_by_layouts, layout_is, none_is, numbered_layout, parent_by_layout, read_is}
use Rattle.query_plan.proofs.Owned.{parent_has}
use Rattle.query_plan.proofs.Sound.{target_there}
use Rattle.query_check.specs.Reaching.{Reaches}
use Rattle.query_check.specs.declared.rules.Rule as own
use Rattle.query_check.specs.Columns.{placed}
use Rattle.query_check.specs.Rules.{child_rule, mentioned_in, query_rule, rule_in, tail_rule}
use Rattle.query_check.specs.Ways.{child_layout, layout_at, parent_layout, path_column_in}
use Rattle.query_check.proofs.Judged.{Mentions, flat_alike, judged, own_column, paths_same, tail_same, test_rule, tests_same}

all_true : {X : Type 0} (xs : List X) → list_all (λ x. true) xs ≡ true
all_true [] = refl
all_true (x ∷ xs) = all_true xs

-- ---- the layout by which a child relationship is found

module _ (n : ℕ) (name : List ℕ) where
  abbrev child_at : ℕ → ℕ → ChildStep
  child_at object i = record { object = object; field = i }

  of_object : (object : ℕ) (i : Option ℕ) (s : ChildStep) → option_map (child_at object) i ≡ Some s → object ≡ s.object
  of_object object None s e = absurd cc
  of_object object (Some i) s e = ap (λ (x : ChildStep). x.object) (some_is (child_at object i) s e)

  child_there : (ls : List Layout) (s : ChildStep) → child_of n name ls ≡ Some s → (c : Layout) × (layout_at ls s.object ≡ Some c)
  child_there [] s e = absurd cc
  child_there (k ∷ ks) s e = by (eqb k.object s.object) refl (λ later. child_there ks s later)
    where
      clash : false ≡ true → ⊥
      clash e = cc

      behind : (o : Option ChildStep) → child_by n name k ≡ o → option_or o (child_of n name ks) ≡ Some s → eqb k.object s.object ≡ false
          → (child_of n name ks ≡ Some s → (c : Layout) × (layout_at ks s.object ≡ Some c)) → (c : Layout) × (layout_at ks s.object ≡ Some c)
      behind None is e differ more = more e
      behind (Some other) is e differ more =
          let same : k.object ≡ s.object = of_object k.object (position (is_child n name) k.fields) s (is ∙ e) in
          absurd (clash (sym differ ∙ ap (λ (m : ℕ). eqb m s.object) same ∙ eqb_same s.object))

      by : (b : Bool) → eqb k.object s.object ≡ b → (child_of n name ks ≡ Some s → (c : Layout) × (layout_at ks s.object ≡ Some c)) → (c : Layout) × (layout_at (k ∷ ks) s.object ≡ Some c)
      by true is more = (k, ap (λ (b : Bool). cond b (Some k) (layout_at ks s.object)) is)
      by false is more =
          let rest = behind (child_by n name k) refl e is more in
          (rest.0, ap (λ (b : Bool). cond b (Some k) (layout_at ks s.object)) is ∙ rest.1)

module _ (org : ℕ) (q : OrgPlan) (t : Tenant) (sound : IsSound t) (ls : List Layout) (all : ls ≡ own_layouts org q (Some t)) where
  -- ---- paths

  parent_is : (l : Layout) (name : List ℕ) → IsLayout q t l → parent_layout ls l name ≡ option_and_then (λ f. own_layout org f.target q (Some t)) (parent_named t l.object name)
  unfolding parent_layout
  parent_is l name laid =
      ap (option_and_then (λ (s : ParentStep). layout_at ls s.target)) (parent_by_layout q t l name laid)
      ∙ by (parent_named t l.object name)
    where
      by : (f : Option Reference) → option_and_then (λ (s : ParentStep). layout_at ls s.target) (option_map parent_step f) ≡ option_and_then (λ (f : Reference). own_layout org f.target q (Some t)) f
      by None = refl
      by (Some f) = numbered_layout org f.target q t ls all

  pub column_same : (l : Layout) → IsLayout q t l → (ns : List (List ℕ)) → option_map placed (path_column t l.object ns) ≡ path_column_in ls l ns
  column_same l laid [] = refl
  column_same l laid (name ∷ []) = own_column q t l name laid
  column_same l laid (name ∷ next ∷ names) =
      by (parent_named t l.object name) refl (λ c h. column_same c h (next ∷ names))
      ∙ sym (ap (λ (o : Option Layout). in_case o None (λ (c : Layout). path_column_in ls c (next ∷ names))) (parent_is l name laid))
    where
      by : (f : Option Reference) → parent_named t l.object name ≡ f
          → ((c : Layout) → IsLayout q t c → option_map placed (path_column t c.object (next ∷ names)) ≡ path_column_in ls c (next ∷ names))
          → option_map placed (in_case f None (λ f. path_column t f.target (next ∷ names)))
          ≡ in_case (option_and_then (λ f. own_layout org f.target q (Some t)) f) None (λ c. path_column_in ls c (next ∷ names))
      by None is more = refl
      by (Some f) is more = at (own_layout org f.target q (Some t)) refl
        where
          at : (o : Option Layout) → own_layout org f.target q (Some t) ≡ o
              → option_map placed (path_column t f.target (next ∷ names)) ≡ in_case o None (λ c. path_column_in ls c (next ∷ names))
          at None none =
              let it = layout_is q t l laid in
              absurd (target_there t sound l.object it.object f it.there (parent_has t l.object it.object name f it.there is) ((none_is org f.target q t).0 none))
          at (Some c) some =
              let read = read_is org f.target q t c some in
              ap (λ (m : ℕ). option_map placed (path_column t m (next ∷ names))) (sym read.number) ∙ more c read.layout

  -- ---- child subqueries

  child_same : {X : Type 0} (l : Layout) (name : List ℕ) (none : X) (g : Layout → X) (h : Reference → X)
      → ((f : Reference) (c : Layout) → IsLayout q t c → c.object ≡ f.object → g c ≡ h f) → in_case (child_layout ls l name) none g ≡ in_case (child_named t l.object name) none h
  unfolding child_layout
  child_same {X = X} l name none g h one = by (child_named t l.object name) (child_by_layouts org q t ls l.object name all)
    where
      by : (f : Option Reference) → child_of l.object name ls ≡ option_map child_step f
          → in_case (option_and_then (λ (s : ChildStep). layout_at ls s.object) (child_of l.object name ls)) none g ≡ in_case f none h
      by None is = ap (λ (o : Option ChildStep). in_case (option_and_then (λ (s : ChildStep). layout_at ls s.object) o) none g) is
      by (Some f) is =
          let there = child_there l.object name ls (child_step f) is in
          let read = read_is org f.object q t there.0 (sym (numbered_layout org f.object q t ls all) ∙ there.1) in
          ap (λ (o : Option ChildStep). in_case (option_and_then (λ (s : ChildStep). layout_at ls s.object) o) none g) is
          ∙ ap (λ (o : Option Layout). in_case o none g) there.1
          ∙ one f there.0 read.layout read.number

  abbrev whole : List (List ℕ) → Bool
  whole ns = true

  child_rule_same : (before : List (List ℕ)) (nearest : List Item) (paths : List Path) (tail : Tail) (c : Layout) (n : ℕ) → IsLayout q t c → c.object ≡ n → Mentions item_name before nearest
      → child_rule ls c before paths tail
      ≡ first_refusal (first_of (λ x. bad_path t n (map item.Path x.before) x.it) (with_before [] paths) ∷ mentioned nearest tail.from ∷ bad_tail t n tail ∷ [])
  child_rule_same before nearest paths tail c n laid number same =
      let is = λ (ns : List (List ℕ)) (h : true ≡ true). column_same c laid ns in
      let model = λ (m : ℕ). first_refusal (first_of (λ x. bad_path t m (map item.Path x.before) x.it) (with_before [] paths) ∷ mentioned nearest tail.from ∷ bad_tail t m tail ∷ []) in
      ap (λ r. first_refusal (r ∷ mentioned_in before tail.from ∷ tail_rule ls c tail ∷ [])) (paths_same t c.object ls c whole is paths (all_true paths))
      ∙ ap (λ b. first_refusal (first_of (λ x. bad_path t c.object (map item.Path x.before) x.it) (with_before [] paths) ∷ refuse_if b (InvalidField tail.from) ∷ tail_rule ls c tail ∷ [])) (same tail.from)
      ∙ ap (λ r. first_refusal (first_of (λ x. bad_path t c.object (map item.Path x.before) x.it) (with_before [] paths) ∷ mentioned nearest tail.from ∷ r ∷ []))
      (tail_same t c.object ls c whole is tail (all_true (tests tail.condition)) (all_true tail.order))
      ∙ ap model number

  child_tests_same : (r : own.Rule) (tail : Tail) (c : Layout) (n : ℕ) → IsLayout q t c → c.object ≡ n
      → first_of (rule_in ls c r) (tests tail.condition) ≡ first_of (test_rule t r) (map (λ (x : Tested). (n, x)) (tests tail.condition))
  child_tests_same r tail c n laid number =
      tests_same t c.object ls c whole (λ ns h. column_same c laid ns) r (tests tail.condition) (all_true (tests tail.condition))
      ∙ ap (λ (m : ℕ). first_of (test_rule t r) (map (λ (x : Tested). (m, x)) (tests tail.condition))) number

  in_cases : (r : own.Rule) (l : Layout) (tail : Tail)
      → in_case (child_named t l.object tail.from) None (λ f. first_of (test_rule t r) (map (λ (x : Tested). (f.object, x)) (tests tail.condition)))
      ≡ first_of (test_rule t r) (in_case (child_named t l.object tail.from) [] (λ f. map (λ x. (f.object, x)) (tests tail.condition)))
  in_cases r l tail = by (child_named t l.object tail.from)
    where
      by : (f : Option Reference) → in_case f None (λ f. first_of (test_rule t r) (map (λ (x : Tested). (f.object, x)) (tests tail.condition)))
          ≡ first_of (test_rule t r) (in_case f [] (λ f. map (λ x. (f.object, x)) (tests tail.condition)))
      by None = refl
      by (Some f) = refl

  -- ---- a query

  all_alike : (l : Layout) (k : Query) → IsLayout q t l → query_rule ls l k ≡ first_refusal (query_rules t l.object k)
  all_alike l k laid =
      judged t l.object ls l whole (λ ns h. column_same l laid ns) (λ x. true) (λ x h. refl)
      (λ before nearest paths tail h same. child_same l tail.from (Some (InvalidField tail.from)) (λ c. child_rule ls c before paths tail)
      (λ f. first_refusal (first_of (λ x. bad_path t f.object (map item.Path x.before) x.it) (with_before [] paths) ∷ mentioned nearest tail.from ∷ bad_tail t f.object tail ∷ []))
      (λ f c laid number. child_rule_same before nearest paths tail c f.object laid number same))
      (λ r paths tail h. child_same l tail.from None (λ c. first_of (rule_in ls c r) (tests tail.condition))
      (λ f. first_of (test_rule t r) (map (λ (x : Tested). (f.object, x)) (tests tail.condition))) (λ f c laid number. child_tests_same r tail c f.object laid number)
      ∙ in_cases r l tail)
      k (all_true k.select) (all_true (tests k.tail.condition)) (all_true k.tail.order)

pub refused_alike : (org : ℕ) (q : OrgPlan) (t : Tenant) (ls : List Layout) (l : Layout) (k : Query) → IsLayout q t l → Reaches org q t ls k → query_rule ls l k ≡ first_refusal (query_rules t l.object k)
refused_alike org q t ls l k laid (inl flat) = flat_alike q t ls l k flat laid
refused_alike org q t ls l k laid (inr all) = all_alike org q t all.0 ls all.1 l k laid
