-- What rows show of what is selected, one after the other.
use Rattle.std.proofs.Common.{◌≡◌, ℕ, zero, suc, ◌+◌, ◌≤◌, Bool, true, false, ◌||◌, cond, List, [], ◌∷◌, ◌++◌, map, filter_map, flat_map, length, drop, take, Option, Some, None, is_some, refl, sym, ap, subst, ◌∙◌, arith, add-one, append_assoc, append-nil, ℤ}
use Rattle.std.specs.Prelude.{slice_get}
use Rattle.std.specs.List.{AllByRecursion, cons_option, list_all, list_any}
use Rattle.std.proofs.Math.Bool.{or-false, or_comm}
use Rattle.std.proofs.lemmas.List.Folds.{list_any-append}
use Rattle.std.proofs.lemmas.List.{map-append as map_both}
use Rattle.base_lemmas.proofs.Lists.{same_head as first_is, same_tail as behind_is, nil_not_cons as no_first}
use Rattle.base_lemmas.proofs.Bools.{and_first as and_left, and_second as and_right}
use Rattle.std.proofs.lemmas.Option.{same_Some as some_is}
use Rattle.base_json.specs.Printing.{printed_null}
use Rattle.base_value.specs.Printing.{day_of_moment}
use Rattle.soql.specs.declared.query.Item.{Item}
use Rattle.soql.specs.declared.query.Item.TheVariants as item
use Rattle.soql.specs.declared.query.Path.{Path}
use Rattle.soql.specs.declared.query.Tail.{Tail}
use Rattle.model.specs.declared.record.Record.{Record}
use Rattle.model.specs.Cases.{Placed, in_case, with_before}
use Rattle.model.specs.Paths.{Asked, parent_of}
use Rattle.model.specs.RowsJson.{RowJson, behind_relationship, children_json, item_member, member_json, parent_json, parent_relationship, path_member, row_within}
use Rattle.store_abstraction.specs.declared.layout.Layout.{Layout}
use Rattle.model.specs.Flat.{has_one_name, is_flat_item}
use Rattle.query_plan.specs.paths.Branches.{AddsBranches, record_above}
use Rattle.query_plan.specs.declared.paths.branches.Branch.{Branch}
use Rattle.query_plan.specs.declared.paths.branches.Place.{Place}
use Rattle.query_plan.specs.declared.plan.Child.{Child}
use Rattle.query_plan.specs.declared.plan.ChildPlan.{ChildPlan}
use Rattle.query_plan.specs.declared.plan.Member.{Member}
use Rattle.query_plan.specs.declared.plan.Shown.{Shown}
use Rattle.query_plan.specs.declared.plan.Shown.TheVariants as shown
use Rattle.query_bind.specs.declared.selecting.Selection.{Selection}
use Rattle.query_plan.specs.Plans.{children_by}
use Rattle.query_plan.specs.Shown.{Shows, ShowsJson, child_text, children_at, shown_text}
use Rattle.query_bind.specs.inner.Members.{IsLed, Sees, ShowsPath, field_member}
use Rattle.query_check.specs.Rules.{own_name}
use Rattle.query_bind.specs.Cells.{paths_in}
use Rattle.query_bind.specs.inner.Selecting.{AddsChild, AddsItem, AddsPath, BindsItems, ItemServes, count_of, own_shown}
use Rattle.query_bind.specs.inner.Spots.{IsOf, Setting, far_of}
use Rattle.query_bind.proofs.Tested.{behind_both}

-- ---- paths among what is selected

-- a path goes on behind the relationship with this name
abbrev pub begins : List ℕ → Item → Bool
begins name x = is_some (behind_relationship name x)

-- what goes on behind a relationship are paths alone
behind_paths : (name : List ℕ) (items : List Item) → filter_map (behind_relationship name) items ≡ filter_map (behind_relationship name) (map item.Path (paths_in items))
behind_paths name [] = refl
behind_paths name (item.Path p ∷ items) = ap (cons_option (behind_relationship name (item.Path p))) (behind_paths name items)
behind_paths name (item.Child paths tail ∷ items) = behind_paths name items

-- what is selected before, and the paths before: some of both go on behind the same relationships
abbrev pub BeginAlike : List Item → List Path → Type 0
BeginAlike near before = (name : List ℕ) → list_any (begins name) near ≡ list_any (begins name) (map item.Path before)

path_alone : (write_row : RowJson) (a : Asked) (r : Record) (items near : List Item) (before : List Path) → BeginAlike near before → (names : List (List ℕ))
    → path_member write_row a r items near names ≡ path_member write_row a r (map item.Path (paths_in items)) (map item.Path before) names
path_alone write_row a r items near before alike [] = refl
path_alone write_row a r items near before alike (name ∷ []) = refl
path_alone write_row a r items near before alike (name ∷ next ∷ names) =
    ap (λ (b : Bool). cond b [] (member_json (parent_relationship a r name) (parent_json write_row a r items name) ∷ [])) (alike name)
    ∙ ap (λ (xs : List Item). cond (list_any (begins name) (map item.Path before)) [] (member_json (parent_relationship a r name) (in_case (parent_of a r name) printed_null (λ (s : Record). write_row s xs)) ∷ []))
    (behind_paths name items)

-- ---- lists

pushed_at : {X Y : Type 0} (f : X → Y) (xs : List X) (y : Y) (later : List Y) → slice_get (map f xs ++ y ∷ later) (length xs) ≡ Some y
pushed_at f [] y later = refl
pushed_at f (x ∷ xs) y later = pushed_at f xs y later

-- one more of the first few
record OneMore {X : Type 0} (n : ℕ) (xs ys : List X) (x : X) : Type 0 where
  taken : take (suc n) xs ≡ take n xs ++ x ∷ []
  left : drop (suc n) xs ≡ ys
  within : suc n ≤ length xs

one_more : {X : Type 0} (n : ℕ) (xs ys : List X) (x : X) → drop n xs ≡ x ∷ ys → OneMore n xs ys x
one_more zero [] ys x e = absurd (no_first x ys e)
one_more zero (z ∷ xs) ys x e = record { taken = ap (λ y. y ∷ []) (first_is z x xs ys e); left = behind_is z x xs ys e; within = omega arith }
one_more (suc n) [] ys x e = absurd (no_first x ys e)
one_more (suc n) (z ∷ xs) ys x e =
    let it = one_more n xs ys x e in
    record { taken = ap (λ ws. z ∷ ws) it.taken; left = it.left; within = omega (arith, it.within) }

pub led_in : (s : Setting) (ls : List Layout) (l : Layout) (items : List Item) → AllByRecursion (ItemServes s ls l) items → AllByRecursion (IsLed s ls l) (paths_in items)
led_in s ls l [] all = tt
led_in s ls l (item.Path p ∷ items) all = (all.0, led_in s ls l items all.1)
led_in s ls l (item.Child paths tail ∷ items) all = led_in s ls l items all.1

-- ---- a path

-- from the row's own record: a member is added, or none
module _ (ls : List Layout) (from : Place) (top : from.branch ≡ None) (path : Path) (before all : List Path) (bs : List Branch) (old new : List Shown) where
  abbrev named_by : List (List ℕ) → List Shown
  named_by names = shown.Member (field_member from.layout.now None (in_case (own_name names) [] (λ name. name))) ∷ []

  pub path_adds : (m : Member) → ShowsPath ls from 6 path before all bs (Some m) → ((name : List ℕ) → path.names ≡ name ∷ [] → ◌≡◌ {A = Option Member} (Some m) (Some (field_member from.layout.now from.branch name)))
      → new ≡ old ++ shown.Member m ∷ [] → AddsPath ls from.layout.now path before all bs old new
  path_adds m shows own grown = record {
    added = shown.Member m ∷ [];
    grown = grown;
    texts = λ s how r sees led more kids. shows s how r r sees led more (ap (record_above r (far_of s r (bs ++ more))) top);
    own = λ one. by path.names refl one;
  }
    where
      by : (names : List (List ℕ)) → path.names ≡ names → has_one_name names ≡ true → shown.Member m ∷ [] ≡ named_by path.names
      by [] e one = absurd cc
      by (name ∷ []) e one =
          ap (λ (x : Member). shown.Member x ∷ []) (some_is m (field_member from.layout.now from.branch name) (own name e) ∙ ap (λ (b : Option ℕ). field_member from.layout.now b name) top)
          ∙ ap named_by (sym e)
      by (name ∷ next ∷ names) e one = absurd cc

  pub path_adds_nothing : ShowsPath ls from 6 path before all bs None → ((name : List ℕ) → path.names ≡ name ∷ [] → ◌≡◌ {A = Option Member} None (Some (field_member from.layout.now from.branch name)))
      → new ≡ old → AddsPath ls from.layout.now path before all bs old new
  path_adds_nothing shows own same = record {
    added = [];
    grown = same ∙ sym (append-nil old);
    texts = λ s how r sees led more kids. shows s how r r sees led more (ap (record_above r (far_of s r (bs ++ more))) top);
    own = λ one. by path.names refl one;
  }
    where
      nothing : (x : Member) → ◌≡◌ {A = Option Member} None (Some x) → ⊥
      nothing x e = cc

      by : (names : List (List ℕ)) → path.names ≡ names → has_one_name names ≡ true → [] ≡ named_by path.names
      by [] e one = absurd cc
      by (name ∷ []) e one = absurd (nothing (field_member from.layout.now from.branch name) (own name e))
      by (name ∷ next ∷ names) e one = absurd cc

-- ---- how many paths are before what is left

-- so many of all paths are before it
pub record AreCounted (all : List Path) (count : ℕ) (rest : List Item) : Type 0 where
  pub left : drop count all ≡ paths_in rest
  pub within : count ≤ length all

pub count_next : (all : List Path) (count next : ℕ) (x : Item) (rest : List Item) → next ≡ count + count_of x → AreCounted all count (x ∷ rest) → AreCounted all next rest
count_next all count next (item.Child paths tail) rest e counted =
    let same : count ≡ next = omega (arith, e) in
    subst (λ (n : ℕ). AreCounted all n rest) same (record { left = counted.left; within = counted.within })
count_next all count next (item.Path p) rest e counted =
    let it = one_more count all (paths_in rest) p counted.left in
    subst (λ (n : ℕ). AreCounted all n rest) (sym (e ∙ add-one count)) (record { left = it.left; within = it.within })

-- ---- one after the other

module _ (ls : List Layout) (l : Layout) (day : ℤ) (items : List Item) where
  abbrev text_of : Setting → Record → Placed Item → List (List ℕ)
  text_of s r x = item_member (row_within 6 s.asked) s.asked r items x.before x.it

  -- the texts of what is shown so far, and then those of the rest, are all
  abbrev Texts : List Branch → List Shown → List ChildPlan → (near rest : List Item) → Type 0
  Texts bs shown plans near rest =
      (s : Setting) (shows : Shows) (r : Record) → day ≡ day_of_moment s.asked.now → AllByRecursion (ItemServes s ls l) items → IsOf s l r → ShowsJson s.asked.tenant shows
      → (more : List Branch) (later : List (List Child))
      → map (shown_text shows (far_of s r (bs ++ more)) (map (children_by s.asked r) plans ++ later) r) shown ++ flat_map (text_of s r) (with_before near rest)
      ≡ flat_map (text_of s r) (with_before [] items)

  -- what was selected so far, by the paths among it, and what is left
  pub record SelectedSoFar (before : List Path) (bs : List Branch) (shown : List Shown) (plans : List ChildPlan) (rest : List Item) : Type 0 where
    pub near : List Item
    pub alike : BeginAlike near before
    pub serves : (s : Setting) → AllByRecursion (ItemServes s ls l) items → AllByRecursion (ItemServes s ls l) rest
    pub texts : Texts bs shown plans near rest
    pub own : list_all is_flat_item items ≡ true → (list_all is_flat_item rest ≡ true) × (shown ++ map (own_shown l) rest ≡ map (own_shown l) items) × (plans ≡ [])

  more_branches : (before : List Path) (old mid : List Branch) (shown : List Shown) (plans : List ChildPlan) (rest : List Item) → AddsBranches old mid
      → SelectedSoFar before old shown plans rest → SelectedSoFar before mid shown plans rest
  more_branches before old mid shown plans rest adds so_far = record {
    near = so_far.near;
    alike = so_far.alike;
    serves = so_far.serves;
    texts = λ s shows r today all is json more later.
        subst (λ (bs : List Branch). map (shown_text shows (far_of s r bs) (map (children_by s.asked r) plans ++ later) r) shown ++ flat_map (text_of s r) (with_before so_far.near rest) ≡ flat_map (text_of s r) (with_before [] items))
        (sym (behind_both old mid more adds)) (so_far.texts s shows r today all is json (adds.more ++ more) later);
    own = so_far.own;
  }

  path_next : (before after : List Path) (p : Path) (rest : List Item) (bs : List Branch) (shown new : List Shown) (plans : List ChildPlan) → after ≡ before ++ p ∷ [] → AddsPath ls l p before (paths_in items) bs shown new
      → SelectedSoFar before bs shown plans (item.Path p ∷ rest) → SelectedSoFar after bs new plans rest
  path_next before after p rest bs shown new plans grown adds so_far = record {
    near = item.Path p ∷ so_far.near;
    alike = λ name.
        ap (λ (b : Bool). begins name (item.Path p) || b) (so_far.alike name)
        ∙ or_comm (begins name (item.Path p)) (list_any (begins name) (map item.Path before))
        ∙ ap (λ (b : Bool). list_any (begins name) (map item.Path before) || b) (sym (or-false (begins name (item.Path p))))
        ∙ sym (list_any-append (begins name) (map item.Path before) (item.Path p ∷ []))
        ∙ ap (list_any (begins name)) (sym (map_both item.Path before (p ∷ [])) ∙ ap (map item.Path) (sym grown));
    serves = λ s all. (so_far.serves s all).1;
    texts = λ s shows r today all is json more later.
        let text = shown_text shows (far_of s r (bs ++ more)) (map (children_by s.asked r) plans ++ later) r in
        let behind = flat_map (text_of s r) (with_before (item.Path p ∷ so_far.near) rest) in
        let sees : Sees s shows ls l (paths_in items) r = record { own = is; json = json; led = led_in s ls l items all } in
        let one : map text adds.added ≡ text_of s r (record { before = so_far.near; it = item.Path p }) =
        adds.texts s shows r sees (so_far.serves s all).0 more (map (children_by s.asked r) plans ++ later)
        ∙ sym (path_alone (row_within 6 s.asked) s.asked r items so_far.near before so_far.alike p.names) in
        ap (λ (xs : List Shown). map text xs ++ behind) adds.grown
        ∙ ap (λ (ts : List (List ℕ)). ts ++ behind) (map_both text shown adds.added)
        ∙ append_assoc (map text shown) (map text adds.added) behind
        ∙ ap (λ (ts : List (List ℕ)). map text shown ++ (ts ++ behind)) one
        ∙ so_far.texts s shows r today all is json more later;
    own = λ flat.
        let o = so_far.own flat in
        let one = has_one_name p.names in
        let its : one ≡ true = and_left one (list_all is_flat_item rest) o.0 in (
          and_right one (list_all is_flat_item rest) o.0,
          ap (λ (xs : List Shown). xs ++ map (own_shown l) rest) (adds.grown ∙ ap (λ (xs : List Shown). shown ++ xs) (adds.own its)) ∙ append_assoc shown (own_shown l (item.Path p) ∷ []) (map (own_shown l) rest) ∙ o.1,
          o.2,
        );
  }

  child_next : (before : List Path) (paths : List Path) (tail : Tail) (rest : List Item) (bs : List Branch) (old new : List Shown) (plans new_plans : List ChildPlan) → AddsChild ls l day paths tail old plans new new_plans
      → SelectedSoFar before bs old plans (item.Child paths tail ∷ rest) → SelectedSoFar before bs new new_plans rest
  child_next before paths tail rest bs old new plans new_plans adds so_far = record {
    near = item.Child paths tail ∷ so_far.near;
    alike = so_far.alike;
    serves = λ s all. (so_far.serves s all).1;
    texts = λ s shows r today all is json more later.
        let f = children_by s.asked r in
        let child = adds.child in
        let far = far_of s r (bs ++ more) in
        let kids = map f plans ++ f child.plan ∷ later in
        let text = shown_text shows far kids r in
        let entry : Shown = shown.Children child.name (length plans) child.object child.members in
        let behind = flat_map (text_of s r) (with_before (item.Child paths tail ∷ so_far.near) rest) in
        let all_kids : map f new_plans ++ later ≡ kids =
        ap (λ (ps : List ChildPlan). map f ps ++ later) adds.planned ∙ ap (λ (ks : List (List Child)). ks ++ later) (map_both f plans (child.plan ∷ [])) ∙ append_assoc (map f plans) (f child.plan ∷ []) later in
        let at : children_at kids (length plans) ≡ f child.plan = ap (λ (o : Option (List Child)). in_case o [] (λ (ks : List Child). ks)) (pushed_at f plans (f child.plan) later) in
        let one : text entry ∷ [] ≡ text_of s r (record { before = so_far.near; it = item.Child paths tail }) =
        ap (λ (ks : List Child). member_json child.name (children_json (map (child_text shows child.object child.members) ks)) ∷ []) at
        ∙ adds.binds s shows r today (so_far.serves s all).0 is json items so_far.near in
        ap (λ (ks : List (List Child)). map (shown_text shows far ks r) new ++ behind) all_kids
        ∙ ap (λ (xs : List Shown). map text xs ++ behind) adds.grown
        ∙ ap (λ (ts : List (List ℕ)). ts ++ behind) (map_both text old (entry ∷ []))
        ∙ append_assoc (map text old) (text entry ∷ []) behind
        ∙ ap (λ (ts : List (List ℕ)). map text old ++ (ts ++ behind)) one
        ∙ so_far.texts s shows r today all is json more (f child.plan ∷ later);
    own = λ flat. absurd (never (so_far.own flat).0);
  }
    where
      never : false ≡ true → ⊥
      never e = cc

  pub item_next : (all : List Path) → all ≡ paths_in items → (count next : ℕ) (x : Item) (rest : List Item) (old mid : List Branch) (shown new : List Shown) (plans new_plans : List ChildPlan) → AddsBranches old mid
      → AreCounted all count (x ∷ rest) → next ≡ count + count_of x → AddsItem ls l day x (take count all) all mid shown plans new new_plans
      → SelectedSoFar (take count all) old shown plans (x ∷ rest) → SelectedSoFar (take next all) mid new new_plans rest
  item_next all is count next (item.Child paths tail) rest old mid shown new plans new_plans grows counted e adds so_far =
      let same : count ≡ next = omega (arith, e) in
      subst (λ (n : ℕ). SelectedSoFar (take n all) mid new new_plans rest) same
      (child_next (take count all) paths tail rest mid shown new plans new_plans adds (more_branches (take count all) old mid shown plans (item.Child paths tail ∷ rest) grows so_far))
  item_next all is count next (item.Path p) rest old mid shown new plans new_plans grows counted e adds so_far =
      let it = one_more count all (paths_in rest) p counted.left in
      let after : take next all ≡ take count all ++ p ∷ [] = ap (λ (n : ℕ). take n all) (e ∙ add-one count) ∙ it.taken in
      let by_items : AddsPath ls l p (take count all) (paths_in items) mid shown new = subst (λ (ps : List Path). AddsPath ls l p (take count all) ps mid shown new) is adds.0 in
      subst (λ (ps : List ChildPlan). SelectedSoFar (take next all) mid new ps rest) (sym adds.1)
      (path_next (take count all) (take next all) p rest mid shown new plans after by_items (more_branches (take count all) old mid shown plans (item.Path p ∷ rest) grows so_far))

  -- at first, and in the end
  pub none_selected : (bs : List Branch) → SelectedSoFar [] bs [] [] items
  none_selected bs = record {
    near = [];
    alike = λ name. refl;
    serves = λ s all. all;
    texts = λ s shows r today all is json more later. refl;
    own = λ flat. (flat, refl, refl);
  }

  pub all_selected : (before : List Path) (bs : List Branch) (sel : Selection) → SelectedSoFar before bs sel.shown sel.children [] → BindsItems ls l day items bs sel
  all_selected before bs sel so_far s shows r today all is json more =
      let text = λ (kids : List (List Child)). map (shown_text shows (far_of s r (bs ++ more)) kids r) sel.shown in
      ap text (sym (append-nil (map (children_by s.asked r) sel.children)))
      ∙ sym (append-nil (text (map (children_by s.asked r) sel.children ++ [])))
      ∙ so_far.texts s shows r today all is json more []

  pub all_own : (before : List Path) (bs : List Branch) (shown : List Shown) (plans : List ChildPlan) → SelectedSoFar before bs shown plans [] → list_all is_flat_item items ≡ true
      → (shown ≡ map (own_shown l) items) × (plans ≡ [])
  all_own before bs shown plans so_far flat = let o = so_far.own flat in (sym (append-nil shown) ∙ o.1, o.2)
