-- The plan of a query that nothing refuses means the query.
use Rattle.std.proofs.Common.{◌≡◌, ◌≤◌, ◌+◌, ◌-◌, ℕ, Bool, true, List, [], ◌∷◌, length, map, Option, None, refl, sym, ap, subst, ◌∙◌, arith, append-nil, zero-add, ℤ}
use Rattle.std.specs.List.{AllByRecursion, list_all, sum_by}
use Rattle.std.specs.Option.{unwrap_or}
use Rattle.std.proofs.lemmas.List.Sums.{sum_by-cons}
use Rattle.base_lemmas.proofs.Lists.{nil_from_no_length as no_length}
use Rattle.base_lemmas.proofs.Bools.{and_first as and_left, and_second as and_right}
use Rattle.soql.specs.declared.query.Item.{Item}
use Rattle.soql.specs.declared.query.Item.TheVariants as item
use Rattle.soql.specs.declared.query.OrderKey.{OrderKey}
use Rattle.soql.specs.declared.query.Query.{Query}
use Rattle.base_value.specs.Printing.{day_of_moment}
use Rattle.model.specs.declared.record.Record.{Record}
use Rattle.model.specs.Asking.{query_rules}
use Rattle.model.specs.Cases.{in_case}
use Rattle.model.specs.Fields.{value_in}
use Rattle.model.specs.Membership.{Has}
use Rattle.model.specs.Objects.{records_of}
use Rattle.model.specs.Paths.{Asked}
use Rattle.model.specs.RowsJson.{field_name, object_json, object_name, row_json}
use Rattle.model.specs.Rules.{first_refusal}
use Rattle.model.specs.Sound.{IsSound}
use Rattle.model.specs.Tests.{Tested, tests}
use Rattle.store_abstraction.specs.Layouts.{IsLayout}
use Rattle.store_abstraction.specs.Plan.{OrgPlan}
use Rattle.store_abstraction.specs.declared.layout.Layout.{Layout}
use Rattle.model.specs.Flat.{has_one_name, is_flat, is_flat_item, is_flat_test}
use Rattle.model.specs.Shown.{item_children_shown, item_steps, path_steps, query_steps, tail_steps}
use Rattle.query_plan.specs.paths.Branches.{AddsBranches}
use Rattle.query_plan.specs.declared.paths.branches.Branch.{Branch}
use Rattle.query_plan.specs.declared.check.Site.TheVariants as site
use Rattle.query_bind.specs.declared.choosing.BoundTail.{BoundTail}
use Rattle.query_check.specs.declared.columns.Column.{Column}
use Rattle.query_plan.specs.declared.plan.ChildPlan.{ChildPlan}
use Rattle.query_plan.specs.declared.plan.Member.TheVariants as member
use Rattle.query_plan.specs.declared.plan.Plan.{Plan}
use Rattle.query_plan.specs.declared.plan.Shown.TheVariants as shown
use Rattle.query_bind.specs.declared.selecting.Selection.{Selection}
use Rattle.query_plan.specs.Checks.{site_of}
use Rattle.query_plan.specs.Plans.{Means, ShownValue, child_shown, children_by, parents_by, selected_value, shown_value}
use Rattle.query_check.specs.Reaching.{Reaches}
use Rattle.query_plan.specs.Shown.{Shows, ShowsJson, row_text, type_and_address}
use Rattle.query_check.specs.Columns.{name_at}
use Rattle.query_bind.specs.inner.Members.{IsLed}
use Rattle.query_bind.specs.inner.Selecting.{BindsItems, ItemServes, own_shown}
use Rattle.query_bind.specs.inner.Spots.{IsOf, Setting, far_of}
use Rattle.query_bind.specs.inner.Tails.{BindsTail}
use Rattle.query_check.proofs.Flatness.{parts_of}
use Rattle.query_check.proofs.Reaching.{refused_alike}
use Rattle.query_bind.proofs.Records.{known_of}
use Rattle.query_bind.proofs.Serving.{query_serves}
use Rattle.query_bind.proofs.Tailed.{tail_chooses}

-- ---- the values of fields

module _ (s : Setting) (ls : List Layout) (l : Layout) (r : Record) (of_it : IsOf s l r) where
  value_is : (ns : List (List ℕ)) → has_one_name ns ≡ true → IsLed s ls l (record { names = ns })
      → shown_value [] r (own_shown l (item.Path (record { names = ns }))) ≡ selected_value s.asked r (item.Path (record { names = ns }))
  value_is [] one led = absurd cc
  value_is (name ∷ more ∷ names) one led = absurd cc
  value_is (name ∷ []) one led =
      let a = s.asked in
      let c = led.column in
      let f = (known_of s.plan a l (day_of_moment a.now) r of_it.laid of_it.sound refl of_it.has).found name c led.there in
      let there : ShownValue = record { name = name_at l c.site; value = value_in (site_of c.site) r } in
      ap
      (λ (o : Option Column).
      shown_value [] r
      (shown.Member
      (in_case o (member.Field name (record { branch = None; site = site.Id })) (λ (c : Column). member.Field (name_at l c.site) (record { branch = None; site = c.site })))))
      led.there
      ∙ ap (λ n. record there { name = n }) (sym f.declared)
      ∙ ap (λ v. record there { name = field_name a r name; value = v }) (sym f.value)

  item_is : (x : Item) → is_flat_item x ≡ true → ItemServes s ls l x → shown_value [] r (own_shown l x) ≡ selected_value s.asked r x
  item_is (item.Path p) flat serve = value_is p.names flat serve
  item_is (item.Child paths tail) flat serve = absurd cc

  pub values_are : (xs : List Item) → list_all is_flat_item xs ≡ true → AllByRecursion (ItemServes s ls l) xs
      → map (shown_value [] r) (map (own_shown l) xs) ≡ map (selected_value s.asked r) xs
  values_are [] flat serve = refl
  values_are (x ∷ xs) flat serve =
      ap (λ v. v ∷ map (shown_value [] r) (map (own_shown l) xs)) (item_is x (and_left (is_flat_item x) (list_all is_flat_item xs) flat) serve.0)
      ∙ ap (λ vs. selected_value s.asked r x ∷ vs) (values_are xs (and_right (is_flat_item x) (list_all is_flat_item xs) flat) serve.1)

-- ---- a flat query has no steps

no_steps : (names : List (List ℕ)) → has_one_name names ≡ true → length names - 1 ≡ 0
no_steps [] one = absurd cc
no_steps (name ∷ []) one = refl
no_steps (name ∷ more ∷ names) one = absurd cc

item_no_steps : (x : Item) → is_flat_item x ≡ true → item_steps x ≡ 0
item_no_steps (item.Path p) flat = no_steps p.names flat
item_no_steps (item.Child paths tail) flat = absurd cc

none_of : {X : Type 0} (p : X → Bool) (f : X → ℕ) → ((x : X) → p x ≡ true → f x ≡ 0) → (xs : List X) → list_all p xs ≡ true → sum_by f xs ≡ 0
none_of p f each [] all = refl
none_of p f each (x ∷ xs) all =
    sum_by-cons f x xs ∙ ap (λ n. n + sum_by f xs) (each x (and_left (p x) (list_all p xs) all)) ∙ zero-add (sum_by f xs) ∙ none_of p f each xs (and_right (p x) (list_all p xs) all)

nothing : (a b c : ℕ) → a ≡ 0 → b ≡ 0 → c ≡ 0 → a + (b + c) ≡ 0
nothing a b c x y z = omega (arith, x, y, z)

flat_no_steps : (q : Query) → is_flat q ≡ true → query_steps q ≡ 0
flat_no_steps q flat =
    let parts = parts_of q flat in
    let tested = λ (x : Tested). length x.names - 1 in
    let ordered = λ (k : OrderKey). path_steps k.path in
    let by_tests = none_of is_flat_test tested (λ x h. no_steps x.names h) (tests q.tail.condition) parts.tested in
    let by_keys = none_of (λ (k : OrderKey). has_one_name k.path.names) ordered (λ k h. no_steps k.path.names h) q.tail.order parts.keys in
    let by_items = none_of is_flat_item item_steps item_no_steps q.select parts.items in
    nothing (sum_by item_steps q.select) (sum_by tested (tests q.tail.condition)) (sum_by ordered q.tail.order) by_items by_tests by_keys

within : (first mid new all items tail : ℕ) → first ≡ 0 → mid ≤ first + items → new ≤ mid + tail → all ≡ new → all ≤ items + tail
within first mid new all items tail none one two same = omega (arith, none, one, two, same)

-- what is selected is bound first, and the tail behind it
pub few_branches : (q : Query) (first mid new bs : List Branch) → first ≡ [] → length mid ≤ length first + sum_by item_steps q.select
    → length new ≤ length mid + tail_steps q.tail → bs ≡ new → length bs ≤ query_steps q
few_branches q first mid new bs none items tail same =
    within (length first) (length mid) (length new) (length bs) (sum_by item_steps q.select) (tail_steps q.tail) (ap length none) items tail (ap length same)

pub no_branches : (q : Query) (bs : List Branch) → length bs ≤ query_steps q → is_flat q ≡ true → bs ≡ []
no_branches q bs few flat = no_length bs (subst (λ n. length bs ≤ n) (flat_no_steps q flat) few)

-- what is known of what is selected is of the query's own list
pub few_of : (xs ys : List Item) (first mid : List Branch) (plans : List ChildPlan) → xs ≡ ys
    → (length mid ≤ length first + sum_by item_steps xs) × (sum_by child_shown plans ≤ sum_by item_children_shown xs)
    → (length mid ≤ length first + sum_by item_steps ys) × (sum_by child_shown plans ≤ sum_by item_children_shown ys)
few_of xs ys first mid plans same few =
    subst (λ (xs : List Item). (length mid ≤ length first + sum_by item_steps xs) × (sum_by child_shown plans ≤ sum_by item_children_shown xs)) same few

-- ---- a query that nothing refuses

-- what the plan of a query has: what is selected, bound first, and the tail, whose branches may be behind
pub record IsPlan (ls : List Layout) (l : Layout) (day : ℤ) (q : Query) (mid new : List Branch) (sel : Selection) (b : BoundTail) (p : Plan) : Type 0 where
  pub items : BindsItems ls l day q.select mid sel
  pub own : list_all is_flat_item q.select ≡ true → (sel.shown ≡ map (own_shown l) q.select) × (sel.children ≡ [])
  pub tail : BindsTail ls l day q.tail new b
  pub adds : AddsBranches mid new
  pub branches : p.choice.branches ≡ new
  pub check : p.choice.check ≡ b.check
  pub order : p.choice.order ≡ b.order
  pub skip : p.choice.skip ≡ unwrap_or q.offset 0
  pub most : p.choice.most ≡ q.tail.limit
  pub shown : p.shown ≡ sel.shown
  pub children : p.children ≡ sel.children

module _ (ls : List Layout) (l : Layout) (day : ℤ) (q : Query) (mid new : List Branch) (sel : Selection) (b : BoundTail) (p : Plan) (is : IsPlan ls l day q mid new sel b p) where
  module _ (s : Setting) (shows : Shows) (json : ShowsJson s.asked.tenant shows) (r : Record) (of_it : IsOf s l r) where
    row_shown : day ≡ day_of_moment s.asked.now → AllByRecursion (ItemServes s ls l) q.select
        → row_text shows (object_name s.asked r) p.shown (parents_by s.asked p.choice r) (map (children_by s.asked r) p.children) r ≡ row_json s.asked r q.select
    row_shown today serve =
        let a = s.asked in
        let object = object_name a r in
        ap (λ xs. row_text shows object xs (far_of s r p.choice.branches) (map (children_by a r) p.children) r) is.shown
        ∙ ap (λ kids. row_text shows object sel.shown (far_of s r p.choice.branches) (map (children_by a r) kids) r) is.children
        ∙ ap (λ (bs : List Branch). row_text shows object sel.shown (far_of s r bs) (map (children_by a r) sel.children) r) (is.branches ∙ is.adds.behind)
        ∙ ap (λ texts. object_json (type_and_address object r.id ∷ texts)) (is.items s shows r today serve of_it json is.adds.more)

  pub means : (org : ℕ) (plan : OrgPlan) (a : Asked) → Reaches org plan a.tenant ls q → IsLayout plan a.tenant l → IsSound a.tenant → day ≡ day_of_moment a.now
      → first_refusal (query_rules a.tenant l.object q) ≡ None → Means a l.object q p
  means org plan a reach laid sound today none =
      let s : Setting = record { org = org; plan = plan; asked = a } in
      let serves = query_serves s ls l q reach (refused_alike org plan a.tenant ls l q laid reach ∙ none) in
      let of_it : (r : Record) → Has (records_of a.tenant l.object) r → IsOf s l r = λ r h. record { laid = laid; sound = sound; has = h } in
      record {
        chooses = tail_chooses s ls l day q.tail new [] b (unwrap_or q.offset 0) p.choice is.tail serves.tail today laid sound
            (is.branches ∙ sym (append-nil new)) is.check is.order is.skip is.most;
        shown = λ shows json r h. row_shown s shows json r (of_it r h) today serves.items;
        flat = λ flat r h.
            let parts = parts_of q flat in
            ap (λ xs. map (shown_value [] r) xs) (is.shown ∙ (is.own parts.items).0)
            ∙ values_are s ls l r (of_it r h) q.select parts.items serves.items;
      }
