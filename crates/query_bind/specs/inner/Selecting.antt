-- What is selected, whose names are places.
use Rattle.std.specs.Prelude.{◌≡◌, ℕ, true, List, [], ◌∷◌, ◌++◌, length, map, Some, None, ℤ, slice_get, unwrap_or}
use Rattle.std.specs.List.{AllByRecursion, flat_map}
use Rattle.base_value.specs.Printing.{day_of_moment}
use Rattle.soql.specs.declared.query.Item.{Item}
use Rattle.soql.specs.declared.query.Item.TheVariants as item
use Rattle.soql.specs.declared.query.Path.{Path}
use Rattle.soql.specs.declared.query.Tail.{Tail}
use Rattle.model.specs.declared.record.Record.{Record}
use Rattle.model.specs.Cases.{in_case, with_before}
use Rattle.model.specs.RowsJson.{children_json, item_member, member_json, row_within}
use Rattle.store_abstraction.specs.Layouts.{own_layouts}
use Rattle.store_abstraction.specs.declared.layout.Layout.{Layout}
use Rattle.model.specs.Flat.{has_one_name}
use Rattle.query_plan.specs.declared.paths.branches.Branch.{Branch}
use Rattle.query_plan.specs.declared.paths.children.ChildStep.{ChildStep}
use Rattle.query_plan.specs.declared.plan.Child.{Child}
use Rattle.query_plan.specs.declared.plan.ChildPlan.{ChildPlan}
use Rattle.query_plan.specs.declared.plan.Shown.{Shown}
use Rattle.query_plan.specs.declared.plan.Shown.TheVariants as shown
use Rattle.query_bind.specs.declared.selecting.BoundChild.{BoundChild}
use Rattle.query_bind.specs.declared.selecting.Selection.{Selection}
use Rattle.query_plan.specs.Plans.{children_by}
use Rattle.query_plan.specs.Shown.{Shows, ShowsJson, child_text, member_text, shown_text}
use Rattle.query_bind.specs.inner.Members.{IsLed, Sees, field_member}
use Rattle.query_check.specs.Rules.{own_name}
use Rattle.query_bind.specs.inner.Spots.{IsOf, Setting, far_of}
use Rattle.query_bind.specs.inner.Tails.{BindsTail, TailServes}
use Rattle.query_check.specs.Ways.{child_layout}

-- ---- what nothing refuses

-- a child subquery: its relationship is there, and by the layout of its object nothing refuses its paths, nor its tail
pub record ChildServes (s : Setting) (ls : List Layout) (l : Layout) (paths : List Path) (tail : Tail) : Type 0 where
  pub layout : Layout
  pub there : child_layout ls l tail.from ≡ Some layout
  pub led : AllByRecursion (IsLed s ls layout) paths
  pub chosen : TailServes s ls layout tail

-- one of what is selected
abbrev pub ItemServes : Setting → List Layout → Layout → Item → Type 0
ItemServes s ls l (item.Path p) = IsLed s ls l p
ItemServes s ls l (item.Child paths tail) = (ls ≡ own_layouts s.org s.plan (Some s.asked.tenant)) × ChildServes s ls l paths tail

-- ---- child subqueries

-- the name of the child relationship by a field of this layout, as it is declared
abbrev pub child_name : Layout → (field : ℕ) → (spelled : List ℕ) → List ℕ
child_name l field spelled = in_case (slice_get l.fields field) spelled (λ f. unwrap_or f.child spelled)

-- of a relationship to the records of the object with this layout: what its names, its members and its tail are bound to
pub record BindsFound (ls : List Layout) (child : Layout) (by : ChildStep) (day : ℤ) (paths : List Path) (tail : Tail) (b : BoundChild) : Type 0 where
  pub name : b.name ≡ child_name child by.field tail.from
  pub object : b.object ≡ child.name
  pub step : b.plan.step ≡ by
  pub members :
      (s : Setting) (shows : Shows) (r : Record) → Sees s shows ls child paths r
      → map (member_text shows (far_of s r b.plan.choice.branches) r) b.members
      ≡ flat_map (λ x. item_member (row_within 5 s.asked) s.asked r (map item.Path paths) x.before x.it) (with_before [] (map item.Path paths))
  pub rows : BindsTail ls child day tail b.plan.choice.branches (record { check = b.plan.choice.check; order = b.plan.choice.order })
  pub skip : b.plan.choice.skip ≡ 0
  pub most : b.plan.choice.most ≡ tail.limit

-- on this day a subquery that nothing refuses shows of a record what the definition has of it
abbrev pub BindsChild : List Layout → Layout → ℤ → List Path → Tail → BoundChild → Type 0
BindsChild ls l day paths tail b =
    (s : Setting) (shows : Shows) (r : Record) → day ≡ day_of_moment s.asked.now → ItemServes s ls l (item.Child paths tail) → IsOf s l r
    → ShowsJson s.asked.tenant shows → (selected before : List Item)
    → member_json b.name (children_json (map (child_text shows b.object b.members) (children_by s.asked r b.plan))) ∷ []
    ≡ item_member (row_within 6 s.asked) s.asked r selected before (item.Child paths tail)

-- ---- what is selected

-- how many paths this is
abbrev pub count_of : Item → ℕ
count_of (item.Path p) = 1
count_of (item.Child paths tail) = 0

-- the name of a path that has one
abbrev pub item_own_name : Item → List ℕ
item_own_name (item.Path p) = in_case (own_name p.names) [] (λ name. name)
item_own_name (item.Child paths tail) = []

-- what is shown by a path of one name: a field of the row's own record
abbrev pub own_shown : Layout → Item → Shown
own_shown l x = shown.Member (field_member l None (item_own_name x))

-- whatever branches and subqueries follow, a path adds what the definition has of it
pub record AddsPath (ls : List Layout) (l : Layout) (path : Path) (before all : List Path) (bs : List Branch) (old new : List Shown) : Type 0 where
  pub added : List Shown
  pub grown : new ≡ old ++ added
  pub texts :
      (s : Setting) (shows : Shows) (r : Record) → Sees s shows ls l all r → IsLed s ls l path → (more : List Branch) (kids : List (List Child))
      → map (shown_text shows (far_of s r (bs ++ more)) kids r) added
      ≡ item_member (row_within 6 s.asked) s.asked r (map item.Path all) (map item.Path before) (item.Path path)
  pub own : has_one_name path.names ≡ true → added ≡ own_shown l (item.Path path) ∷ []

-- a child subquery is added behind those before, and what it shows
pub record AddsChild (ls : List Layout) (l : Layout) (day : ℤ) (paths : List Path) (tail : Tail) (old : List Shown) (plans : List ChildPlan) (new : List Shown) (new_plans : List ChildPlan)
    : Type 0 where
  pub child : BoundChild
  pub binds : BindsChild ls l day paths tail child
  pub grown : new ≡ old ++ shown.Children child.name (length plans) child.object child.members ∷ []
  pub planned : new_plans ≡ plans ++ child.plan ∷ []

-- one of what is selected
abbrev pub AddsItem : List Layout → Layout → ℤ → Item → (before all : List Path) → List Branch → List Shown → List ChildPlan → List Shown → List ChildPlan → Type 0
AddsItem ls l day (item.Path p) before all bs old plans new new_plans = AddsPath ls l p before all bs old new × (new_plans ≡ plans)
AddsItem ls l day (item.Child paths tail) before all bs old plans new new_plans = AddsChild ls l day paths tail old plans new new_plans

-- whatever branches follow, on this day what nothing refuses shows of a record what the definition has of it
abbrev pub BindsItems : List Layout → Layout → ℤ → List Item → List Branch → Selection → Type 0
BindsItems ls l day items bs sel =
    (s : Setting) (shows : Shows) (r : Record) → day ≡ day_of_moment s.asked.now → AllByRecursion (ItemServes s ls l) items → IsOf s l r
    → ShowsJson s.asked.tenant shows → (more : List Branch)
    → map (shown_text shows (far_of s r (bs ++ more)) (map (children_by s.asked r) sel.children) r) sel.shown
    ≡ flat_map (λ x. item_member (row_within 6 s.asked) s.asked r items x.before x.it) (with_before [] items)
